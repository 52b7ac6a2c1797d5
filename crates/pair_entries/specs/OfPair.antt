-- What is answered of a pair (document 02, item 3): "Refusals: base faults first, overlay faults .., then 15 .. the answer says which
-- text is meant". What is refused of the pair is refused, with its line; else the answer is that for the combined description, and what
-- the entry itself refuses is about neither text.
use Rattle.std.specs.Prelude.{Result, Ok, Err}
use Rattle.units.specs.declared.Refusal.{Refusal}
use Rattle.soc.specs.declared.record.Soc.{Soc}
use Rattle.pair.specs.declared.read.Meant.TheVariants.{Neither}
use Rattle.pair.specs.declared.read.PairRead.{PairRead}
use Rattle.pair.specs.declared.read.PairRefusal.{PairRefusal}

abbrev pub of_neither : Refusal → PairRefusal
of_neither r = record { refusal = r; meant = Neither }

-- an entry's own answer
abbrev pub its_own : {A : Type 0} → Result A Refusal → Result A PairRefusal
its_own (Ok a) = Ok a
its_own (Err r) = Err (of_neither r)

unfoldable pub of_pair : {A : Type 0} → Result PairRead PairRefusal → (Soc → Result A Refusal) → Result A PairRefusal
of_pair (Ok p) answers = its_own (answers p.soc)
of_pair (Err r) answers = Err r
