-- What reading and writing have to do with each other, said whole: the round trip both ways, and which texts are accepted. Assumes nothing.
use Prim.Native.Nat.{ℕ, ◌≤◌}
use mathlib.Core.Path.{◌≡◌}
use mathlib.Core.Bool.{true}
use mathlib.Core.Logic.{◌↔◌}
use mathlib.Core.List.{List}
use lib.ListN.{length}
use Rattle.std.specs.Prelude.{None, Ok}
use Rattle.fields.specs.Bytes.{bad_byte}
use Rattle.soc.specs.Rules.{good_soc}
use Rattle.soc.specs.Sized.{Sized}
use Rattle.soc.specs.declared.record.Soc.{Soc}
use Rattle.soc.specs.Limits.{text_max}
use Rattle.text_reader.specs.Reading.{read_soc}
use Rattle.text_writer.specs.WrittenSoc.{written_soc}
use Rattle.text_writer.proofs.SizeLaws.{written-short}
use Rattle.text.specs.Describes.{Describes, field_lines}
use Rattle.text.proofs.Acceptance.{accepted-good, accepted-sized, accepted_describes}
use Rattle.text.proofs.RoundTrip as back

-- a good record, written and read, is that record
pub round_trip : (s : Soc) → Sized s → good_soc s ≡ true → read_soc (written_soc s) ≡ Ok s
round_trip s sized good = back.round_trip s sized good (written-short s good)

-- the record of an accepted text, written and read again, is the same record
pub rewritten : (t : List ℕ) (s : Soc) → read_soc t ≡ Ok s → read_soc (written_soc s) ≡ Ok s
rewritten t s e = round_trip s (accepted-sized t s e) (accepted-good t s e)

-- a text of at most 61,440 allowed bytes is accepted with record s exactly when it describes s and s is good
pub accepted_exactly : (t : List ℕ) (s : Soc) → Sized s → length t ≤ text_max → bad_byte 1 t ≡ None
    → (read_soc t ≡ Ok s) ↔ (Describes s (field_lines t) × (good_soc s ≡ true))
accepted_exactly t s sized short allowed = (
  λ e. (accepted_describes t s e, accepted-good t s e),
  λ d. back.describes_accepted t s sized short allowed d.0 d.1,
)
