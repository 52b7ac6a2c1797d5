-- Laws of reading a plan file: what a good length says, and what the reader answers. Assumes nothing.
use Prim.Native.Nat.{ℕ, ◌≤◌}
use mathlib.Core.Path.{◌≡◌}
use mathlib.Core.Bool.{true, false}
use mathlib.Core.List.{List}
use borrow.Author.Tests.{leb-true, eqb-true}
use lib.ListN.{length}
use Rattle.std.specs.Prelude.{Ok, Err}
use Rattle.units.specs.Refusals.{refused}
use Rattle.units.specs.declared.Fault.TheVariants.{BadPlan}
use Rattle.units.proofs.TestLaws.{and_both}
use Rattle.plan_record.specs.Record.{bus_places, module_places}
use Rattle.plan_file.specs.Bytes.{trailer_length, file_length}
use Rattle.plan_file.specs.Files.{module_count, bus_count, good_length, plan_in, good_file, read_answer}

-- what a good length says
pub record Fitting (f : List ℕ) : Type 0 where
  pub long : trailer_length ≤ length f
  pub modules : module_count f ≤ module_places
  pub buses : bus_count f ≤ bus_places
  pub exact : length f ≡ file_length (module_count f) (bus_count f)

pub length-fits : (f : List ℕ) → good_length f ≡ true → Fitting f
unfolding good_length
length-fits f e =
    let a = and_both _ _ e in
    let b = and_both _ _ a.1 in
    let d = and_both _ _ b.1 in
    record {
      long = leb-true trailer_length (length f) a.0;
      modules = leb-true (module_count f) module_places b.0;
      buses = leb-true (bus_count f) bus_places d.0;
      exact = eqb-true (length f) (file_length (module_count f) (bus_count f)) d.1;
    }

-- what the reader answers
pub answer-refused : (f : List ℕ) → good_file f ≡ false → Err (refused BadPlan 0) ≡ read_answer f
unfolding read_answer
answer-refused f e = rw e

pub answer-accepted : (f : List ℕ) → good_file f ≡ true → Ok (plan_in f) ≡ read_answer f
unfolding read_answer
answer-accepted f e = rw e
