-- Laws of what the writer and the reader of plan files answer: their refusals have no line, and what was written had the room. Assumes
-- nothing.
use Prim.Native.Nat.{ℕ, ◌≤◌}
use mathlib.Core.Path.{◌≡◌, refl}
use mathlib.Core.Bool.{Bool, true, false, cond}
use mathlib.Core.List.{List}
use native.Mathlib.Omega.{arith}
use Rattle.std.specs.Prelude.{Ok, Err, IfErr}
use Rattle.units.specs.Refusals.{number_of, refused}
use Rattle.units.specs.declared.Fault.TheVariants.{BadPlan}
use Rattle.buffer.proofs.WriterAnswerLaws.{Fits, unless_fits}
use Rattle.plan_record.specs.Good.{good_plan}
use Rattle.plan_record.specs.declared.record.BusPlan.{BusPlan}
use Rattle.plan_file.specs.Bytes.{file_bytes}
use Rattle.plan_file.specs.Files.{write_answer, plan_in, good_file, read_answer}

pub write_fits : (p : BusPlan) (buf : List ℕ) → Fits buf (write_answer p buf)
unfolding write_answer
write_fits p buf = unless_fits BadPlan (file_bytes p) buf (omega arith) (good_plan p)

pub read_told : (f : List ℕ) → IfErr (read_answer f) (λ r. (number_of r.fault ≤ 14) × (r.line ≡ 0))
unfolding read_answer
read_told f = go (good_file f)
  where
    go : (t : Bool) → IfErr (cond t (Ok (plan_in f)) (Err (refused BadPlan 0))) (λ r. (number_of r.fault ≤ 14) × (r.line ≡ 0))
    go true = tt
    go false = (omega arith, refl)
