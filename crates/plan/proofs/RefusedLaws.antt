-- Laws of the first planner's limits: where they are kept, each figure is within its own; else the fault is what the planner answers. Assumes nothing.
use Prim.Native.Nat.{ℕ}
use mathlib.Core.Path.{◌≡◌, refl}
use mathlib.Core.Bool.{Bool, true, false, cond, ◌&&◌}
use lib.ListN.{length}
use lib.Dec.{leb}
use Rattle.std.specs.Prelude.{Result, Ok, Err}
use Rattle.units.specs.Refusals.{refused}
use Rattle.units.specs.declared.Fault.{Fault}
use Rattle.units.specs.declared.Fault.TheVariants.{Width, Buses, NonePlanned, ManyPlanned, Capture}
use Rattle.units.specs.declared.Refusal.{Refusal}
use Rattle.units.proofs.TestLaws.{clash}
use Rattle.soc.specs.Rules.{good_soc}
use Rattle.soc.specs.Planned.{planned_of}
use Rattle.soc.specs.declared.record.Soc.{Soc}
use Rattle.wrapper_fit.specs.Maxima.{width_max, capture_max}
use Rattle.plan_record.specs.declared.record.BusPlan.{BusPlan}
use Rattle.plan.specs.PlanAnswers.{limit_max, planned_max, plan_answer}
use Rattle.plan.specs.Refused.{limits_kept}

-- W wires, limit B, c capture cycles and n planned modules are within their limits
pub record Within (W B c n : ℕ) : Type 0 where
  pub wires : (leb 1 W && leb W width_max) ≡ true
  pub buses : (leb 1 B && leb B limit_max) ≡ true
  pub captures : (leb 1 c && leb c capture_max) ≡ true
  pub some : leb 1 n ≡ true
  pub few : leb n planned_max ≡ true

-- what is said, by what each test says
abbrev said_by : Bool → Bool → Bool → Bool → Bool → Result Unit Fault
said_by w b c s f =
    cond w (cond b (cond c (cond s (cond f (Ok tt) (Err ManyPlanned)) (Err NonePlanned)) (Err Capture)) (Err Buses)) (Err Width)

module _ (W B c n : ℕ) where
  pub none-refused : limits_kept W B c n ≡ Ok tt → Within W B c n
  unfolding limits_kept
  none-refused h =
      go (leb 1 W && leb W width_max) (leb 1 B && leb B limit_max) (leb 1 c && leb c capture_max) (leb 1 n) (leb n planned_max)
      refl refl refl refl refl h
    where
      go : (w b x s f : Bool) → (leb 1 W && leb W width_max) ≡ w → (leb 1 B && leb B limit_max) ≡ b → (leb 1 c && leb c capture_max) ≡ x
          → leb 1 n ≡ s → leb n planned_max ≡ f → said_by w b x s f ≡ Ok tt → Within W B c n
      go true true true true true d e g i j h = record { wires = d; buses = e; captures = g; some = i; few = j }
      go true true true true false d e g i j h = clash cc
      go true true true false f d e g i j h = clash cc
      go true true false s f d e g i j h = clash cc
      go true false x s f d e g i j h = clash cc
      go false b x s f d e g i j h = clash cc

pub one-refused : (s : Soc) (W B c : ℕ) {f : Fault} → good_soc s ≡ true → limits_kept W B c (length (planned_of s)) ≡ Err f
    → Err (refused f 0) ≡ plan_answer s W B c
unfolding limits_kept plan_answer
one-refused s W B c {f} good h =
    rw good
    (go (leb 1 W && leb W width_max) (leb 1 B && leb B limit_max) (leb 1 c && leb c capture_max) (leb 1 (length (planned_of s)))
    (leb (length (planned_of s)) planned_max) h _)
  where
    no : Fault → Result BusPlan Refusal
    no f = Err (refused f 0)

    go : (w b x s t : Bool) → said_by w b x s t ≡ Err f → (found : Result BusPlan Refusal)
        → no f ≡ cond w (cond b (cond x (cond s (cond t found (no ManyPlanned)) (no NonePlanned)) (no Capture)) (no Buses)) (no Width)
    go true true true true true h found = clash cc
    go true true true true false h found = cc
    go true true true false t h found = cc
    go true true false s t h found = cc
    go true false x s t h found = cc
    go false b x s t h found = cc
