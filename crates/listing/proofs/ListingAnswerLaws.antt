-- Laws of what `listing` and `show` answer: a refusal has no line, and what was written had the room. Assumes nothing.
use Prim.Native.Nat.{ℕ}
use mathlib.Core.List.{List}
use native.Mathlib.Omega.{arith}
use Rattle.units.specs.declared.Fault.TheVariants.{BadPlan}
use Rattle.buffer.proofs.WriterAnswerLaws.{Fits, written-fits, unless_fits}
use Rattle.plan_record.specs.Good.{good_plan}
use Rattle.plan_record.specs.declared.record.BusPlan.{BusPlan}
use Rattle.listing.specs.Listing.{listed, shown, listing_answer, show_answer}

pub listing_fits : (input buf : List ℕ) → Fits buf (listing_answer input buf)
unfolding listing_answer
listing_fits input buf = written-fits (listed input) buf

pub show_fits : (p : BusPlan) (buf : List ℕ) → Fits buf (show_answer p buf)
unfolding show_answer
show_fits p buf = unless_fits BadPlan (shown p) buf (omega arith) (good_plan p)
