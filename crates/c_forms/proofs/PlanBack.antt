-- Laws of a plan record read back from its bytes: its buses, its planned modules, and then all of it, where its figures fit their words,
-- as those of a good one do. Assumes nothing.
use Prim.Native.Nat.{ℕ, ◌+◌, ◌*◌}
use mathlib.Core.Path.{◌≡◌, refl, ◌∙◌}
use mathlib.Core.Bool.{true}
use mathlib.Core.List.{List, ◌++◌, append_assoc}
use native.Mathlib.Omega.{arith}
use borrow.Author.Tests.{eq-eqb}
use lib.ListN.{length, length-append}
use Rattle.little_endian.specs.Rows.{each, rows}
use Rattle.little_endian.proofs.LittleLaws.{little-length}
use Rattle.little_endian.proofs.StandLaws.{Stands, stands_whole, stands_first, stands_behind}
use Rattle.little_endian.proofs.StandLaws.{number_stands, number-first, number_behind, rows_stand}
use Rattle.plan_record.specs.Record.{bus_places, module_places, no_bus, no_placed}
use Rattle.plan_record.specs.Good.{good_plan}
use Rattle.plan_record.specs.Whole.{Whole}
use Rattle.plan_record.specs.declared.record.Bus.{Bus}
use Rattle.plan_record.specs.declared.record.PlacedModule.{PlacedModule}
use Rattle.plan_record.specs.declared.record.BusPlan.{BusPlan}
use Rattle.c_forms.specs.Words.{word_length, long_length, long, words}
use Rattle.c_forms.specs.PlanForm.{bus_stride, cycles_from, start_from, placed_stride, time_from, buses_from, placed_from, plan_length, bus_bytes}
use Rattle.c_forms.specs.PlanForm.{bus_at, placed_words, placed_bytes, placed_at, count_words, count_bytes, plan_bytes, plan_at, plan_in}
use Rattle.c_forms.specs.Fit.{FitBus, FitPlaced, FitPlan}
use Rattle.c_forms.proofs.WordLaws.{words-length, words_stand, words-behind}
use Rattle.c_forms.proofs.LengthLaws.{bus-length, placed-length, buses_length, plan-length}
use Rattle.c_forms.proofs.PlanFits.{good-plan-fits}

bus_back : {b : List ℕ} (x : Bus) (at : ℕ) → FitBus x → Stands (bus_bytes x) b at → bus_at b at ≡ x
unfolding bus_bytes
bus_back x at f s =
    let e : at + word_length * 0 ≡ at = omega arith in
    let w = number-first word_length x.width.0 (long x.busy.0) f.width s in
    let c = number_stands long_length x.busy.0 f.busy (number_behind word_length x.width.0 (long x.busy.0)
    (at + word_length) refl s) in
    rw (e, w, c)

placed_back : {b : List ℕ} (x : PlacedModule) (at : ℕ) → FitPlaced x → Stands (placed_bytes x) b at → placed_at b at ≡ x
unfolding placed_bytes
placed_back x at f s =
    let v = placed_words x in
    let c = long x.cycles.0 in
    let d = long x.start.0 in
    let front = stands_first (words v ++ c) d s in
    let w = stands_first (words v) c front in
    let n : length (words v ++ c) ≡ start_from = simp (length-append, words-length, little-length) in
    rw (
      words_stand v 0 (omega arith) f.number w,
      words_stand v 1 (omega arith) f.bus w,
      words_stand v 2 (omega arith) f.wires w,
      number_stands long_length x.cycles.0 f.cycles (words-behind v c (at + cycles_from) refl front),
      number_stands long_length x.start.0 f.start (stands_behind (words v ++ c) d start_from (at + start_from) n refl s),
    )

module _ {b : List ℕ} (p : BusPlan) (w : Whole p) (f : FitPlan p) where
  buses_back : Stands (each bus_bytes p.buses) b buses_from → rows (bus_at b) bus_stride bus_places buses_from ≡ p.buses
  buses_back s =
      rw w.buses at
      (rows_stand bus_bytes bus_stride FitBus (λ x h. bus-length x) b no_bus (bus_at b) bus_back p.buses buses_from f.buses s)

  modules_back : Stands (each placed_bytes p.modules) b placed_from → rows (placed_at b) placed_stride module_places placed_from ≡ p.modules
  modules_back s =
      rw w.modules at
      (rows_stand placed_bytes placed_stride FitPlaced (λ x h. placed-length x) b no_placed (placed_at b) placed_back p.modules placed_from
      f.modules s)

  plan_stands : Stands (plan_bytes p) b 0 → plan_at b ≡ p
  unfolding plan_bytes plan_at count_bytes
  plan_stands a =
      let s = simp append_assoc at a in
      let v = count_words p in
      let t = long p.time.0 in
      let u = each bus_bytes p.buses in
      let m = each placed_bytes p.modules in
      let c = stands_first (words v) (t ++ (u ++ m)) s in
      let q = words-behind v (t ++ (u ++ m)) time_from refl s in
      let r = number_behind long_length p.time.0 (u ++ m) buses_from refl q in
      rw (
        words_stand v 0 (omega arith) f.wires c,
        words_stand v 1 (omega arith) f.limit c,
        words_stand v 2 (omega arith) f.bus_count c,
        words_stand v 3 (omega arith) f.module_count c,
        number-first long_length p.time.0 (u ++ m) f.time q,
        buses_back (stands_first u m r),
        modules_back (stands_behind u m (bus_stride * bus_places) placed_from (buses_length p w) refl r),
      )

-- bytes of the due length say a plan
plan_in_lem : (b : List ℕ) → length b ≡ plan_length → plan_in b ≡ plan_at b
unfolding plan_in
plan_in_lem b e = rw (eq-eqb (length b) plan_length e)

pub plan_back : (p : BusPlan) → Whole p → FitPlan p → plan_in (plan_bytes p) ≡ p
plan_back p w f = plan_in_lem (plan_bytes p) (plan-length p w) ∙ plan_stands p w f (stands_whole (plan_bytes p))

-- a good one's figures fit
pub good-plan_back : (p : BusPlan) → Whole p → good_plan p ≡ true → plan_in (plan_bytes p) ≡ p
good-plan_back p w g = plan_back p w (good-plan-fits p w g)
