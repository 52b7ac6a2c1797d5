-- Laws of how many bytes each part of a record has, where its arrays have the lengths that their types say. Assumes nothing.
use Prim.Native.Nat.{ℕ, ◌*◌}
use mathlib.Core.Path.{◌≡◌}
use mathlib.Core.Bool.{Bool}
use lib.ListN.{length, length-append}
use Rattle.little_endian.specs.Rows.{each}
use Rattle.little_endian.proofs.LittleLaws.{little-length}
use Rattle.little_endian.proofs.RowLaws.{each-length}
use Rattle.units.specs.declared.FlipFlops.{FlipFlops}
use Rattle.fields.specs.Names.{name_max}
use Rattle.soc.specs.Limits.{modules_max, chains_max, tests_max}
use Rattle.soc.specs.Record.{flip_flops, no_test, no_module}
use Rattle.soc.specs.Sized.{SizedModule, Sized}
use Rattle.soc.specs.declared.record.Test.{Test}
use Rattle.soc.specs.declared.record.Module.{Module}
use Rattle.soc.specs.declared.record.Soc.{Soc}
use Rattle.wrapper_fit.specs.Maxima.{width_max}
use Rattle.wrapper_layout.specs.declared.laid.WrapperLayout.{WrapperLayout}
use Rattle.plan_record.specs.Record.{bus_places, module_places, no_bus, no_placed}
use Rattle.plan_record.specs.Whole.{Whole}
use Rattle.plan_record.specs.declared.record.Bus.{Bus}
use Rattle.plan_record.specs.declared.record.PlacedModule.{PlacedModule}
use Rattle.plan_record.specs.declared.record.BusPlan.{BusPlan}
use Rattle.c_forms.specs.Words.{word_length, long_length}
use Rattle.c_forms.specs.SocForm.{test_length, module_length, modules_from, soc_length, test_words, test_bytes}
use Rattle.c_forms.specs.SocForm.{length_bytes, module_bytes, head_bytes, soc_bytes}
use Rattle.c_forms.specs.PlanForm.{bus_stride, placed_stride, buses_from, plan_length, bus_bytes}
use Rattle.c_forms.specs.PlanForm.{placed_bytes, count_bytes, plan_bytes}
use Rattle.c_forms.specs.LayoutForm.{layout_length, time_bytes, layout_bytes}
use Rattle.c_forms.specs.BudgetForm.{found_from, budget_length, spent_bytes, budget_bytes}
use Rattle.c_forms.proofs.WordLaws.{words-length}

pub test-length : (t : Test) → length (test_bytes t) ≡ test_length
unfolding test_bytes
test-length t = words-length (test_words t)

pub chain_length_lem : (f : FlipFlops) → length (length_bytes f) ≡ word_length
unfolding length_bytes
chain_length_lem f = little-length word_length f.0

module _ (d : Module) (z : SizedModule d) where
  pub chains-length : length (each length_bytes d.chains) ≡ word_length * chains_max
  chains-length = each-length length_bytes word_length d.chains chains_max (flip_flops 0) z.chains (λ i h. chain_length_lem _)

  tests-length : length (each test_bytes d.tests) ≡ test_length * tests_max
  tests-length = each-length test_bytes test_length d.tests tests_max no_test z.tests (λ i h. test-length _)

  pub module_length_lem : length (module_bytes d) ≡ module_length
  unfolding module_bytes
  module_length_lem = simp (length-append, words-length, chains-length, tests-length)

pub head_length : (s : Soc) → length s.name ≡ name_max → length (head_bytes s) ≡ modules_from
unfolding head_bytes
head_length s n = simp (length-append, little-length, words-length, n)

pub soc-length : (s : Soc) → Sized s → length (soc_bytes s) ≡ soc_length
unfolding soc_bytes
soc-length s z =
    let m : length (each module_bytes s.modules) ≡ module_length * modules_max = each-length module_bytes module_length
    s.modules modules_max no_module z.modules (λ i h. module_length_lem _ (z.each i h)) in
    simp (length-append, head_length s z.name, m)

pub bus-length : (b : Bus) → length (bus_bytes b) ≡ bus_stride
unfolding bus_bytes
bus-length b = simp (length-append, little-length)

pub placed-length : (m : PlacedModule) → length (placed_bytes m) ≡ placed_stride
unfolding placed_bytes
placed-length m = simp (length-append, little-length, words-length)

pub count-length : (p : BusPlan) → length (count_bytes p) ≡ buses_from
unfolding count_bytes
count-length p = simp (length-append, little-length, words-length)

pub buses_length : (p : BusPlan) → Whole p → length (each bus_bytes p.buses) ≡ bus_stride * bus_places
buses_length p w = each-length bus_bytes bus_stride p.buses bus_places no_bus w.buses (λ i h. bus-length _)

pub plan-length : (p : BusPlan) → Whole p → length (plan_bytes p) ≡ plan_length
unfolding plan_bytes
plan-length p w =
    let m : length (each placed_bytes p.modules) ≡ placed_stride * module_places = each-length placed_bytes placed_stride
    p.modules module_places no_placed w.modules (λ i h. placed-length _) in
    simp (length-append, count-length, buses_length p w, m)

spent_length : (f k : Bool) (t : ℕ) → length (spent_bytes f k t) ≡ found_from
unfolding spent_bytes
spent_length f k t = simp (length-append, little-length, words-length)

pub budget_length_lem : (f k : Bool) (t : ℕ) (p : BusPlan) → Whole p → length (budget_bytes f k t p) ≡ budget_length
unfolding budget_bytes
budget_length_lem f k t p w = simp (length-append, spent_length f k t, plan-length p w)

time-length : (si so cycles : ℕ) → length (time_bytes si so cycles) ≡ long_length * 3
unfolding time_bytes
time-length si so cycles = simp (length-append, little-length)

-- arrays of a layout have the lengths that their types say
pub layout_length_lem : (l : WrapperLayout) → length l.flip_flops ≡ width_max → length l.input_cells ≡ width_max
    → length l.output_cells ≡ width_max → length l.bidir_cells ≡ width_max → length l.chain_of ≡ chains_max
    → length (layout_bytes l) ≡ layout_length
unfolding layout_bytes
layout_length_lem l f i o b c =
    let g : length (each length_bytes l.flip_flops) ≡ word_length * width_max = each-length length_bytes word_length
    l.flip_flops width_max (flip_flops 0) f (λ j h. chain_length_lem _) in
    simp (length-append, g, words-length, i, o, b, c, time-length)
