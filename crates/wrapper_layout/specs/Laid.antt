-- What laws say of a layout (document 01, "The wrapper rule"; document 02, items 2 and 8): "for each wrapper chain, its flip-flops, input
-- cells and output cells, and for each internal chain its wrapper chain from 1", bidirectional cells "as their own count", and the layout
-- "with its si, so and cycles".
use Rattle.std.specs.Prelude.{ℕ, suc, ◌+◌, ◌-◌, cond, List, [], ◌∷◌, eqb, get_or, Result, Ok, Err}
use Rattle.units.specs.declared.FlipFlops.{FlipFlops}
use Rattle.units.specs.declared.Refusal.{Refusal}
use Rattle.soc.specs.Record.{no_test, tests_of}
use Rattle.soc.specs.declared.record.Test.{Test}
use Rattle.soc.specs.declared.record.Module.{Module}
use Rattle.soc.specs.declared.record.Soc.{Soc}
use Rattle.wrapper_scans.specs.Asked.{module_at}
use Rattle.wrapper_layout.specs.LayoutAnswers.{layout_answer}
use Rattle.wrapper_layout.specs.declared.laid.WrapperLayout.{WrapperLayout}

-- test i of a module, from 1
abbrev pub test_at : Module → ℕ → Test
test_at d i = get_or d.tests (i - 1) no_test

-- the lengths of the internal chains that lie in wrapper chain i, of each of which its wrapper chain is given
unfoldable pub lengths_in : ℕ → List ℕ → List FlipFlops → ℕ
lengths_in i ps [] = 0
lengths_in i [] (f ∷ fs) = 0
lengths_in i (p ∷ ps) (f ∷ fs) = cond (eqb p i) (f.0 + lengths_in i ps fs) (lengths_in i ps fs)

-- flip-flops, bidirectional cells and cells of one other kind of each wrapper chain together
unfoldable pub added : List FlipFlops → List ℕ → List ℕ → List ℕ
added [] bs ns = []
added (f ∷ fs) [] ns = []
added (f ∷ fs) (b ∷ bs) [] = []
added (f ∷ fs) (b ∷ bs) (n ∷ ns) = (f.0 + b + n) ∷ added fs bs ns

-- the scan-in of each wrapper chain of a layout, and its scan-out: bidirectional cells "count in both"
abbrev pub scan_ins : WrapperLayout → List ℕ
scan_ins l = added l.flip_flops l.bidir_cells l.input_cells

abbrev pub scan_outs : WrapperLayout → List ℕ
scan_outs l = added l.flip_flops l.bidir_cells l.output_cells

-- the cycles of a layout that is answered
abbrev pub answered_cycles : Result WrapperLayout Refusal → ℕ
answered_cycles (Ok l) = l.cycles.0
answered_cycles (Err r) = 0

-- what a client adds up: the cycles of the layouts that are answered for the tests with TamUse 1 of module m at width u and c capture
-- cycles, where ts are the tests from number i on
unfoldable pub layouts_from : Soc → ℕ → ℕ → ℕ → ℕ → List Test → ℕ
layouts_from s m u c i [] = 0
layouts_from s m u c i (t ∷ ts) =
    cond t.tam_use (answered_cycles (layout_answer s m i u c) + layouts_from s m u c (suc i) ts) (layouts_from s m u c (suc i) ts)

unfoldable pub layouts_cycles : Soc → ℕ → ℕ → ℕ → ℕ
layouts_cycles s m u c = layouts_from s m u c 1 (tests_of (module_at s m))
