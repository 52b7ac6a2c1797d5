-- What is answered for a module, one of its tests and a width (document 01, "The wrapper rule" and "Refusal numbers"; document 02, items 2
-- and 8).
use Rattle.std.specs.Prelude.{ℕ, ◌-◌, cond, ◌&&◌, List, [], ◌∷◌, map, get_or, leb, Result, Ok}
use Rattle.units.specs.declared.Fault.{Fault}
use Rattle.units.specs.declared.Fault.TheVariants.{NotThere}
use Rattle.units.specs.declared.Refusal.{Refusal}
use Rattle.units.specs.Places.{padded}
use Rattle.soc.specs.Record.{flip_flops, no_test}
use Rattle.soc.specs.declared.record.Test.{Test}
use Rattle.soc.specs.declared.record.Module.{Module}
use Rattle.soc.specs.declared.record.Soc.{Soc}
use Rattle.wrapper_fit.specs.Fit.{with_cells}
use Rattle.wrapper_fit.specs.Maxima.{width_max}
use Rattle.wrapper_fit.specs.Counts.{cycles}
use Rattle.wrapper_scans.specs.Chains.{threaded}
use Rattle.wrapper_scans.specs.TestTimes.{with_bidirs, scan_in, scan_out, test_time}
use Rattle.wrapper_scans.specs.Asked.{asked_module, refused_here}
use Rattle.wrapper_layout.specs.declared.laid.WrapperLayout.{WrapperLayout}

-- one of its tests, from 1: "test number not in the module" is 13
unfoldable pub asked_test : {A : Type 0} → Module → ℕ → (Fault → A) → (Test → A) → A
asked_test d i refuses finds = cond (leb 1 i && leb i d.test_count) (finds (get_or d.tests (i - 1) no_test)) (refuses NotThere)

-- by how much lengths grew
unfoldable pub gained : List ℕ → List ℕ → List ℕ
gained [] ys = []
gained (x ∷ xs) [] = []
gained (x ∷ xs) (y ∷ ys) = (y - x) ∷ gained xs ys

-- "for each wrapper chain, its flip-flops, input cells and output cells, and for each internal chain its wrapper chain from 1; entries
-- past k or past the chains, and those of internal chains the test does not use, are 0"; of bidirectional cells "The layout answer gives
-- them as their own count"; and "the layout with its si, so and cycles", where l has the chains that test t uses in k wrapper chains
unfoldable pub layout_of : ℕ → Module → ℕ → Test → WrapperLayout
layout_of c d k t =
    let l = threaded d t.scan_use k in
    record {
      flip_flops = padded width_max (flip_flops 0) (map flip_flops l.lengths);
      input_cells = padded width_max 0 (gained (with_bidirs d l) (with_cells d.inputs (with_bidirs d l)));
      output_cells = padded width_max 0 (gained (with_bidirs d l) (with_cells d.outputs (with_bidirs d l)));
      bidir_cells = padded width_max 0 (gained l.lengths (with_bidirs d l));
      chain_of = l.places;
      si = scan_in d t.scan_use k;
      so = scan_out d t.scan_use k;
      cycles = cycles (test_time c d k t);
    }

-- "it takes module, test, width and c and answers the layout with its si, so and cycles. Refusals: 14, 7, 16, 13."
unfoldable pub layout_answer : Soc → ℕ → ℕ → ℕ → ℕ → Result WrapperLayout Refusal
layout_answer s m i w c = asked_module s m w c refused_here λ d. asked_test d i refused_here λ t. Ok (layout_of c d w t)
