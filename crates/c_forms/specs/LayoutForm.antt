-- A layout as bytes: 1,304 of them. Flip-flops, input cells, output cells and bidirectional cells of each wrapper chain, the wrapper chain
-- of each internal chain, and at the end (document 02, item 8) its si, so and cycles.
use Rattle.std.specs.Prelude.{ℕ, ◌+◌, ◌*◌, List, ◌++◌}
use Rattle.little_endian.specs.Rows.{each}
use Rattle.soc.specs.Limits.{chains_max}
use Rattle.wrapper_fit.specs.Maxima.{width_max}
use Rattle.wrapper_layout.specs.declared.laid.WrapperLayout.{WrapperLayout}
use Rattle.c_forms.specs.Words.{word_length, long_length, words, long}
use Rattle.c_forms.specs.SocForm.{length_bytes}

abbrev pub layout_length : ℕ
layout_length = word_length * (width_max * 4 + chains_max) + long_length * 3

unfoldable pub time_bytes : ℕ → ℕ → ℕ → List ℕ
time_bytes si so cycles = long si ++ long so ++ long cycles

unfoldable pub layout_bytes : WrapperLayout → List ℕ
layout_bytes l =
    each length_bytes l.flip_flops
    ++ words l.input_cells
    ++ words l.output_cells
    ++ words l.bidir_cells
    ++ words l.chain_of
    ++ time_bytes l.si l.so l.cycles.0
