-- What an overlay text says (document 02, item 3): its lines in order, and the modules that it has; or the first refusal.
use Rattle.std.specs.Prelude.{ℕ, zero, suc, ◌+◌, Bool, true, false, cond, List, [], ◌∷◌, length, set, replicate, leb, Option, None, Some, Result, Ok, Err}
use Rattle.units.specs.Refusals.{refused}
use Rattle.units.specs.declared.Fault.TheVariants.{LongText, ForbiddenByte}
use Rattle.units.specs.declared.Refusal.{Refusal}
use Rattle.fields.specs.Bytes.{bad_byte}
use Rattle.fields.specs.Lines.{Line, lines_from}
use Rattle.fields.specs.Readers.{no, got, ◌>>=◌, give}
use Rattle.soc.specs.Limits.{text_max, modules_max}
use Rattle.soc.specs.Record.{no_module}
use Rattle.text_lines.specs.Kinds.{overlay_line, options_line, block_line}
use Rattle.text_lines.specs.declared.head.Name.{Name}
use Rattle.text_lines.specs.declared.head.Options.{Options}
use Rattle.text_reader.specs.Lines.{LinesRead, LinesReader, line}
use Rattle.text_reader.specs.Reading.{module_rest}
use Rattle.overlay.specs.declared.read.Overlay.{Overlay}
use Rattle.overlay.specs.declared.block.Block.{Block}
use Rattle.overlay.specs.declared.block.Places.{Places}

-- "module blocks .. written as in a SOC text", with a number from low on
unfoldable pub block : Options → ℕ → LinesReader Block
block o low = do
  b ← line (block_line low)
  d ← module_rest o b.number b.shape
  give (record { number = b.number; says = d })

-- does the text go on?
unfoldable pub goes_on : List Line → Bool
goes_on [] = false
goes_on (l ∷ ls) = true

-- blocks to the text's end, which may be here
abbrev pub to_end : LinesReader (List Block) → LinesReader (List Block)
to_end p ls = cond (goes_on ls) (p ls) (got [] ls)

-- "one or more module blocks in ascending number": at most n blocks, with numbers from low on, to the text's end
unfoldable pub blocks : Options → ℕ → ℕ → LinesReader (List Block)
blocks o zero low = give []
blocks o (suc n) low = do
  b ← block o low
  bs ← to_end (blocks o n (suc b.number))
  give (b ∷ bs)

-- numbers ascend and are below 40: the 41st block is refused, and so no more are read
abbrev pub blocks_max : ℕ
blocks_max = modules_max + 1

-- which modules an overlay has, and what it says of them: module m at place m
abbrev pub no_places : Places
no_places = record { has = replicate modules_max false; modules = replicate modules_max no_module }

abbrev pub put : Places → Block → Places
put p b = record { has = set p.has b.number true; modules = set p.modules b.number b.says }

unfoldable pub puts : Places → List Block → Places
puts p [] = p
puts p (b ∷ bs) = puts (put p b) bs

unfoldable pub places : Options → LinesReader Places
places o = do
  bs ← blocks o blocks_max 0
  give (puts no_places bs)

abbrev pub overlay_of : Name → Options → Places → Overlay
overlay_of name o p =
    record {
      name_len = name.len;
      name = name.bytes;
      power = o.power;
      xy = o.xy;
      has = p.has;
      modules = p.modules;
    }

unfoldable pub with_blocks : Name → Options → LinesReader Overlay
with_blocks name o = do
  p ← places o
  give (overlay_of name o p)

-- an overlay is read as its own `Options` line says
unfoldable pub behind_name : Name → LinesReader Overlay
behind_name name = do
  o ← line options_line
  with_blocks name o

-- "An overlay is a text: `Overlay` and the SOC's name, an `Options` line, then one or more module blocks"
unfoldable pub overlay : LinesReader Overlay
overlay = do
  name ← line overlay_line
  behind_name name

-- "A refusal returns its number and line and no other figure"
unfoldable pub answer : LinesRead Overlay → Result Overlay Refusal
answer (no r) = Err r
answer (got o ls) = Ok o

unfoldable pub unless_bad : Option ℕ → Result Overlay Refusal → Result Overlay Refusal
unless_bad (Some n) a = Err (refused ForbiddenByte n)
unless_bad None a = a

-- "overlay faults as 1 to 6 with the overlay's line", and 17 "in overlays too"
unfoldable pub read_overlay : List ℕ → Result Overlay Refusal
read_overlay t = cond (leb (length t) text_max) (unless_bad (bad_byte 1 t) (answer (overlay (lines_from 1 t 0)))) (Err (refused LongText 0))
