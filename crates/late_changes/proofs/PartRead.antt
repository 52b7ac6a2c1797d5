-- The part that is shown of a module of an accepted pair, read as a block, is that module of the combined description, and nothing is left
-- of it.
-- Assumes nothing.
use Prim.Native.Nat.{ℕ, ◌+◌, ◌<◌}
use native.Mathlib.Omega.{arith}
use mathlib.Core.Path.{◌≡◌, refl, sym, ap, ap₂, ◌∙◌}
use mathlib.Core.Bool.{Bool, true, false, cond}
use mathlib.Core.List.{List, []}
use borrow.Author.Tests.{lt-ltb}
use lib.ListN.{length, get_or}
use lib.Seq.{get_or-take}
use Rattle.std.specs.Prelude.{Ok}
use Rattle.units.proofs.PlaceLaws.{front-has}
use Rattle.fields.specs.Fields.{part}
use Rattle.fields.specs.Lines.{lines_from}
use Rattle.fields.specs.Readers.{got}
use Rattle.soc.specs.Limits.{modules_max}
use Rattle.soc.specs.Record.{no_module, modules_of}
use Rattle.soc.specs.Rules.{level_rule, good_module}
use Rattle.soc.specs.declared.record.Module.{Module}
use Rattle.soc.specs.declared.record.Soc.{Soc}
use Rattle.text.specs.Describes.{ModuleLines, field_lines}
use Rattle.text.proofs.SparePlaces.{good-soc}
use Rattle.text.proofs.Acceptance.{accepted-sized}
use Rattle.overlay.specs.Overlay.{block}
use Rattle.overlay.specs.declared.read.Overlay.{Overlay}
use Rattle.module_part.specs.ModulePart.{module_part}
use Rattle.pair.specs.Pair.{combined, read_pair}
use Rattle.pair.specs.Shown.{part_shown, shown_in, shown_of, lines_shown, lines_of, module_lines}
use Rattle.pair.specs.declared.read.PairRead.{PairRead}
use Rattle.pair.specs.declared.shown.Shown.{Shown}
use Rattle.late_changes.specs.Blocks.{GoodPlaces}
use Rattle.late_changes.specs.Fit.{Fits}
use Rattle.late_changes.specs.Together.{Lines, Ends}
use Rattle.late_changes.proofs.GoodOverlay.{read-good}
use Rattle.late_changes.proofs.PairAnswers.{fits_only}
use Rattle.late_changes.proofs.Laid.{rule_of, laid-at}
use Rattle.late_changes.proofs.SizedPair.{good-at}
use Rattle.late_changes.proofs.PairOnly.{Accepted, pair_only, pair-sized, pair-good}
use Rattle.late_changes.proofs.BlockBack.{block_back}
use Rattle.late_changes.proofs.PartLines.{part-lines, together-ends}
use Rattle.late_changes.proofs.LinesTogether.{text_stands}
use Rattle.late_changes.proofs.BlocksTogether.{blocks_stand}

-- the same lines and the same module
moved : {p q x y : Bool} {m : ℕ} {c d : Module} {ls ms : Lines} → p ≡ q → x ≡ y → c ≡ d → ls ≡ ms → ModuleLines q y m d ms
    → ModuleLines p x m c ls
moved e f g h r = rw (e, f, g, h) r

module _ (base overlay : List ℕ) (m : ℕ) (pair : PairRead) (accepted : read_pair base overlay ≡ Ok pair) (there : m < pair.soc.module_count) where
  abbrev said : Module
  said = get_or pair.soc.modules m no_module

  abbrev is : Accepted base overlay pair
  is = pair_only base overlay pair accepted

  abbrev under : Soc
  under = is.under

  abbrev over : Overlay
  over = is.over

  places : GoodPlaces over.power over.xy over.has over.modules
  places = read-good overlay over is.overlay_is

  below : m < modules_max
  below = omega (arith, there, (good-soc pair.soc (pair-good base overlay pair accepted)).figures.module_count)

  -- the module is good
  good : (last : ℕ) × (good_module pair.soc.power pair.soc.xy m last said ≡ true)
  good =
      let s = pair.soc in
      let f = (good-soc s (pair-good base overlay pair accepted)).figures in
      let i : m < length (modules_of s) =
      front-has s.module_count s.modules m there (omega (arith, below, (pair-sized base overlay pair accepted).modules)) in
      let r = good-at s.power s.xy 0 0 (modules_of s) m f.modules i in
      let z : m ≡ 0 + m = omega arith in
      let u : get_or (modules_of s) m no_module ≡ said = get_or-take s.module_count s.modules m no_module there in
      (r.0, ap₂ (λ k d. good_module s.power s.xy k r.0 d) z (sym u) ∙ r.1)

  -- the text that its lines stand in
  shown : lines_shown base overlay m ≡ Ok (shown_in base overlay m (get_or pair.has m false))
  unfolding lines_shown shown_of
  shown = rw (accepted, lt-ltb m pair.soc.module_count there)

  shown-over : get_or pair.has m false ≡ true → lines_shown base overlay m ≡ Ok (part_shown true (module_part m overlay))
  unfolding shown_in
  shown-over e = shown ∙ ap (λ b. Ok (shown_in base overlay m b)) e

  shown-under : get_or pair.has m false ≡ false → lines_shown base overlay m ≡ Ok (part_shown false (module_part m base))
  unfolding shown_in
  shown-under e = shown ∙ ap (λ b. Ok (shown_in base overlay m b)) e

  lines-over : get_or pair.has m false ≡ true
      → module_lines base overlay m ≡ part overlay (module_part m overlay).from (module_part m overlay).to
  unfolding module_lines lines_of
  lines-over e = ap (λ s. lines_of s base overlay) (shown-over e)

  lines-under : get_or pair.has m false ≡ false → module_lines base overlay m ≡ part base (module_part m base).from (module_part m base).to
  unfolding module_lines lines_of
  lines-under e = ap (λ s. lines_of s base overlay) (shown-under e)

  -- "The lines of a module are the overlay's if it has that module, otherwise the base's"
  has-is : get_or pair.has m false ≡ get_or over.has m false
  has-is = ap (λ (p : PairRead). get_or p.has m false) is.is

  abbrev chosen : Bool → Module
  chosen b = cond b (get_or over.modules m no_module) (get_or under.modules m no_module)

  said-is : said ≡ chosen (get_or pair.has m false)
  unfolding combined
  said-is =
      let g = places in
      let h : m < length over.has = omega (arith, below, g.has_length) in
      let k : m < length over.modules = omega (arith, below, g.modules_length) in
      let l : m < length under.modules = omega (arith, below, (accepted-sized base under is.base_is).modules) in
      ap (λ (p : PairRead). get_or p.soc.modules m no_module) is.is
      ∙ laid-at m over.has over.modules under.modules no_module h k l
      ∙ ap chosen (sym has-is)

  count-is : pair.soc.module_count ≡ under.module_count
  unfolding combined
  count-is = ap (λ (p : PairRead). p.soc.module_count) is.is

  power-is : pair.soc.power ≡ under.power
  unfolding combined
  power-is = ap (λ (p : PairRead). p.soc.power) is.is

  xy-is : pair.soc.xy ≡ under.xy
  unfolding combined
  xy-is = ap (λ (p : PairRead). p.soc.xy) is.is

  fit : Fits under over
  fit =
      let g = places in
      fits_only under over g.has_length g.modules_length (accepted-sized base under is.base_is).modules is.fit

  -- the fields of the part are those of lines that say the module
  pub part_says : let s = pair.soc in
      ModuleLines s.power s.xy m (get_or s.modules m no_module) (field_lines (module_lines base overlay m))
  part_says = go (get_or pair.has m false) refl
    where
      go : (t : Bool) → get_or pair.has m false ≡ t
          → ModuleLines pair.soc.power pair.soc.xy m said (field_lines (module_lines base overlay m))
      go true e =
          let st = blocks_stand overlay over m is.overlay_is (sym has-is ∙ e) in
          let d : said ≡ get_or over.modules m no_module = said-is ∙ ap chosen e in
          let g = good in
          let r : level_rule m g.0 (get_or over.modules m no_module).level ≡ true =
          ap (λ (x : Module). level_rule m g.0 x.level) (sym d) ∙ rule_of pair.soc.power pair.soc.xy m g.0 said g.1 in
          let l = ap field_lines (lines-over e) ∙ part-lines m overlay st.middle st.together in
          moved (power-is ∙ fit.power) (xy-is ∙ fit.xy) d l (st.are g.0 r)
      go false e =
          let st = text_stands base under m is.base_is (omega (arith, there, count-is)) in
          let d : said ≡ get_or under.modules m no_module = said-is ∙ ap chosen e in
          let l = ap field_lines (lines-under e) ∙ part-lines m base st.middle st.together in
          moved power-is xy-is d l st.are

  -- read as a block, it is the module
  pub part-read : let s = pair.soc in
      block (record { power = s.power; xy = s.xy }) m (lines_from 1 (module_lines base overlay m) 0)
      ≡ got (record { number = m; says = get_or s.modules m no_module }) []
  part-read =
      let g = good in
      block_back pair.soc.power pair.soc.xy m g.0 said (lines_from 1 (module_lines base overlay m) 0) (omega (arith, below))
      ((pair-sized base overlay pair accepted).each m below) g.1 part_says

  -- and begins and ends with a byte of a field of the text that it is of
  pub shown-ends : (q : Shown) × (lines_shown base overlay m ≡ Ok q) × Ends (cond q.over overlay base) q.part
  shown-ends = go (get_or pair.has m false) refl
    where
      go : (t : Bool) → get_or pair.has m false ≡ t → (q : Shown) × (lines_shown base overlay m ≡ Ok q) × Ends (cond q.over overlay base) q.part
      go true e =
          let st = blocks_stand overlay over m is.overlay_is (sym has-is ∙ e) in
          (part_shown true (module_part m overlay), shown-over e, together-ends m overlay st.middle st.together)
      go false e =
          let st = text_stands base under m is.base_is (omega (arith, there, count-is)) in
          (part_shown false (module_part m base), shown-under e, together-ends m base st.middle st.together)
