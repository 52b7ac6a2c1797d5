-- A block of an overlay is judged as the lines of a module of a SOC text are but for the level rule: with a level in the place of its own
-- that keeps the rule, they are read alike. So what is known of a module of a SOC text is known of a block. Assumes nothing.
use Prim.Native.Nat.{ℕ, ◌+◌}
use mathlib.Core.Path.{◌≡◌, refl, ap₂, ◌∙◌}
use mathlib.Core.Bool.{Bool, true, false, cond, ◌&&◌}
use mathlib.Core.List.{List}
use lib.Dec.{leb, eqb}
use Rattle.units.proofs.TestLaws.{and_both, and_holds}
use Rattle.fields.specs.Lines.{Line}
use Rattle.fields.specs.Readers.{got}
use Rattle.fields.proofs.ReaderLaws.{after-got}
use Rattle.soc.specs.Limits.{level_max}
use Rattle.soc.specs.Rules.{level_rule, good_terminals, good_chains, good_tests, good_module}
use Rattle.soc.specs.Sized.{SizedModule}
use Rattle.soc.specs.declared.record.Module.{Module}
use Rattle.text_lines.specs.Kinds.{chains_part, lengths_part, shape_part}
use Rattle.text_lines.specs.declared.head.Options.{Options}
use Rattle.text_lines.specs.declared.level.Shape.{Shape}
use Rattle.text_reader.specs.Reading.{module_tests, module_rest}
use Rattle.text.proofs.PartOnly.{after_only}
use Rattle.text.proofs.Accepted.{got_only}
use Rattle.late_changes.specs.OverlayRules.{good_block}

-- a module, and the first line of one, with another level
abbrev pub with_level : ℕ → Module → Module
with_level v d =
    record {
      level = v;
      inputs = d.inputs;
      outputs = d.outputs;
      bidirs = d.bidirs;
      chain_count = d.chain_count;
      chains = d.chains;
      x = d.x;
      y = d.y;
      test_count = d.test_count;
      tests = d.tests;
    }

abbrev pub at_level : ℕ → Shape → Shape
at_level v s = record { level = v; terminals = s.terminals; chains = s.chains }

-- a level that module m may have behind any module
abbrev chosen : Bool → ℕ
chosen first = cond first 0 1

abbrev pub ruled : ℕ → ℕ
ruled m = chosen (eqb m 0)

pub ruled-rule : (m : ℕ) → level_rule m 0 (ruled m) ≡ true
unfolding level_rule
ruled-rule m = go (eqb m 0)
  where
    go : (t : Bool) → cond t (eqb (chosen t) 0) (leb 1 (chosen t) && leb (chosen t) (0 + 1)) ≡ true
    go true = refl
    go false = refl

pub ruled-most : (m : ℕ) → leb (ruled m) level_max ≡ true
ruled-most m = go (eqb m 0)
  where
    go : (t : Bool) → leb (chosen t) level_max ≡ true
    go true = refl
    go false = refl

-- the rest of a first line does not rest on the level
pub shape_at : (v w : ℕ) (fs : List (List ℕ)) (s : Shape) (gs : List (List ℕ)) → shape_part v fs ≡ got s gs
    → shape_part w fs ≡ got (at_level w s) gs
unfolding chains_part lengths_part
shape_at v w fs s gs h =
    let t = after_only h in
    let c = after_only t.second in
    let b = after_only c.second in
    let l = after_only b.second in
    let g = got_only l.second in
    after-got _ _ _ _ t.first
    ∙ after-got _ _ _ _ c.first
    ∙ after-got _ _ _ _ b.first
    ∙ after-got _ _ _ _ l.first
    ∙ ap₂ (λ x. got (at_level w x)) g.0 g.1

-- nor do the lines behind it
pub rest_at : (o : Options) (m w : ℕ) (s : Shape) (ls : List Line) (d : Module) (ms : List Line) → module_rest o m s ls ≡ got d ms
    → module_rest o m (at_level w s) ls ≡ got (with_level w d) ms
unfolding module_rest module_tests
rest_at o m w s ls d ms h =
    let b = after_only h in
    let t = after_only b.second in
    let g = got_only t.second in
    after-got _ _ _ _ b.first ∙ after-got _ _ _ _ t.first ∙ ap₂ (λ x. got (with_level w x)) g.0 g.1

-- a block keeps its limits exactly where a module with a ruled level does
pub good_back : (power xy : Bool) (m : ℕ) (d : Module) → good_block power xy m d ≡ true
    → good_module power xy m 0 (with_level (ruled m) d) ≡ true
unfolding good_block good_module good_terminals good_chains good_tests
good_back power xy m d h = and_holds (ruled-most m) (and_holds (ruled-rule m) (and_both (leb d.level level_max) _ h).1)

pub good_only : (power xy : Bool) (m : ℕ) (d : Module) → leb d.level level_max ≡ true
    → good_module power xy m 0 (with_level (ruled m) d) ≡ true → good_block power xy m d ≡ true
unfolding good_block good_module good_terminals good_chains good_tests
good_only power xy m d l h = and_holds l (and_both (level_rule m 0 (ruled m)) _ (and_both (leb (ruled m) level_max) _ h).1).1

pub sized_back : (v : ℕ) (d : Module) → SizedModule d → SizedModule (with_level v d)
sized_back v d z = record { chains = z.chains; tests = z.tests }

pub sized_only : (v : ℕ) (d : Module) → SizedModule (with_level v d) → SizedModule d
sized_only v d z = record { chains = z.chains; tests = z.tests }
