-- Laws of texts that describe a record: such a text is read as that record. A reading passes lines if it reads a value from them, whatever
-- lines stand behind, and leaves those; so each part of a text has one law, and parts go together. Assumes nothing.
use Prim.Native.Nat.{ℕ, suc, ◌≤◌}
use mathlib.Core.Path.{◌≡◌, refl, sym, ap, subst, ◌∙◌}
use mathlib.Core.Bool.{Bool, true}
use mathlib.Core.List.{List, [], ◌∷◌, ◌++◌, map, append_assoc, append-nil}
use mathlib.Core.Logic.{inl, inr}
use native.Mathlib.Omega.{arith}
use lib.Seq.{length-take-le}
use lib.ListN.{length}
use Rattle.std.specs.Prelude.{Ok}
use Rattle.text_reader.specs.declared.block.Body.{Body}
use Rattle.fields.specs.Lines.{Line}
use Rattle.fields.specs.Readers.{got, Reader, after, ◌>>=◌, ◌>>◌, give, each}
use Rattle.fields.proofs.ReaderLaws.{after-got}
use Rattle.units.proofs.TestLaws.{clash, and_both}
use Rattle.soc.specs.Limits.{tests_max}
use Rattle.units.specs.Places.{all_of}
use Rattle.soc.specs.Record.{not_given, modules_of, tests_of}
use Rattle.soc.specs.Rules.{good_test, good_position, good_module, good_modules, good_soc}
use Rattle.soc.specs.Sized.{SizedModule, Sized}
use Rattle.soc.specs.declared.record.Test.{Test}
use Rattle.soc.specs.declared.record.Module.{Module}
use Rattle.soc.specs.declared.record.Soc.{Soc}
use Rattle.text_lines.specs.Parts.{whole}
use Rattle.text_lines.specs.declared.head.Name.{Name}
use Rattle.text_lines.specs.declared.head.Options.{Options}
use Rattle.text_lines.specs.declared.level.Shape.{Shape}
use Rattle.text_lines.specs.declared.second.SecondLine.TheVariants.{Position, Tests}
use Rattle.text_lines.specs.Kinds as kinds
use Rattle.text_lines.specs.LineFields.{name_fields, total_fields, options_fields, level_fields, position_fields, tests_fields}
use Rattle.text.proofs.LineBack.{name_back, total_back, options_back, level_back, position_back, tests_back, second_back, test_back, test_back_out}
use Rattle.text_reader.specs.Lines.{LinesReader, judged, line, no_more}
use Rattle.text_reader.specs.Reading.{behind, body, tests, module_of, module_tests, module_rest, module_lines, modules, soc_of, rest, behind_name, soc}
use Rattle.text.specs.Describes.{TestLine, TestLines, PositionPart, ModuleLines, ModulesLines, Describes, fields_in}
use Rattle.text.proofs.SparePlaces.{GoodModule, good_module_lem, GoodSoc, good-soc, AllSized, sized-first, sized-rest, sized-modules, sized-front, modules-padded, tests-padded}

-- p reads a from ls, and leaves lines with the fields gs
pub record Leaves {A : Type 0} (p : LinesReader A) (ls : List Line) (a : A) (gs : List (List (List ℕ))) : Type 0 where
  pub left : List Line
  pub is : p ls ≡ got a left
  pub fields : map fields_in left ≡ gs

-- p reads a from lines with the fields fs, whatever stands behind them
abbrev pub Passes : {A : Type 0} → LinesReader A → List (List (List ℕ)) → A → Type 0
Passes p fs a = (ls : List Line) (gs : List (List (List ℕ))) → map fields_in ls ≡ fs ++ gs → Leaves p ls a gs

-- p reads a from lines with the fields fs, behind which nothing stands
abbrev pub Ends : {A : Type 0} → LinesReader A → List (List (List ℕ)) → A → Type 0
Ends p fs a = (ls : List Line) → map fields_in ls ≡ fs → p ls ≡ got a []

pub give-passes : {A : Type 0} (a : A) → Passes (give a) [] a
give-passes a ls gs e = record { left = ls; is = refl; fields = e }

pub line-passes : {A : Type 0} (p : Reader A) (fs : List (List ℕ)) (a : A) → whole p fs ≡ Ok a → Passes (line p) (fs ∷ []) a
unfolding line judged
line-passes p fs a h [] gs e = clash cc
line-passes p fs a h (l ∷ ls) gs e =
    let f : l.fields ≡ fs = cc in
    let g : map fields_in ls ≡ gs = cc in
    record { left = ls; is = rw (f, h); fields = g }

module _ {A B : Type 0} (p : LinesReader A) (k : A → LinesReader B) (fs gs : List (List (List ℕ))) (a : A) (b : B) (h : Passes p fs a) where
  pub then_passes : Passes (k a) gs b → Passes (p >>= k) (fs ++ gs) b
  then_passes q ls hs e =
      let u = h ls (gs ++ hs) (e ∙ append_assoc fs gs hs) in
      let v = q u.left hs u.fields in
      record { left = v.left; is = after-got (p ls) k a u.left u.is ∙ v.is; fields = v.fields }

  pub then_ends : Ends (k a) gs b → Ends (p >>= k) (fs ++ gs) b
  then_ends q ls e = let u = h ls gs e in after-got (p ls) k a u.left u.is ∙ q u.left u.fields

-- a value made of the one that was read
pub made_passes : {A B : Type 0} (p : LinesReader A) (f : A → B) (fs : List (List (List ℕ))) (a : A) → Passes p fs a → Passes (p >>= (λ x. give (f x))) fs (f a)
made_passes p f fs a h ls gs e =
    let u = h ls gs e in
    record { left = u.left; is = after-got (p ls) (λ x. give (f x)) a u.left u.is; fields = u.fields }

-- a module's tests

test-said : (power : Bool) (m i : ℕ) (t : Test) (fs : List (List ℕ)) → TestLine power m i t fs → good_test m power t ≡ true → whole (kinds.test_line m i power) fs ≡ Ok t
test-said power m i t fs (ps, (inl w), e) h = rw (e, w.2, w.0) (test_back m i true t (rw w.0 at h))
test-said power m i t fs (ps, (inr w), e) h = rw (e, w.1) (test_back_out m i power t h w.0)

pub tests_pass : {power : Bool} {m i : ℕ} {ts : List Test} {ls : List (List (List ℕ))} → TestLines power m i ts ls → all_of (good_test m power) ts ≡ true
    → Passes (each (length ts) (λ j. line (kinds.test_line m j power)) i) ls ts
unfolding each all_of
tests_pass TestLines.none h = give-passes []
tests_pass {power = power} {m = m} (TestLines.more {i} {t} {ts} {fs} {ls} l r) h =
    let q = and_both (good_test m power t) (all_of (good_test m power) ts) h in
    then_passes (line (kinds.test_line m i power)) (λ x. each (length ts) (λ j. line (kinds.test_line m j power)) (suc i) >>= (λ xs. give (x ∷ xs))) (fs ∷ []) ls t (t ∷ ts)
    (line-passes (kinds.test_line m i power) fs t (test-said power m i t fs l q.0))
    (made_passes (each (length ts) (λ j. line (kinds.test_line m j power)) (suc i)) (λ xs. t ∷ xs) ls ts (tests_pass r q.1))

-- a module

abbrev pub body_of : Module → Body
body_of d = record { x = d.x; y = d.y; tests = d.test_count }

body-passes : (xy : Bool) (m : ℕ) (d : Module) (ps : List (List (List ℕ))) → PositionPart xy m d ps → good_position xy d.x d.y ≡ true → d.test_count ≤ tests_max
    → Passes (body m xy) (ps ++ tests_fields m d ∷ []) (body_of d)
unfolding body behind
body-passes xy m d ps (inl w) h k =
    rw (w.3, w.0)
    (then_passes (line (kinds.second_line m true)) (behind m) (position_fields m d ∷ []) (tests_fields m d ∷ []) (Position d.x d.y) (body_of d)
    (line-passes (kinds.second_line m true) (position_fields m d) (Position d.x d.y) (position_back m d (rw w.0 at h)))
    (made_passes (line (kinds.tests_line m)) (λ t. record { x = d.x; y = d.y; tests = t }) (tests_fields m d ∷ []) d.test_count
    (line-passes (kinds.tests_line m) (tests_fields m d) d.test_count (tests_back m d k))))
body-passes xy m d ps (inr w) h k =
    let e : record { x = not_given; y = not_given; tests = d.test_count } ≡ body_of d = λ i. record { x = sym w.0 i; y = sym w.1 i; tests = d.test_count } in
    rw (w.2, ← e)
    (then_passes (line (kinds.second_line m xy)) (behind m) (tests_fields m d ∷ []) [] (Tests d.test_count) (record { x = not_given; y = not_given; tests = d.test_count })
    (line-passes (kinds.second_line m xy) (tests_fields m d) (Tests d.test_count) (second_back m xy d k))
    (give-passes (record { x = not_given; y = not_given; tests = d.test_count })))

abbrev pub options_of : Bool → Bool → Options
options_of power xy = record { power = power; xy = xy }

abbrev pub shape_of : Module → Shape
shape_of d =
    record {
      level = d.level;
      terminals = record { inputs = d.inputs; outputs = d.outputs; bidirs = d.bidirs };
      chains = record { count = d.chain_count; lengths = d.chains };
    }

module _ (power xy : Bool) (m last : ℕ) (d : Module) (z : SizedModule d) (g : GoodModule power xy m last d) where
  module_tests_pass : (ts : List (List (List ℕ))) → TestLines power m 1 (tests_of d) ts → Passes (module_tests (options_of power xy) m (shape_of d) (body_of d)) ts d
  unfolding module_tests
  module_tests_pass ts r =
      let n : length (tests_of d) ≡ d.test_count = length-take-le d.test_count d.tests (omega (arith, z.tests, g.figures.test_count)) in
      let e : module_of (shape_of d) (body_of d) (tests_of d) ≡ d = ap (λ l. record {
        level = d.level;
        inputs = d.inputs;
        outputs = d.outputs;
        bidirs = d.bidirs;
        chain_count = d.chain_count;
        chains = d.chains;
        x = d.x;
        y = d.y;
        test_count = d.test_count;
        tests = l;
      }) (tests-padded d z g) in
      let p : Passes (tests d.test_count m power) ts (tests_of d) = rw n at (tests_pass r g.figures.tests) in
      subst (Passes (module_tests (options_of power xy) m (shape_of d) (body_of d)) ts) e
      (made_passes (tests d.test_count m power) (module_of (shape_of d) (body_of d)) ts (tests_of d) p)

  module_rest-passes : (ps ts : List (List (List ℕ))) → PositionPart xy m d ps → TestLines power m 1 (tests_of d) ts
      → Passes (module_rest (options_of power xy) m (shape_of d)) (ps ++ tests_fields m d ∷ ts) d
  unfolding module_rest
  module_rest-passes ps ts q r =
      rw (← append_assoc ps (tests_fields m d ∷ []) ts)
      (then_passes (body m xy) (module_tests (options_of power xy) m (shape_of d)) (ps ++ tests_fields m d ∷ []) ts (body_of d) d
      (body-passes xy m d ps q g.figures.position g.figures.test_count)
      (module_tests_pass ts r))

  pub module_passes : (ls : List (List (List ℕ))) → ModuleLines power xy m d ls → Passes (module_lines (options_of power xy) m last) ls d
  unfolding module_lines
  module_passes ls r =
      rw r.lines_are
      (then_passes (line (kinds.level_line m last)) (module_rest (options_of power xy) m) (level_fields m d ∷ []) (r.position ++ tests_fields m d ∷ r.tests) (shape_of d) d
      (line-passes (kinds.level_line m last) (level_fields m d) (shape_of d) (level_back m last d z.chains g.level g.rule g.terminals g.chains))
      (module_rest-passes r.position r.tests r.position_is r.tests_are))

-- the modules

pub modules_pass : {power xy : Bool} {m : ℕ} {ds : List Module} {ls : List (List (List ℕ))} → ModulesLines power xy m ds ls → (last : ℕ) → AllSized ds → good_modules power xy m last ds ≡ true
    → Passes (modules (options_of power xy) (length ds) m last) ls ds
unfolding modules good_modules
modules_pass ModulesLines.none last z h = give-passes []
modules_pass {power = power} {xy = xy} (ModulesLines.more {m} {d} {ds} {ls} {ms} l r) last z h =
    let q = and_both (good_module power xy m last d) (good_modules power xy (suc m) d.level ds) h in
    then_passes (module_lines (options_of power xy) m last) (λ x. modules (options_of power xy) (length ds) (suc m) x.level >>= (λ xs. give (x ∷ xs))) ls ms d (d ∷ ds)
    (module_passes power xy m last d (sized-first d ds z) (good_module_lem power xy m last d q.0) ls l)
    (made_passes (modules (options_of power xy) (length ds) (suc m) d.level) (λ xs. d ∷ xs) ms ds (modules_pass r d.level (sized-rest d ds z) q.1))

-- a whole text

no-more-ends : {A : Type 0} (a : A) → Ends (no_more >> give a) [] a
unfolding no_more after
no-more-ends a [] e = refl
no-more-ends a (l ∷ ls) e = clash cc

abbrev pub held_name : Soc → Name
held_name s = record { len = s.name_len; bytes = s.name }

rest-ends : (s : Soc) (ls : List (List (List ℕ))) → Sized s → GoodSoc s → ModulesLines s.power s.xy 0 (modules_of s) ls
    → Ends (rest (held_name s) s.module_count (options_of s.power s.xy)) ls s
unfolding rest
rest-ends s ls z g r =
    let o = options_of s.power s.xy in
    let n : length (modules_of s) ≡ s.module_count = length-take-le s.module_count s.modules (omega (arith, z.modules, g.figures.module_count)) in
    let e : soc_of (held_name s) s.module_count o (modules_of s) ≡ s = ap (λ l. record {
      name_len = s.name_len;
      name = s.name;
      power = s.power;
      xy = s.xy;
      module_count = s.module_count;
      modules = l;
    }) (modules-padded s z g) in
    let p : Passes (modules o s.module_count 0 0) ls (modules_of s) = rw n at (modules_pass r 0 (sized-front s.module_count s.modules (sized-modules s z)) g.figures.modules) in
    rw (← append-nil ls)
    (then_ends (modules o s.module_count 0 0) (λ ds. no_more >> give (soc_of (held_name s) s.module_count o ds)) ls [] (modules_of s) s p
    (rw e (no-more-ends s)))

behind-name-ends : (s : Soc) (ls : List (List (List ℕ))) → Sized s → GoodSoc s → ModulesLines s.power s.xy 0 (modules_of s) ls
    → Ends (behind_name (held_name s)) (total_fields s ∷ options_fields s ∷ ls) s
unfolding behind_name
behind-name-ends s ls z g r =
    let o = options_of s.power s.xy in
    then_ends (line kinds.total_line) (λ n. line kinds.options_line >>= rest (held_name s) n) (total_fields s ∷ []) (options_fields s ∷ ls) s.module_count s
    (line-passes kinds.total_line (total_fields s) s.module_count (total_back s g.some g.figures.module_count))
    (then_ends (line kinds.options_line) (rest (held_name s) s.module_count) (options_fields s ∷ []) ls o s
    (line-passes kinds.options_line (options_fields s) o (options_back s))
    (rest-ends s ls z g r))

-- a described record is read
pub reads_described : (s : Soc) (ls : List Line) → Sized s → good_soc s ≡ true → Describes s (map fields_in ls) → soc ls ≡ got s []
unfolding soc
reads_described s ls z h r =
    let g = good-soc s h in
    then_ends (line kinds.name_line) behind_name (name_fields s ∷ []) (total_fields s ∷ options_fields s ∷ r.modules) (held_name s) s
    (line-passes kinds.name_line (name_fields s) (held_name s) (name_back s z.name g.name))
    (behind-name-ends s r.modules z g r.modules_are)
    ls
    r.lines_are
