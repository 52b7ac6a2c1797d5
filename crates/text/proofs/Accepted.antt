-- Laws of texts that are read: the lines describe the record that the reading gives, and the record is good and its arrays have their lengths.
-- One law for a line, one for each part of a text, and then one for the whole. Assumes nothing.
use Prim.Native.Nat.{ℕ, zero, suc, ◌-◌, ◌≤◌}
use mathlib.Core.Path.{◌≡◌, refl, sym, ap, ap₂, ◌∙◌}
use mathlib.Core.Bool.{Bool, true, ◌&&◌}
use mathlib.Core.List.{List, [], ◌∷◌, ◌++◌, map, append-nil, append_assoc}
use mathlib.Core.Logic.{◌⊎◌, inl, inr}
use native.Mathlib.Omega.{arith}
use borrow.Author.Tests.{leb-true, le-leb}
use lib.Dec.{leb}
use lib.IntN.{ℤ}
use lib.ListN.{length, get_or, take, drop, replicate}
use Rattle.std.specs.Prelude.{Result, Ok, Err}
use Rattle.units.specs.declared.Fault.{Fault}
use Rattle.text_reader.specs.declared.block.Body.{Body}
use Rattle.fields.specs.Bytes.{bytes}
use Rattle.fields.specs.Lines.{Line}
use Rattle.fields.specs.Names.{name_max, name_bytes}
use Rattle.fields.specs.Readers.{Got, got, Reader, each}
use Rattle.fields.specs.WrittenLines.{decimal}
use Rattle.units.proofs.TestLaws.{clash, and_both}
use Rattle.soc.specs.Limits.{modules_max, terminals_max, chains_max, tests_max}
use Rattle.units.specs.Places.{padded, all_of, filled}
use Rattle.soc.specs.Record.{not_given, flip_flops, no_test, no_module, name_of, modules_of, chains_of, tests_of}
use Rattle.soc.specs.Rules.{none, good_length, spare_length, good_position, good_test, spare_test, good_terminals, good_chains, good_tests, good_module, good_modules, spare_module, good_name, good_soc}
use Rattle.soc.specs.Sized.{SizedModule, Sized}
use Rattle.soc.specs.declared.record.Test.{Test}
use Rattle.soc.specs.declared.record.Module.{Module}
use Rattle.soc.specs.declared.record.Soc.{Soc}
use Rattle.units.proofs.PlaceLaws.{all_replicate, padded-length, padded-take, padded-drop}
use Rattle.text_lines.specs.Parts.{whole}
use Rattle.text_lines.specs.Kinds.{name_line, total_line, options_line, level_line, second_line, tests_line, test_line}
use Rattle.text_lines.specs.declared.head.Name.{Name}
use Rattle.text_lines.specs.declared.head.Options.{Options}
use Rattle.text_lines.specs.declared.level.Shape.{Shape}
use Rattle.text_lines.specs.declared.second.SecondLine.{SecondLine}
use Rattle.text_lines.specs.declared.second.SecondLine.TheVariants.{Position, Tests}
use Rattle.text_lines.specs.LineFields.{given_field, module_fields, name_fields, total_fields, options_fields, level_fields, position_fields, tests_fields}
use Rattle.text.proofs.LineBack.{position-says}
use Rattle.text.proofs.PartOnly.{after_only}
use Rattle.text.proofs.HeadOnly.{NameSays, name_only, TotalSays, total_only, options_only}
use Rattle.text.proofs.LevelOnly.{ShapeSays, level_only}
use Rattle.text.proofs.SecondOnly.{second_only_position, second_only_tests, tests_only}
use Rattle.text.proofs.TestOnly.{test_only}
use Rattle.text.proofs.SparePlaces.{good-spare}
use Rattle.text_reader.specs.Lines.{judged, line, no_more}
use Rattle.text_reader.specs.Reading.{behind, body, module_of, module_tests, module_rest, module_lines, modules, soc_of, behind_name, soc}
use Rattle.text_reader.specs.Reading as reading
use Rattle.text.specs.Describes.{Sayable, TestLines, ModuleLines, ModulesLines, Describes, fields_in}

-- what was given, and what was left
pub got_only : {E S A : Type 0} {a b : A} {s t : S} → ◌≡◌ {A = Got E S A} (got a s) (got b t) → (a ≡ b) × (s ≡ t)
got_only h = (cc, cc)

-- a line

pub record LineRead {A : Type 0} (p : Reader A) (ls : List Line) (v : A) (rest : List Line) : Type 0 where
  pub first : Line
  pub lines : ls ≡ first ∷ rest
  pub says : whole p first.fields ≡ Ok v

judged_only : {A : Type 0} (n : ℕ) (ls : List Line) (w : Result A Fault) (v : A) (rest : List Line) → judged n ls w ≡ got v rest → (w ≡ Ok v) × (ls ≡ rest)
unfolding judged
judged_only n ls (Err c) v rest h = clash cc
judged_only n ls (Ok a) v rest h = (cc, cc)

pub line_only : {A : Type 0} (p : Reader A) (ls : List Line) (v : A) (rest : List Line) → line p ls ≡ got v rest → LineRead p ls v rest
unfolding line
line_only p [] v rest h = clash cc
line_only p (l ∷ ls) v rest h =
    let j = judged_only l.number ls (whole p l.fields) v rest h in
    record { first = l; lines = ap (λ r. l ∷ r) j.1; says = j.0 }

-- tests

pub record TestsRead (power : Bool) (m i n : ℕ) (ls : List Line) (ts : List Test) (rest : List Line) : Type 0 where
  pub fields : List (List (List ℕ))
  pub lines : map fields_in ls ≡ fields ++ map fields_in rest
  pub are : TestLines power m i ts fields
  pub count : n ≡ length ts
  pub good : all_of (good_test m power) ts ≡ true

pub tests-read : (power : Bool) (m i n : ℕ) (ls : List Line) (ts : List Test) (rest : List Line) → each n (λ j. line (test_line m j power)) i ls ≡ got ts rest
    → TestsRead power m i n ls ts rest
unfolding each all_of
tests-read power m i zero ls ts rest h =
    let g = got_only h in
    rw (← g.0) (record { fields = []; lines = ap (map fields_in) g.1; are = TestLines.none; count = refl; good = refl })
tests-read power m i (suc n) ls ts rest h =
    let a = after_only h in
    let b = after_only a.second in
    let l = line_only (test_line m i power) ls a.value a.left a.first in
    let t = test_only m i power l.first.fields a.value l.says in
    let r = tests-read power m (suc i) n a.left b.value b.left b.first in
    let g = got_only b.second in
    let k : map fields_in ls ≡ l.first.fields ∷ map fields_in a.left = ap (map fields_in) l.lines in
    rw (← g.0) (record {
      fields = l.first.fields ∷ r.fields;
      lines = k ∙ ap (λ fs. l.first.fields ∷ fs) (r.lines ∙ ap (λ q. r.fields ++ map fields_in q) g.1);
      are = TestLines.more (t.last, t.behind, t.fields) r.are;
      count = ap suc r.count;
      good = simp (t.good, r.good);
    })

-- a module's position and its number of tests

abbrev place_fields : ℕ → ℤ → ℤ → List (List ℕ)
place_fields m x y = module_fields m (bytes "X" ∷ given_field x ∷ bytes "Y" ∷ given_field y ∷ [])

abbrev count_fields : ℕ → ℕ → List (List ℕ)
count_fields m t = module_fields m (bytes "TotalTests" ∷ decimal t ∷ [])

pub record BodyRead (m : ℕ) (xy : Bool) (ls : List Line) (b : Body) (rest : List Line) : Type 0 where
  pub position : List (List (List ℕ))
  pub position_is : ((xy ≡ true) × Sayable b.x × Sayable b.y × (position ≡ place_fields m b.x b.y ∷ [])) ⊎ ((b.x ≡ not_given) × (b.y ≡ not_given) × (position ≡ []))
  pub lines : map fields_in ls ≡ position ++ count_fields m b.tests ∷ map fields_in rest
  pub good : good_position xy b.x b.y ≡ true
  pub most : b.tests ≤ tests_max

behind-read : (m : ℕ) (xy : Bool) (s : SecondLine) (l : Line) (ls : List Line) (b : Body) (rest : List Line) → whole (second_line m xy) l.fields ≡ Ok s → behind m s ls ≡ got b rest
    → BodyRead m xy (l ∷ ls) b rest
unfolding behind good_position
behind-read m xy (Tests t) l ls b rest w h =
    let s = second_only_tests m xy l.fields t w in
    let g = got_only h in
    rw (← g.0) (record { position = []; position_is = inr (refl, refl, refl); lines = ap₂ (λ f q. f ∷ map fields_in q) s.fields g.1; good = refl; most = s.most })
behind-read m xy (Position px py) l ls b rest w h =
    let s = second_only_position m xy l.fields px py w in
    let y = position-says px py s.good in
    let a = after_only h in
    let c = line_only (tests_line m) ls a.value a.left a.first in
    let t = tests_only m c.first.fields a.value c.says in
    let g = got_only a.second in
    let k : map fields_in ls ≡ count_fields m a.value ∷ map fields_in rest =
    ap (map fields_in) c.lines ∙ ap₂ (λ f q. f ∷ map fields_in q) t.fields g.1 in
    rw (← g.0) (record {
      position = place_fields m px py ∷ [];
      position_is = inl (s.option, y.0, y.1, refl);
      lines = ap₂ (λ f q. f ∷ q) s.fields k;
      good = ap (λ o. good_position o px py) s.option ∙ s.good;
      most = t.most;
    })

pub body-read : (m : ℕ) (xy : Bool) (ls : List Line) (b : Body) (rest : List Line) → body m xy ls ≡ got b rest → BodyRead m xy ls b rest
unfolding body
body-read m xy ls b rest h =
    let a = after_only h in
    let l = line_only (second_line m xy) ls a.value a.left a.first in
    rw l.lines (behind-read m xy a.value l.first a.left b rest l.says a.second)

-- places that are filled from the front

front-is : {A : Type 0} (n : ℕ) (z : A) (c : ℕ) (xs ys : List A) → c ≡ length xs → ys ≡ padded n z xs → take c ys ≡ xs
front-is n z c xs ys e f = rw (e, f) (padded-take n z xs)

spare-good : {A : Type 0} (q : A → Bool) (n : ℕ) (z : A) (c : ℕ) (xs ys : List A) → c ≡ length xs → ys ≡ padded n z xs → q z ≡ true → all_of q (drop c ys) ≡ true
spare-good q n z c xs ys e f s = rw (e, f, padded-drop n z xs) (all_replicate q (n - length xs) z s)

filled-good : {A : Type 0} (p q : A → Bool) (n : ℕ) (z : A) (c : ℕ) (xs ys : List A) → c ≡ length xs → ys ≡ padded n z xs → q z ≡ true → all_of p xs ≡ true → filled c p q ys ≡ true
filled-good p q n z c xs ys e f s g = simp (front-is n z c xs ys e f, spare-good q n z c xs ys e f s, g)

-- a module

module _ (o : Options) (m last : ℕ) where
  pub record ModuleRead (ls : List Line) (d : Module) (rest : List Line) : Type 0 where
    pub fields : List (List (List ℕ))
    pub lines : map fields_in ls ≡ fields ++ map fields_in rest
    pub are : ModuleLines o.power o.xy m d fields
    pub good : good_module o.power o.xy m last d ≡ true
    pub sized : SizedModule d

  -- what its three parts say
  module_parts : (l : Line) (ls : List Line) (s : Shape) (b : Body) (ks : List Line) (ts : List Test) (rest : List Line) → ShapeSays m last l.fields s → BodyRead m o.xy ls b ks → TestsRead o.power m 1 b.tests ks ts rest
      → ModuleRead (l ∷ ls) (module_of s b ts) rest
  unfolding good_module good_terminals good_chains good_tests spare_test level_fields position_fields tests_fields
  module_parts l ls s b ks ts rest v p t =
      let c : chains_of (module_of s b ts) ≡ v.chains = front-is chains_max (flip_flops 0) s.chains.count v.chains s.chains.lengths v.count v.places in
      let u : tests_of (module_of s b ts) ≡ ts = front-is tests_max no_test b.tests ts (padded tests_max no_test ts) t.count refl in
      let k : l.fields ≡ level_fields m (module_of s b ts) = rw c v.fields in
      let n : s.chains.count ≤ chains_max = omega (arith, v.count, v.room) in
      let r : length ts ≤ tests_max = omega (arith, t.count, p.most) in
      let g : filled s.chains.count good_length spare_length s.chains.lengths ≡ true =
      filled-good good_length spare_length chains_max (flip_flops 0) s.chains.count v.chains s.chains.lengths v.count v.places refl v.good in
      let q : filled b.tests (good_test m o.power) spare_test (padded tests_max no_test ts) ≡ true =
      filled-good (good_test m o.power) spare_test tests_max no_test b.tests ts (padded tests_max no_test ts) t.count refl refl
      t.good in
      record {
        fields = l.fields ∷ p.position ++ count_fields m b.tests ∷ t.fields;
        lines =
            ap (λ r. l.fields ∷ r)
            (p.lines ∙ ap (λ r. p.position ++ count_fields m b.tests ∷ r) t.lines ∙ sym (append_assoc p.position (count_fields m b.tests ∷ t.fields) (map fields_in rest)));
        are =
            record {
              position = p.position;
              tests = t.fields;
              position_is = p.position_is;
              tests_are = rw u t.are;
              lines_are = ap (λ f. f ∷ p.position ++ count_fields m b.tests ∷ t.fields) k;
            };
        good = simp (
          v.level,
          v.follows,
          le-leb s.terminals.inputs terminals_max v.inputs,
          le-leb s.terminals.outputs terminals_max v.outputs,
          le-leb s.terminals.bidirs terminals_max v.bidirs,
          le-leb s.chains.count chains_max n,
          g,
          p.good,
          le-leb b.tests tests_max p.most,
          q,
        );
        sized = record { chains = ap length v.places ∙ padded-length chains_max (flip_flops 0) v.chains v.room; tests = padded-length tests_max no_test ts r };
      }

  pub module_read : (ls : List Line) (d : Module) (rest : List Line) → module_lines o m last ls ≡ got d rest → ModuleRead ls d rest
  unfolding module_lines module_rest module_tests
  module_read ls d rest h =
      let a = after_only h in
      let b = after_only a.second in
      let c = after_only b.second in
      let l = line_only (level_line m last) ls a.value a.left a.first in
      let v = level_only m last l.first.fields a.value l.says in
      let p = body-read m o.xy a.left b.value b.left b.first in
      let t = tests-read o.power m 1 b.value.tests b.left c.value c.left c.first in
      let g = got_only c.second in
      let r = module_parts l.first a.left a.value b.value b.left c.value c.left v p t in
      rw l.lines (rw (g.0, g.1) at r)

-- modules

no_module-sized : SizedModule no_module
no_module-sized = record { chains = refl; tests = refl }

module _ (o : Options) where
  pub record ModulesRead (n m last : ℕ) (ls : List Line) (ds : List Module) (rest : List Line) : Type 0 where
    pub fields : List (List (List ℕ))
    pub lines : map fields_in ls ≡ fields ++ map fields_in rest
    pub are : ModulesLines o.power o.xy m ds fields
    pub count : n ≡ length ds
    pub good : good_modules o.power o.xy m last ds ≡ true
    pub sized : (i : ℕ) → SizedModule (get_or ds i no_module)

  pub modules-read : (n m last : ℕ) (ls : List Line) (ds : List Module) (rest : List Line) → modules o n m last ls ≡ got ds rest → ModulesRead n m last ls ds rest
  unfolding modules good_modules
  modules-read zero m last ls ds rest h =
      let g = got_only h in
      rw (← g.0) (record { fields = []; lines = ap (map fields_in) g.1; are = ModulesLines.none; count = refl; good = refl; sized = λ i. no_module-sized })
  modules-read (suc n) m last ls ds rest h =
      let a = after_only h in
      let b = after_only a.second in
      let d = module_read o m last ls a.value a.left a.first in
      let r = modules-read n (suc m) a.value.level a.left b.value b.left b.first in
      let g = got_only b.second in
      rw (← g.0) (record {
        fields = d.fields ++ r.fields;
        lines = d.lines ∙ ap (λ q. d.fields ++ q) (r.lines ∙ ap (λ q. r.fields ++ map fields_in q) g.1) ∙ sym (append_assoc d.fields r.fields (map fields_in rest));
        are = ModulesLines.more d.are r.are;
        count = ap suc r.count;
        good = simp (d.good, r.good);
        sized = elim [ zero ↦ d.sized | suc i ↦ r.sized i ];
      })

-- with what spare places hold as the default, a place of an array is the one of its front
spare-get_or : {A : Type 0} (z : A) (xs : List A) (n i : ℕ) → get_or (xs ++ replicate n z) i z ≡ get_or xs i z
spare-get_or z [] zero i = refl
spare-get_or z [] (suc n) zero = refl
spare-get_or z [] (suc n) (suc i) = spare-get_or z [] n i
spare-get_or z (x ∷ xs) n zero = refl
spare-get_or z (x ∷ xs) n (suc i) = spare-get_or z xs n i

padded-get_or : {A : Type 0} (z : A) (xs : List A) (n i : ℕ) → get_or (padded n z xs) i z ≡ get_or xs i z
unfolding padded
padded-get_or z xs n i = spare-get_or z xs (n - length xs) i

no_module-spare : spare_module no_module ≡ true
unfolding spare_module spare_test all_of
no_module-spare = refl

-- a text

-- the record that was read, and the lines that it was read from
pub record Read (s : Soc) (ls : List Line) : Type 0 where
  pub described : Describes s (map fields_in ls)
  pub good : good_soc s ≡ true
  pub sized : Sized s

no-more_only : (ls : List Line) (u : Unit {0}) (rest : List Line) → no_more ls ≡ got u rest → (ls ≡ []) × (rest ≡ [])
unfolding no_more
no-more_only [] u rest h = (refl, cc)
no-more_only (l ∷ ls) u rest h = clash cc

module _ (name : Name) (n : ℕ) (o : Options) (ds : List Module) where
  pub name-good : (fs : List (List ℕ)) → NameSays fs name → (fs ≡ name_fields (soc_of name n o ds)) × (good_name (soc_of name n o ds) ≡ true) × (length name.bytes ≡ name_max)
  unfolding name_fields good_name
  name-good fs p =
      let a = and_both (leb 1 (length p.field)) (leb (length p.field) name_max && name_bytes p.field) p.named in
      let b = and_both (leb (length p.field) name_max) (name_bytes p.field) a.1 in
      let k : name_of (soc_of name n o ds) ≡ p.field = front-is name_max 0 name.len p.field name.bytes p.len p.bytes in
      let l : leb name.len name_max ≡ true = ap (λ c. leb c name_max) p.len ∙ b.0 in
      let z : all_of none (drop name.len name.bytes) ≡ true = spare-good none name_max 0 name.len p.field name.bytes p.len p.bytes refl in
      (rw k p.fields, simp (l, k, p.named, z), ap length p.bytes ∙ padded-length name_max 0 p.field (leb-true (length p.field) name_max b.0))

  soc_parts : (a b c : Line) (ls : List Line) → NameSays a.fields name → TotalSays b.fields n → whole options_line c.fields ≡ Ok o → ModulesRead o n 0 0 ls ds []
      → Read (soc_of name n o ds) (a ∷ b ∷ c ∷ ls)
  unfolding good_soc total_fields options_fields
  soc_parts a b c ls p t w r =
      let m = name-good a.fields p in
      let u : modules_of (soc_of name n o ds) ≡ ds = front-is modules_max no_module n ds (padded modules_max no_module ds) r.count refl in
      let z : all_of spare_module (drop n (padded modules_max no_module ds)) ≡ true = spare-good spare_module modules_max no_module n ds (padded modules_max no_module ds) r.count refl no_module-spare in
      let k : map fields_in ls ≡ r.fields = r.lines ∙ append-nil r.fields in
      let e : a.fields ≡ name_fields (soc_of name n o ds) = m.0 in
      let f : b.fields ≡ total_fields (soc_of name n o ds) = t.fields in
      let g : c.fields ≡ options_fields (soc_of name n o ds) = options_only c.fields o w in
      let y : good_soc (soc_of name n o ds) ≡ true = simp (m.1, le-leb 1 n t.least, le-leb n modules_max t.most, u, r.good, z) in
      record {
        described = record { modules = r.fields; modules_are = rw u r.are; lines_are = cc; spare = good-spare (soc_of name n o ds) y };
        good = y;
        sized =
            record {
              name = m.2;
              modules = padded-length modules_max no_module ds (omega (arith, r.count, t.most));
              each = λ i l. rw (padded-get_or no_module ds modules_max i) (r.sized i);
            };
      }

record RestRead (name : Name) (n : ℕ) (o : Options) (ls : List Line) (s : Soc) (rest : List Line) : Type 0 where
  modules : List Module
  is : soc_of name n o modules ≡ s
  read : ModulesRead o n 0 0 ls modules []
  ends : rest ≡ []

rest_read : (name : Name) (n : ℕ) (o : Options) (ls : List Line) (s : Soc) (rest : List Line) → reading.rest name n o ls ≡ got s rest → RestRead name n o ls s rest
unfolding reading.rest
rest_read name n o ls s rest h =
    let a = after_only h in
    let b = after_only a.second in
    let z = no-more_only a.left b.value b.left b.first in
    let g = got_only b.second in
    record { modules = a.value; is = g.0; read = modules-read o n 0 0 ls a.value [] (a.first ∙ ap (got a.value) z.0); ends = sym g.1 ∙ z.1 }

pub soc_only : (ls : List Line) (s : Soc) (rest : List Line) → soc ls ≡ got s rest → Read s ls × (rest ≡ [])
unfolding soc behind_name
soc_only ls s rest h =
    let a = after_only h in
    let b = after_only a.second in
    let c = after_only b.second in
    let p = line_only name_line ls a.value a.left a.first in
    let q = line_only total_line a.left b.value b.left b.first in
    let w = line_only options_line b.left c.value c.left c.first in
    let d = rest_read a.value b.value c.value c.left s rest c.second in
    let k : ls ≡ p.first ∷ q.first ∷ w.first ∷ c.left = cc in
    let r =
    soc_parts a.value b.value c.value d.modules p.first q.first w.first c.left
    (name_only p.first.fields a.value p.says)
    (total_only q.first.fields b.value q.says)
    w.says
    d.read in
    (rw k (rw d.is at r), d.ends)
