-- The lines of a module stand together in an accepted SOC text and in an accepted overlay. Assumes nothing.
use Prim.Native.Nat.{ℕ, zero, suc, ◌+◌, ◌<◌}
use native.Mathlib.Omega.{arith}
use mathlib.Core.Path.{◌≡◌, refl, sym, ap, subst, ◌∙◌}
use mathlib.Core.Bool.{Bool, true, false, true≢false}
use mathlib.Core.List.{List, [], ◌∷◌, ◌++◌, append_assoc}
use mathlib.Core.Logic.{inl, inr}
use lib.ListN.{length, get_or}
use lib.Seq.{get_or-take}
use Rattle.std.specs.Prelude.{Ok}
use Rattle.units.specs.Places.{all_of, any_of}
use Rattle.units.proofs.PlaceLaws.{front-has}
use Rattle.units.proofs.TestLaws.{clash, and_both, and_holds}
use Rattle.fields.specs.Bytes.{bytes, same_bytes}
use Rattle.fields.specs.Readers.{no, got, FieldsGot, after, bytes_due}
use Rattle.fields.specs.WrittenLines.{decimal}
use Rattle.fields.proofs.ReaderLaws.{after-got}
use Rattle.soc.specs.Record.{no_module, modules_of}
use Rattle.soc.specs.declared.record.Test.{Test}
use Rattle.soc.specs.declared.record.Module.{Module}
use Rattle.soc.specs.declared.record.Soc.{Soc}
use Rattle.text_lines.specs.Parts.{due}
use Rattle.text_lines.specs.Kinds.{module_due}
use Rattle.text_lines.specs.LineFields.{module_fields, name_fields, total_fields, options_fields}
use Rattle.text_lines.specs.LineFields.{level_fields, position_fields, tests_fields, test_fields}
use Rattle.text_reader.specs.Reading.{read_soc}
use Rattle.module_part.specs.ModulePart.{begun}
use Rattle.text.specs.Describes.{TestLines, PositionPart, ModuleLines, ModulesLines, Describes, field_lines}
use Rattle.text.proofs.LineBack.{word_back, due_back}
use Rattle.text.proofs.PartOnly.{key-due_only}
use Rattle.text.proofs.SparePlaces.{good-soc}
use Rattle.text.proofs.Acceptance.{accepted-good, accepted-sized, accepted_describes}
use Rattle.text.proofs.Once.{decimal_once}
use Rattle.late_changes.specs.Together.{Lines, of_module, Together, Stands}
use Rattle.late_changes.proofs.PartLines.{any_append}

-- a line that begins with "`Module` m" is of module m, and of no other

pub of_back : (m : ℕ) (fs : List (List ℕ)) → of_module m (module_fields m fs) ≡ true
unfolding begun
of_back m fs =
    let w = word_back (bytes "Module") (decimal m ∷ fs) in
    ap begun (after-got (bytes_due (bytes "Module") (module_fields m fs)) (λ _. due m) tt (decimal m ∷ fs) w ∙ due_back m fs)

begun_only : (g : FieldsGot (Unit {0})) → begun g ≡ true → (fs : List (List ℕ)) × (g ≡ got tt fs)
unfolding begun
begun_only (no c) h = absurd (true≢false (sym h))
begun_only (got a fs) h = (fs, refl)

of_only : (m : ℕ) (fs : List (List ℕ)) → of_module m fs ≡ true → (gs : List (List ℕ)) × (fs ≡ module_fields m gs)
of_only m fs h = let g = begun_only (module_due m fs) h in (g.0, key-due_only (bytes "Module") fs g.0 m tt g.1)

of_other : (k m : ℕ) (fs : List (List ℕ)) → of_module k fs ≡ true → (k ≡ m → ⊥) → of_module m fs ≡ false
of_other k m fs h n = go (of_module m fs) refl
  where
    go : (b : Bool) → of_module m fs ≡ b → b ≡ false
    go false e = refl
    go true e =
        let p = of_only k fs h in
        let q = of_only m fs e in
        let r : module_fields k p.0 ≡ module_fields m q.0 = sym p.1 ∙ q.1 in
        let d : decimal k ≡ decimal m = cc in
        absurd (n (decimal_once k m d))

pub all_other : (k m : ℕ) (ls : Lines) → all_of (of_module k) ls ≡ true → (k ≡ m → ⊥) → any_of (of_module m) ls ≡ false
unfolding all_of any_of
all_other k m [] h n = refl
all_other k m (l ∷ ls) h n =
    let a = and_both (of_module k l) (all_of (of_module k) ls) h in
    rw (of_other k m l a.0 n) (all_other k m ls a.1 n)

pub all_append : {A : Type 0} (p : A → Bool) (xs ys : List A) → all_of p xs ≡ true → all_of p ys ≡ true → all_of p (xs ++ ys) ≡ true
unfolding all_of
all_append p [] ys h k = k
all_append p (x ∷ xs) ys h k = let a = and_both (p x) (all_of p xs) h in and_holds a.0 (all_append p xs ys a.1 k)

-- the lines of a module

pub tests_of_lem : {power : Bool} {m i : ℕ} {ts : List Test} {ls : Lines} → TestLines power m i ts ls → all_of (of_module m) ls ≡ true
unfolding all_of test_fields
tests_of_lem TestLines.none = refl
tests_of_lem {power = power} {m = m} (TestLines.more {i} {t} {ts} {fs} {ls} (ps, p, e) r) =
    and_holds (ap (of_module m) e ∙ of_back m _) (tests_of_lem r)

pub position_of : (xy : Bool) (m : ℕ) (d : Module) (ls : Lines) → PositionPart xy m d ls → all_of (of_module m) ls ≡ true
unfolding all_of position_fields
position_of xy m d ls (inl w) = ap (all_of (of_module m)) w.3 ∙ and_holds (of_back m _) refl
position_of xy m d ls (inr w) = ap (all_of (of_module m)) w.2

module _ {power xy : Bool} {m : ℕ} {d : Module} {ls : Lines} (r : ModuleLines power xy m d ls) where
  module_of : all_of (of_module m) ls ≡ true
  unfolding all_of level_fields tests_fields
  module_of =
      ap (all_of (of_module m)) r.lines_are
      ∙ and_holds (of_back m _)
      (all_append (of_module m) r.position (tests_fields m d ∷ r.tests) (position_of xy m d r.position r.position_is)
      (and_holds (of_back m _) (tests_of_lem r.tests_are)))

  module_some : ls ≡ [] → ⊥
  module_some e =
      let z : level_fields m d ∷ r.position ++ tests_fields m d ∷ r.tests ≡ [] = sym r.lines_are ∙ e in
      clash cc

-- lines with none of the module behind them, and lines with none before them

pub first-together : (m : ℕ) (ls ms : Lines) → (ls ≡ [] → ⊥) → all_of (of_module m) ls ≡ true → any_of (of_module m) ms ≡ false
    → Together m (ls ++ ms) ls
unfolding any_of
first-together m ls ms h k l = record { before = []; behind = ms; lines_are = refl; some = h; none_before = refl; all = k; none_behind = l }

pub behind_others : (m : ℕ) (fs ls middle : Lines) → any_of (of_module m) fs ≡ false → Together m ls middle → Together m (fs ++ ls) middle
behind_others m fs ls middle h t =
    record {
      before = fs ++ t.before;
      behind = t.behind;
      lines_are = ap (λ r. fs ++ r) t.lines_are ∙ sym (append_assoc fs t.before (middle ++ t.behind));
      some = t.some;
      none_before = any_append (of_module m) fs t.before h t.none_before;
      all = t.all;
      none_behind = t.none_behind;
    }

-- a SOC text

later_other : {power xy : Bool} {k : ℕ} {ds : List Module} {ls : Lines} → ModulesLines power xy k ds ls → (m : ℕ) → m < k
    → any_of (of_module m) ls ≡ false
unfolding any_of
later_other ModulesLines.none m h = refl
later_other {power} {xy} (ModulesLines.more {m = k} {d} {ds} {ls} {ms} l r) m h =
    any_append (of_module m) ls ms (all_other k m ls (module_of l) (λ e. omega (arith, e, h))) (later_other r m (omega (arith, h)))

modules_stand : {power xy : Bool} {k : ℕ} {ds : List Module} {ls : Lines} → ModulesLines power xy k ds ls → (i m : ℕ) → k + i ≡ m
    → i < length ds
    → Stands power xy m (get_or ds i no_module) ls
modules_stand ModulesLines.none i m e h = absurd (omega (arith, h))
modules_stand {power} {xy} (ModulesLines.more {m = k} {d} {ds} {ls} {ms} l r) zero m e h =
    let q : k ≡ m = omega (arith, e) in
    let t = first-together k ls ms (module_some l) (module_of l) (later_other r k (omega arith)) in
    rw (← q) (record { middle = ls; together = t; are = l })
modules_stand {power} {xy} (ModulesLines.more {m = k} {d} {ds} {ls} {ms} l r) (suc i) m e h =
    let s = modules_stand r i m (omega (arith, e)) (omega (arith, h)) in
    let o = all_other k m ls (module_of l) (λ q. omega (arith, e, q)) in
    record { middle = s.middle; together = behind_others m ls ms s.middle o s.together; are = s.are }

head_other : (s : Soc) (m : ℕ) → any_of (of_module m) (name_fields s ∷ total_fields s ∷ options_fields s ∷ []) ≡ false
unfolding any_of begun after bytes_due same_bytes name_fields total_fields options_fields
head_other s m = refl

-- in a text that describes s, those of each module of s
soc_stands : (s : Soc) (ls : Lines) (m : ℕ) → Describes s ls → m < length (modules_of s)
    → Stands s.power s.xy m (get_or (modules_of s) m no_module) ls
soc_stands s ls m r h =
    let t = modules_stand r.modules_are m m (omega arith) h in
    let head = name_fields s ∷ total_fields s ∷ options_fields s ∷ [] in
    let u = behind_others m head r.modules t.middle (head_other s m) t.together in
    rw r.lines_are (record { middle = t.middle; together = u; are = t.are })

-- in an accepted text
pub text_stands : (t : List ℕ) (s : Soc) (m : ℕ) → read_soc t ≡ Ok s → m < s.module_count
    → Stands s.power s.xy m (get_or s.modules m no_module) (field_lines t)
text_stands t s m a h =
    let n = s.module_count in
    let k = (good-soc s (accepted-good t s a)).figures.module_count in
    let i : m < length (modules_of s) = front-has n s.modules m h (omega (arith, h, k, (accepted-sized t s a).modules)) in
    subst (λ d. Stands s.power s.xy m d (field_lines t)) (get_or-take n s.modules m no_module h)
    (soc_stands s (field_lines t) m (accepted_describes t s a) i)
