-- Laws of what a pair answers: one answer, 15 exactly where the overlay does not fit, and what an overlay with all modules and one with the base's
-- own make of the combined description. Assumes nothing.
use Prim.Native.Nat.{ℕ, zero, suc, ◌+◌, ◌≤◌, ◌<◌}
use native.Mathlib.Omega.{arith}
use mathlib.Core.Path.{◌≡◌, refl, sym, ap, ◌∙◌}
use mathlib.Core.Bool.{Bool, true, false, ◌&&◌, false≢true}
use mathlib.Core.List.{List, [], ◌∷◌, ◌++◌}
use borrow.Author.Tests.{eqb-true, eq-eqb, lt-ltb}
use lib.Dec.{eqb}
use lib.ListN.{length, get_or, take, drop, replicate}
use Rattle.std.specs.Prelude.{Ok}
use Rattle.units.specs.declared.Fault.TheVariants.{OtherBase}
use Rattle.pair.specs.declared.read.PairRefusal.{PairRefusal}
use Rattle.std.specs.Prelude.{Result}
use Rattle.units.specs.declared.Refusal.{Refusal}
use Rattle.units.specs.Refusals.{refused}
use Rattle.units.proofs.TestLaws.{and_both, and_holds}
use Rattle.units.proofs.Unique.{answer_unique}
use Rattle.fields.specs.Bytes.{same_bytes}
use Rattle.fields.proofs.BackLaws.{same-bytes_refl, same-bytes_eq}
use Rattle.soc.specs.Limits.{modules_max}
use Rattle.soc.specs.Record.{no_module}
use Rattle.soc.specs.declared.record.Module.{Module}
use Rattle.soc.specs.declared.record.Soc.{Soc}
use Rattle.overlay.specs.Overlay.{read_overlay}
use Rattle.overlay.specs.declared.read.Overlay.{Overlay}
use Rattle.pair.specs.Pair.{same_flag, same_head, place_fits, places_fit, fits, laid, combined, refused_pair, joined, read_pair}
use Rattle.pair.specs.Shown.{lines_shown}
use Rattle.pair.specs.declared.read.Meant.TheVariants as meant
use Rattle.pair.specs.declared.read.PairRead.{PairRead}
use Rattle.pair.specs.declared.shown.Shown.{Shown}
use Rattle.late_changes.specs.Fit.{Fits, with_modules}
use Rattle.late_changes.proofs.GoodPair.{same_flag_lem}
use Rattle.late_changes.proofs.Laid.{place-fits, laid-all, laid_own}

pub overlay_unique : (t : List ℕ) (a b : Result Overlay Refusal) → a ≡ read_overlay t → b ≡ read_overlay t → a ≡ b
overlay_unique t a b p q = answer_unique p q

pub pair_unique : (base overlay : List ℕ) (a b : Result PairRead PairRefusal) → a ≡ read_pair base overlay → b ≡ read_pair base overlay → a ≡ b
pair_unique base overlay a b p q = answer_unique p q

pub lines_unique : (base overlay : List ℕ) (m : ℕ) (a b : Result Shown PairRefusal) → a ≡ lines_shown base overlay m → b ≡ lines_shown base overlay m → a ≡ b
lines_unique base overlay m a b p q = answer_unique p q

-- the tests are those of `Fits`

flag_refl : (b : Bool) → same_flag b b ≡ true
flag_refl true = refl
flag_refl false = refl

place_back : (n m : ℕ) (h : Bool) (o b : Module) → (h ≡ true → (m < n) × (o.level ≡ b.level)) → place_fits n m h o b ≡ true
unfolding place_fits
place_back n m true o b e = and_holds (lt-ltb m n (e refl).0) (eq-eqb o.level b.level (e refl).1)
place_back n m false o b e = refl

module _ (n : ℕ) where
  pub places_only : (m i : ℕ) (hs : List Bool) (os bs : List Module) → places_fit n m hs os bs ≡ true → i < length os → i < length bs → get_or hs i false ≡ true
      → (m + i < n) × ((get_or os i no_module).level ≡ (get_or bs i no_module).level)
  unfolding places_fit
  places_only m i [] os bs f k l e = absurd (false≢true e)
  places_only m i (h ∷ hs) [] bs f k l e = absurd (omega arith)
  places_only m i (h ∷ hs) (o ∷ os) [] f k l e = absurd (omega arith)
  places_only m zero (h ∷ hs) (o ∷ os) (b ∷ bs) f k l e =
      let p = place-fits n m o b (ap (λ t. place_fits n m t o b) (sym e) ∙ (and_both (place_fits n m h o b) (places_fit n (suc m) hs os bs) f).0) in
      (omega arith, p.1)
  places_only m (suc i) (h ∷ hs) (o ∷ os) (b ∷ bs) f k l e =
      let p = places_only (suc m) i hs os bs (and_both (place_fits n m h o b) (places_fit n (suc m) hs os bs) f).1 (omega arith) (omega arith) e in
      (omega arith, p.1)

  places_back : (m : ℕ) (hs : List Bool) (os bs : List Module) → ((i : ℕ) → i < length hs → get_or hs i false ≡ true → (m + i < n) × ((get_or os i no_module).level ≡ (get_or bs i no_module).level))
      → places_fit n m hs os bs ≡ true
  unfolding places_fit
  places_back m [] os bs e = refl
  places_back m (h ∷ hs) [] bs e = refl
  places_back m (h ∷ hs) (o ∷ os) [] e = refl
  places_back m (h ∷ hs) (o ∷ os) (b ∷ bs) e =
      and_holds
      (place_back n m h o b (λ t. let p = e 0 (omega arith) t in (omega arith, p.1)))
      (places_back (suc m) hs os bs (λ i k t. let p = e (suc i) (omega arith) t in (omega arith, p.1)))

module _ (s : Soc) (o : Overlay) (has : length o.has ≡ modules_max) (over : length o.modules ≡ modules_max) (base : length s.modules ≡ modules_max) where
  pub fits_only : fits s o ≡ true → Fits s o
  unfolding fits same_head
  fits_only h =
      let f = same_flag s.power o.power && same_flag s.xy o.xy in
      let a = and_both (same_head s o) (places_fit s.module_count 0 o.has o.modules s.modules) h in
      let n = and_both (eqb s.name_len o.name_len) (same_bytes s.name o.name && f) a.0 in
      let b = and_both (same_bytes s.name o.name) f n.1 in
      let c = and_both (same_flag s.power o.power) (same_flag s.xy o.xy) b.1 in
      record {
        len = eqb-true s.name_len o.name_len n.0;
        name = same-bytes_eq s.name o.name b.0;
        power = same_flag_lem s.power o.power c.0;
        xy = same_flag_lem s.xy o.xy c.1;
        blocks = λ m k e. let p = places_only s.module_count 0 m o.has o.modules s.modules a.1 (omega (arith, over, k)) (omega (arith, base, k)) e in (omega arith, p.1);
      }

  pub fits_back : Fits s o → fits s o ≡ true
  unfolding fits same_head
  fits_back h =
      let n : same_bytes s.name o.name ≡ true = ap (same_bytes s.name) (sym h.name) ∙ same-bytes_refl s.name in
      let p : same_flag s.power o.power ≡ true = ap (same_flag s.power) (sym h.power) ∙ flag_refl s.power in
      let x : same_flag s.xy o.xy ≡ true = ap (same_flag s.xy) (sym h.xy) ∙ flag_refl s.xy in
      and_holds (and_holds (eq-eqb s.name_len o.name_len h.len) (and_holds n (and_holds p x)))
      (places_back s.module_count 0 o.has o.modules s.modules (λ i k e. let q = h.blocks i (omega (arith, has, k)) e in (omega arith, q.1)))

-- 15 with line 0, of the overlay, exactly where it does not fit; otherwise the combined description
pub joined-fits : (s : Soc) (o : Overlay) → fits s o ≡ true → joined s o ≡ Ok (record { soc = combined s o; has = o.has })
unfolding joined
joined-fits s o e = rw e

pub joined-refuses : (s : Soc) (o : Overlay) → fits s o ≡ false → joined s o ≡ refused_pair (refused OtherBase 0) meant.Overlay
unfolding joined
joined-refuses s o e = rw e

-- an overlay that repeats the base's own modules changes nothing
pub combined_own : (s : Soc) (o : Overlay) → ((m : ℕ) → get_or o.has m false ≡ true → get_or o.modules m no_module ≡ get_or s.modules m no_module) → combined s o ≡ s
unfolding combined
combined_own s o e = ap (with_modules s) (laid_own o.has o.modules s.modules e)

-- where an overlay has all modules of the base, the base's do not matter
pub combined-all : (s : Soc) (ms : List Module) (o : Overlay) → let n = s.module_count in n ≤ length o.modules → n ≤ length s.modules → n ≤ length ms
    → take n o.has ≡ replicate n true → drop n ms ≡ drop n s.modules → combined (with_modules s ms) o ≡ combined s o
unfolding combined
combined-all s ms o k l j e d =
    let n = s.module_count in
    ap (with_modules s)
    (laid-all n o.has o.modules ms k j e
    ∙ ap (λ r. take n o.modules ++ laid (drop n o.has) (drop n o.modules) r) d
    ∙ sym (laid-all n o.has o.modules s.modules k l e))
