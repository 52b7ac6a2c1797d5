-- Laws of blocks and the places of an overlay: blocks with ascending numbers, put into spare places, fill those of their numbers, and what
-- an overlay has in its places is such blocks. Assumes nothing.
use Prim.Native.Nat.{ℕ, zero, suc, ◌+◌, ◌-◌, ◌≤◌, ◌<◌}
use native.Mathlib.Omega.{arith}
use mathlib.Core.Path.{◌≡◌, refl, sym, ap, ap₂, subst, ◌∙◌}
use mathlib.Core.Bool.{Bool, true, false}
use mathlib.Core.List.{List, [], ◌∷◌, ◌++◌, append_assoc}
use lib.ListN.{length, get_or, set, replicate, length-append, length-replicate, replicate-append-replicate}
use lib.Seq.{append_snoc, set_at}
use Rattle.overlay.specs.declared.block.Block.{Block}
use Rattle.overlay.specs.declared.block.Places.{Places}
use Rattle.units.specs.Places.{all_of}
use Rattle.units.proofs.TestLaws.{and_both, and_holds}
use Rattle.soc.specs.Limits.{modules_max}
use Rattle.soc.specs.Record.{no_module}
use Rattle.soc.specs.Rules.{spare_test, spare_module}
use Rattle.soc.specs.Sized.{SizedModule}
use Rattle.soc.specs.declared.record.Module.{Module}
use Rattle.text.specs.Describes.{ModuleLines}
use Rattle.text.proofs.SparePlaces.{AllSized, sized-first, sized-rest}
use Rattle.overlay.specs.Overlay.{puts}
use Rattle.late_changes.specs.DescribesOverlay.{BlocksLines}
use Rattle.late_changes.specs.OverlayRules.{good_block, good_blocks}

-- blocks with ascending numbers from low on, each with its lines
pub record GoodLines (power xy : Bool) (m : ℕ) (d : Module) (ls : List (List (List ℕ))) : Type 0 where
  pub are : ModuleLines power xy m d ls
  pub good : good_block power xy m d ≡ true
  pub sized : SizedModule d

pub data Ascending (power xy : Bool) : ℕ → List Block → List (List (List ℕ)) → Type 0 where
  none : {low : ℕ} → Ascending power xy low [] []
  more : {low m : ℕ} {d : Module} {bs : List Block} {ls ms : List (List (List ℕ))} → low ≤ m → m < modules_max → GoodLines power xy m d ls
      → Ascending power xy (suc m) bs ms
      → Ascending power xy low (record { number = m; says = d } ∷ bs) (ls ++ ms)

ascending_from_lem : {power xy : Bool} {low : ℕ} {bs : List Block} {ls : List (List (List ℕ))} (k : ℕ) → k ≤ low → Ascending power xy low bs ls
    → Ascending power xy k bs ls
ascending_from_lem k h Ascending.none = Ascending.none
ascending_from_lem k h (Ascending.more {low} {m} {d} {bs} {ls} {ms} p q g r) = Ascending.more {low = k} {m = m} (omega arith) q g r

-- an element put into spare places
module _ {A : Type 0} (z a : A) (front : List A) where
  spare-set : (low m : ℕ) → length front ≡ low → low ≤ m → m < modules_max
      → set (front ++ replicate (modules_max - low) z) m a ≡ ((front ++ replicate (m - low) z) ++ a ∷ []) ++ replicate (modules_max - suc m) z
  spare-set low m e h k =
      let r = modules_max - suc m in
      let n : m - low + suc r ≡ modules_max - low = omega arith in
      let s : replicate (modules_max - low) z ≡ replicate (m - low) z ++ z ∷ replicate r z =
      sym (replicate-append-replicate (m - low) (suc r) z ∙ ap (λ i. replicate i z) n) in
      let l : length (front ++ replicate (m - low) z) ≡ m = simp (length-append, length-replicate) (omega arith) in
      ap (λ x. set (front ++ x) m a) s
      ∙ ap (λ x. set x m a) (sym (append_assoc front (replicate (m - low) z) (z ∷ replicate r z)))
      ∙ set_at (front ++ replicate (m - low) z) z (replicate r z) a m l
      ∙ sym (append_snoc (front ++ replicate (m - low) z) a (replicate r z))

  spare-behind : (low m : ℕ) (xs : List A) → ((front ++ replicate (m - low) z) ++ a ∷ []) ++ xs ≡ front ++ (replicate (m - low) z ++ a ∷ xs)
  spare-behind low m xs = append_snoc (front ++ replicate (m - low) z) a xs ∙ append_assoc front (replicate (m - low) z) (a ∷ xs)

  spare-length : (low m : ℕ) → length front ≡ low → low ≤ m → length ((front ++ replicate (m - low) z) ++ a ∷ []) ≡ suc m
  spare-length low m e h = simp (length-append, length-replicate) (omega arith)

-- places of which those from low on are spare, and those that have hs and ds there
abbrev spare_from : ℕ → List Bool → List Module → Places
spare_from low hs ds = record { has = hs ++ replicate (modules_max - low) false; modules = ds ++ replicate (modules_max - low) no_module }

abbrev with_behind : List Bool → List Module → List Bool → List Module → Places
with_behind hs ds is es = record { has = hs ++ is; modules = ds ++ es }

-- what the blocks make of any places that are spare from low on
abbrev Fills : ℕ → List Block → List Bool → List Module → Type 0
Fills low bs is es =
    (hs : List Bool) (ds : List Module) → length hs ≡ low → length ds ≡ low → puts (spare_from low hs ds) bs ≡ with_behind hs ds is es

block_fills : (low m : ℕ) (d : Module) (bs : List Block) (is : List Bool) (es : List Module) → low ≤ m → m < modules_max
    → Fills (suc m) bs is es
    → Fills low (record { number = m; says = d } ∷ bs) (replicate (m - low) false ++ true ∷ is) (replicate (m - low) no_module ++ d ∷ es)
unfolding puts
block_fills low m d bs is es h k f hs ds e g =
    let p = spare-set false true hs low m e h k in
    let q = spare-set no_module d ds low m g h k in
    let x = spare-length false true hs low m e h in
    let y = spare-length no_module d ds low m g h in
    let r = f ((hs ++ replicate (m - low) false) ++ true ∷ []) ((ds ++ replicate (m - low) no_module) ++ d ∷ []) x y in
    ap₂ (λ x y. puts (record { has = x; modules = y }) bs) p q
    ∙ r
    ∙ ap₂ (λ x y. record { has = x; modules = y }) (spare-behind false true hs low m is) (spare-behind no_module d ds low m es)

-- places that the overlay has not
no_module-spare : spare_module no_module ≡ true
unfolding spare_module spare_test all_of
no_module-spare = refl

skip_lines : (power xy : Bool) (k m n : ℕ) (hs : List Bool) (ds : List Module) (ls : List (List (List ℕ))) → m + k ≡ n
    → BlocksLines power xy n hs ds ls
    → BlocksLines power xy m (replicate k false ++ hs) (replicate k no_module ++ ds) ls
skip_lines power xy zero m n hs ds ls e r = let i : n ≡ m = omega arith in subst (λ j. BlocksLines power xy j hs ds ls) i r
skip_lines power xy (suc k) m n hs ds ls e r = BlocksLines.spare refl (skip_lines power xy k (suc m) n hs ds ls (omega arith) r)

skip_good : (power xy : Bool) (k m n : ℕ) (hs : List Bool) (ds : List Module) → m + k ≡ n → good_blocks power xy n hs ds ≡ true
    → good_blocks power xy m (replicate k false ++ hs) (replicate k no_module ++ ds) ≡ true
unfolding good_blocks
skip_good power xy zero m n hs ds e h = let i : m ≡ n = omega arith in ap (λ j. good_blocks power xy j hs ds) i ∙ h
skip_good power xy (suc k) m n hs ds e h = and_holds no_module-spare (skip_good power xy k (suc m) n hs ds (omega arith) h)

skip_sized : (k : ℕ) (ds : List Module) → ((i : ℕ) → SizedModule (get_or ds i no_module)) → (i : ℕ)
    → SizedModule (get_or (replicate k no_module ++ ds) i no_module)
skip_sized zero ds z i = z i
skip_sized (suc k) ds z zero = record { chains = refl; tests = refl }
skip_sized (suc k) ds z (suc i) = skip_sized k ds z i

-- the places that blocks fill
pub record Filled (power xy : Bool) (low : ℕ) (bs : List Block) (ls : List (List (List ℕ))) : Type 0 where
  pub has : List Bool
  pub modules : List Module
  pub lines : BlocksLines power xy low has modules ls
  pub fills : Fills low bs has modules
  pub good : good_blocks power xy low has modules ≡ true
  pub has_length : length has ≡ modules_max - low
  pub modules_length : length modules ≡ modules_max - low
  pub sized : (i : ℕ) → SizedModule (get_or modules i no_module)

spare-lines : {power xy : Bool} (k m : ℕ) → BlocksLines power xy m (replicate k false) (replicate k no_module) []
spare-lines zero m = BlocksLines.none
spare-lines (suc k) m = BlocksLines.spare refl (spare-lines k (suc m))

spare-good : (power xy : Bool) (k m : ℕ) → good_blocks power xy m (replicate k false) (replicate k no_module) ≡ true
unfolding good_blocks
spare-good power xy zero m = refl
spare-good power xy (suc k) m = and_holds no_module-spare (spare-good power xy k (suc m))

pub spare-sized : (k i : ℕ) → SizedModule (get_or (replicate k no_module) i no_module)
spare-sized zero i = record { chains = refl; tests = refl }
spare-sized (suc k) zero = record { chains = refl; tests = refl }
spare-sized (suc k) (suc i) = spare-sized k i

pub ascending_fills : {power xy : Bool} {low : ℕ} {bs : List Block} {ls : List (List (List ℕ))} → Ascending power xy low bs ls
    → Filled power xy low bs ls
unfolding puts good_blocks
ascending_fills {power = power} {xy = xy} (Ascending.none {low}) =
    let k = modules_max - low in
    record {
      has = replicate k false;
      modules = replicate k no_module;
      lines = spare-lines k low;
      fills = λ hs ds e g. refl;
      good = spare-good power xy k low;
      has_length = length-replicate k false;
      modules_length = length-replicate k no_module;
      sized = spare-sized k;
    }
ascending_fills {power = power} {xy = xy} (Ascending.more {low} {m} {d} {bs} {ls} {ms} p q g r) =
    let f = ascending_fills r in
    let k = m - low in
    let e : low + k ≡ m = omega arith in
    let b : BlocksLines power xy m (true ∷ f.has) (d ∷ f.modules) (ls ++ ms) = BlocksLines.block g.are f.lines in
    let w : good_blocks power xy m (true ∷ f.has) (d ∷ f.modules) ≡ true = and_holds g.good f.good in
    record {
      has = replicate k false ++ true ∷ f.has;
      modules = replicate k no_module ++ d ∷ f.modules;
      lines = skip_lines power xy k low m (true ∷ f.has) (d ∷ f.modules) (ls ++ ms) e b;
      fills = block_fills low m d bs f.has f.modules p q f.fills;
      good = skip_good power xy k low m (true ∷ f.has) (d ∷ f.modules) e w;
      has_length = simp (length-append, length-replicate, f.has_length) (omega arith);
      modules_length = simp (length-append, length-replicate, f.modules_length) (omega arith);
      sized = skip_sized k (d ∷ f.modules) (elim [ zero ↦ g.sized | suc i ↦ f.sized i ]);
    }

-- what an overlay has in its places is blocks
pub record Blocked (power xy : Bool) (m : ℕ) (hs : List Bool) (ds : List Module) (ls : List (List (List ℕ))) : Type 0 where
  pub blocks : List Block
  pub ascend : Ascending power xy m blocks ls
  pub fills : Fills m blocks hs ds

own_fills : (m : ℕ) (d : Module) (bs : List Block) (is : List Bool) (es : List Module) → m < modules_max → Fills (suc m) bs is es
    → Fills m (record { number = m; says = d } ∷ bs) (true ∷ is) (d ∷ es)
own_fills m d bs is es h f =
    let z : m - m ≡ 0 = omega arith in
    let b : Block = record { number = m; says = d } in
    let r = block_fills m m d bs is es (omega arith) h f in
    subst (λ k. Fills m (b ∷ bs) (replicate k false ++ true ∷ is) (replicate k no_module ++ d ∷ es)) z r

skip_fills : (m : ℕ) (d : Module) (bs : List Block) (is : List Bool) (es : List Module) → m < modules_max → d ≡ no_module
    → Fills (suc m) bs is es → Fills m bs (false ∷ is) (d ∷ es)
skip_fills m d bs is es h z f hs ds e g =
    let k : modules_max - m ≡ suc (modules_max - suc m) = omega arith in
    let r = modules_max - suc m in
    let x = sym (append_snoc hs false (replicate r false)) in
    let y = sym (append_snoc ds no_module (replicate r no_module)) in
    let q = f (hs ++ false ∷ []) (ds ++ no_module ∷ []) (simp length-append (omega arith)) (simp length-append (omega arith)) in
    ap (λ i. puts (record { has = hs ++ replicate i false; modules = ds ++ replicate i no_module }) bs) k
    ∙ ap₂ (λ x y. puts (record { has = x; modules = y }) bs) x y
    ∙ q
    ∙ ap₂ (λ x y. record { has = x; modules = y }) (append_snoc hs false is) (append_snoc ds no_module es ∙ ap (λ x. ds ++ x ∷ es) (sym z))

pub places_ascend : {power xy : Bool} {m : ℕ} {hs : List Bool} {ds : List Module} {ls : List (List (List ℕ))}
    → BlocksLines power xy m hs ds ls → good_blocks power xy m hs ds ≡ true → AllSized ds
    → length hs ≡ modules_max - m
    → Blocked power xy m hs ds ls
unfolding puts good_blocks
places_ascend (BlocksLines.none {m}) g z n =
    let i : modules_max - m ≡ 0 = sym n in
    record {
      blocks = [];
      ascend = Ascending.none;
      fills = λ hs ds e f. ap (λ k. record { has = hs ++ replicate k false; modules = ds ++ replicate k no_module }) i;
    }
places_ascend {power = power} {xy = xy} (BlocksLines.block {m} {d} {hs} {ds} {ls} {ms} l r) g z n =
    let a = and_both (good_block power xy m d) (good_blocks power xy (suc m) hs ds) g in
    let h : m < modules_max = omega arith in
    let q = places_ascend r a.1 (sized-rest d ds z) (omega arith) in
    record {
      blocks = record { number = m; says = d } ∷ q.blocks;
      ascend = Ascending.more {low = m} {m = m} (omega arith) h (record { are = l; good = a.0; sized = sized-first d ds z }) q.ascend;
      fills = own_fills m d q.blocks hs ds h q.fills;
    }
places_ascend {power = power} {xy = xy} (BlocksLines.spare {m} {d} {hs} {ds} {ls} e r) g z n =
    let h : m < modules_max = omega arith in
    let a = and_both (spare_module d) (good_blocks power xy (suc m) hs ds) g in
    let q = places_ascend r a.1 (sized-rest d ds z) (omega arith) in
    record {
      blocks = q.blocks;
      ascend = ascending_from_lem m (omega arith) q.ascend;
      fills = skip_fills m d q.blocks hs ds h e q.fills;
    }
