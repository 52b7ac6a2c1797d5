-- Laws of a module's first line: places that are filled from the front, where those behind are spare; what a chain's length gives
-- from what it reads; that chains end the line; and that a level and a block's number that were read are within their limits. Assumes nothing.
use native.Mathlib.Omega.{arith}
use Prim.Native.Nat.{ℕ, ◌+◌, ◌-◌, ◌≤◌, ◌<◌}
use mathlib.Core.Path.{◌≡◌, refl, sym, ap, ◌∙◌}
use mathlib.Core.Bool.{Bool, true, false}
use mathlib.Core.List.{List, [], ◌++◌}
use lib.ListN.{length, take, drop, set, replicate, take-append-drop}
use lib.Seq.{length-take-le, drop-drop, drop-set-lt}
use Rattle.std.proofs.lemmas.List.{drop-replicate}
use Rattle.units.proofs.TestLaws.{clash}
use borrow.Author.Tests.{leb-true}
use lib.Dec.{leb}
use Rattle.std.specs.Prelude.{Ok}
use Rattle.units.specs.declared.Fault.{Fault}
use Rattle.units.specs.declared.FlipFlops.{FlipFlops}
use Rattle.fields.specs.Readers.{Got, Reads, FieldsGot, no, got, after, give, each, word, between}
use Rattle.fields.specs.Bytes.{bytes}
use Rattle.fields.proofs.ReaderLaws.{after-no, after-got, key-between-within}
use Rattle.soc.specs.Limits.{modules_max, level_max, chains_max, length_max}
use Rattle.units.specs.Places.{padded}
use Rattle.soc.specs.Record.{flip_flops}
use Rattle.text_lines.specs.Parts.{keyed, rule, whole}
use Rattle.text_lines.specs.Kinds.{Terminals, Chains, Shape, BlockStart, level, chain_length, lengths, chains, lengths_part, chains_part, block_number, block_line}
use Rattle.text_lines.proofs.BoundLaws.{closed-got}

module _ {A : Type 0} (n : ℕ) (z : A) (xs : List A) (i : ℕ) (spare : drop i xs ≡ replicate (n - i) z) where
  -- those behind spare places are spare
  pub spare-behind : (k : ℕ) → i ≤ k → k ≤ n → drop k xs ≡ replicate (n - k) z
  spare-behind k h m =
      let e : k ≡ i + (k - i) = omega arith in
      let f : n - i - (k - i) ≡ n - k = omega arith in
      ap (λ j. drop j xs) e ∙ sym (drop-drop (k - i) i xs) ∙ ap (drop (k - i)) spare ∙ drop-replicate (k - i) (n - i) z ∙ rw f

  -- the first spare place is filled
  pub spare-set : (v : A) → i < n → drop (i + 1) (set xs i v) ≡ replicate (n - (i + 1)) z
  spare-set v h = drop-set-lt (i + 1) xs i v (omega arith) ∙ spare-behind (i + 1) (omega arith) (omega arith)

  -- the places are those at the front, and spare ones
  pub spare-padded : length xs ≡ n → i ≤ n → xs ≡ padded n z (take i xs)
  unfolding padded
  spare-padded h m =
      let e : length (take i xs) ≡ i = length-take-le i xs (omega arith) in
      rw e (sym (ap (λ r. take i xs ++ r) (sym spare) ∙ take-append-drop i xs))

-- a chain's length is a number
module _ (fs : List (List ℕ)) where
  pub chain_no : (c : Fault) → between 1 length_max fs ≡ no c → chain_length fs ≡ no c
  unfolding chain_length
  chain_no c e = after-no (between 1 length_max fs) _ c e

  pub chain_got : (n : ℕ) (gs : List (List ℕ)) → between 1 length_max fs ≡ got n gs → chain_length fs ≡ got (flip_flops n) gs
  unfolding chain_length
  chain_got n gs e = after-got (between 1 length_max fs) _ n gs e

-- the chains, as they stand in what the line says
module _ (v : ℕ) (t : Terminals) where
  shaped : Chains → Shape
  shaped c = record { level = v; terminals = t; chains = c }

  lengths-end : (s : ℕ) (fs : List (List ℕ)) → lengths_part s v t fs ≡ after (after (lengths s fs) (λ xs. give (record { count = s; lengths = xs }))) (λ c. give (shaped c))
  unfolding lengths lengths_part shaped after
  lengths-end s fs = go (each s (λ _. chain_length) 0 fs)
    where
      go : (g : FieldsGot (List FlipFlops)) → after {B = Shape} g (λ xs. give (record { level = v; terminals = t; chains = record { count = s; lengths = padded chains_max (flip_flops 0) xs } }))
          ≡ after {B = Shape} (after {B = Chains} (after g (λ xs. give (padded chains_max (flip_flops 0) xs))) (λ xs. give (record { count = s; lengths = xs }))) (λ c. give (record { level = v; terminals = t; chains = c }))
      go (no c) = refl
      go (got xs gs) = refl

  pub chains-end : (fs : List (List ℕ)) → chains_part v t fs ≡ after (chains fs) (λ c. give (record { level = v; terminals = t; chains = c }))
  unfolding chains chains_part shaped after
  chains-end fs = go (keyed "ScanChains" 0 chains_max fs)
    where
      colon : (s : ℕ) (g : FieldsGot (Unit {0})) → after {B = Shape} g (λ _. lengths_part s v t)
          ≡ after {B = Shape} (after {B = Chains} g (λ _ gs. after {B = Chains} (lengths s gs) (λ xs. give (record { count = s; lengths = xs })))) (λ c. give (record { level = v; terminals = t; chains = c }))
      colon s (no c) = refl
      colon s (got u gs) = lengths-end s gs

      go : (g : FieldsGot ℕ) → after {B = Shape} g (λ s gs. after {B = Shape} (word ":" gs) (λ _. lengths_part s v t))
          ≡ after {B = Shape} (after {B = Chains} g (λ s gs. after {B = Chains} (word ":" gs) (λ _ hs. after {B = Chains} (lengths s hs) (λ xs. give (record { count = s; lengths = xs }))))) (λ c. give (record { level = v; terminals = t; chains = c }))
      go (no c) = refl
      go (got s gs) = colon s (word ":" gs)

-- what stands behind a value that two readings gave: the first gave one, with which the second went on
record Came {E S A B : Type 0} (g : Got E S A) (k : A → Reads E S B) (b : B) (t : S) : Type 0 where
  value : A
  left : S
  first : g ≡ got value left
  behind : k value left ≡ got b t

came : {E S A B : Type 0} (g : Got E S A) (k : A → Reads E S B) (b : B) (t : S) → after g k ≡ got b t → Came g k b t
unfolding after
came (no c) k b t h = clash cc
came (got a s) k b t h = record { value = a; left = s; first = refl; behind = h }

-- a level that was read is within its limit
pub level-within : (m last : ℕ) (fs : List (List ℕ)) (v : ℕ) (gs : List (List ℕ)) → level m last fs ≡ got v gs → v ≤ level_max
unfolding level
level-within m last fs v gs h =
    let due = came _ _ v gs h in
    let key = came _ _ v gs due.behind in
    let kept = came _ _ v gs key.behind in
    let e : key.value ≡ v = let q = kept.behind in cc in
    rw e at (key-between-within (bytes "Level") 0 level_max due.left key.value key.left key.first).1

-- a rule behind which reading goes on is kept
rule-holds : (t : Bool) (fs : List (List ℕ)) (a : Unit {0}) (gs : List (List ℕ)) → rule t fs ≡ got a gs → t ≡ true
unfolding rule
rule-holds false fs a gs h = clash cc
rule-holds true fs a gs h = refl

-- a block's number that was read ascends, and is within its limit
pub number-within : (low : ℕ) (fs : List (List ℕ)) (m : ℕ) (gs : List (List ℕ)) → block_number low fs ≡ got m gs → (low ≤ m) × (m ≤ modules_max - 1)
unfolding block_number
number-within low fs m gs h =
    let key = came _ _ m gs h in
    let kept = came _ _ m gs key.behind in
    let e : key.value ≡ m = let q = kept.behind in cc in
    let b = key-between-within (bytes "Module") 0 (modules_max - 1) fs key.value key.left key.first in
    let r = leb-true low key.value (rule-holds (leb low key.value) key.left kept.value kept.left kept.first) in
    (omega (arith, r, e), omega (arith, b, e))

pub start-within : (low : ℕ) (fs : List (List ℕ)) (s : BlockStart) → whole (block_line low) fs ≡ Ok s → (low ≤ s.number) × (s.number ≤ modules_max - 1)
unfolding block_line
start-within low fs s h =
    let m = came _ _ s [] (closed-got _ s h) in
    let d = came _ _ s [] m.behind in
    let q : record { number = m.value; shape = d.value } ≡ s = let k = d.behind in cc in
    let e : m.value ≡ s.number = ap (λ x. x.number) q in
    rw e at (number-within low fs m.value m.left m.first)
