-- Laws of a module within the limits of the text: a good record has no other, its chains can be threaded, and its scan lengths are short.
-- Assumes nothing.
use Prim.Native.Nat.{ℕ, zero, suc, ◌*◌, ◌≤◌, ◌<◌}
use mathlib.Core.Path.{◌≡◌, refl, sym, ap, ◌∙◌}
use mathlib.Core.Bool.{Bool, true, false, not}
use mathlib.Core.List.{List, [], ◌∷◌}
use native.Mathlib.Omega.{arith}
use native.Mathlib.Nat.{mul-le-mul_right}
use lib.Dec.{leb}
use lib.ListN.{length, get_or, take, drop, replicate, length-take}
use lib.Seq.{get_or-take}
use borrow.Author.Tests.{leb-true, eqb-true}
use Rattle.units.specs.declared.FlipFlops.{FlipFlops}
use Rattle.units.proofs.TestLaws.{and_both}
use Rattle.soc.specs.Limits.{terminals_max, chains_max, length_max, tests_max, patterns_max, modules_max, level_max}
use Rattle.units.specs.Places.{all_of, filled}
use Rattle.soc.specs.Record.{chains_of, modules_of, flip_flops, no_test, no_module}
use Rattle.soc.specs.Rules.{none, good_length, spare_length, pins_rule, good_test, spare_test, level_rule, good_terminals, good_chains}
use Rattle.soc.specs.Rules.{good_position, good_tests, good_module, good_modules, good_name, good_soc}
use Rattle.soc.specs.declared.record.Test.{Test}
use Rattle.soc.specs.declared.record.Module.{Module}
use Rattle.soc.specs.declared.record.Soc.{Soc}
use Rattle.units.proofs.PlaceLaws.{padded-at}
use Rattle.wrapper_fit.specs.Fit.{longest, total, longest_after}
use Rattle.wrapper_fit.specs.Elements.{with_chains}
use Rattle.wrapper_fit.proofs.FitLaws.{longest_cells, zeros-longest}
use Rattle.wrapper_scans.specs.Chains.{no_chain, numbered_from, used_chains, empty, threaded}
use Rattle.wrapper_scans.specs.Held.{order_of, chain_lengths, front_lengths, Measured, Threadable}
use Rattle.wrapper_scans.specs.Scans.{cells_in, cells_out, scan_of, scan_with, Short, Kept}
use Rattle.wrapper_scans.specs.declared.chains.Chain.{Chain}
use Rattle.wrapper_scans.proofs.ChainLaws.{Each, each_at, ordered-each, numbered-each, ordered-length, numbered-length}
use Rattle.wrapper_scans.proofs.ChainLaws.{threaded-longest}
use Rattle.wrapper_scans.proofs.LengthLaws.{thread-lengths, front-lengths, lengths-most}

-- what holds of each place in use, of each spare one and of nothing holds of every place
module _ {A : Type 0} (P : A → Type 0) (e : A) (z : P e) where
  all-at : (p : A → Bool) → ((x : A) → p x ≡ true → P x) → (xs : List A) → all_of p xs ≡ true → (i : ℕ) → P (get_or xs i e)
  unfolding all_of
  all-at p f [] h i = z
  all-at p f (x ∷ xs) h zero = f x (and_both (p x) (all_of p xs) h).0
  all-at p f (x ∷ xs) h (suc i) = all-at p f xs (and_both (p x) (all_of p xs) h).1 i

  filled_at : (p s : A → Bool) → ((x : A) → p x ≡ true → P x) → ((x : A) → s x ≡ true → P x) → (n : ℕ) (xs : List A)
      → filled n p s xs ≡ true → (i : ℕ) → P (get_or xs i e)
  unfolding all_of
  filled_at p s f g zero xs h i = all-at s g xs h i
  filled_at p s f g (suc n) [] h i = z
  filled_at p s f g (suc n) (x ∷ xs) h zero = f x first.0
    where
      first : (p x ≡ true) × (all_of p (take n xs) ≡ true)
      first = and_both (p x) (all_of p (take n xs)) (and_both (all_of p (take (suc n) (x ∷ xs))) (all_of s (drop n xs)) h).0
  filled_at p s f g (suc n) (x ∷ xs) h (suc i) = filled_at p s f g n xs rest i
    where
      rest : filled n p s xs ≡ true
      rest =
          let w = and_both (all_of p (take (suc n) (x ∷ xs))) (all_of s (drop n xs)) h in
          let v = and_both (p x) (all_of p (take n xs)) w.0 in
          simp (v.1, w.1)

-- a good module is within the limits
replicate-at : {A : Type 0} (n : ℕ) (a : A) (i : ℕ) → get_or (replicate n a) i a ≡ a
replicate-at zero a i = refl
replicate-at (suc n) a zero = refl
replicate-at (suc n) a (suc i) = replicate-at n a i

none_kept : Kept no_module
none_kept =
    record {
      chains = omega arith;
      lengths = λ i. rw (replicate-at chains_max (flip_flops 0) i) (omega arith);
      tests = omega arith;
      patterns = λ i. rw (replicate-at tests_max no_test i) (omega arith);
      inputs = omega arith;
      outputs = omega arith;
      bidirs = omega arith;
    }

length-short : (f : FlipFlops) → good_length f ≡ true → f.0 ≤ length_max
length-short f h = leb-true f.0 length_max (and_both (leb 1 f.0) (leb f.0 length_max) h).1

spare-short : (f : FlipFlops) → spare_length f ≡ true → f.0 ≤ length_max
spare-short f h = omega (arith, eqb-true f.0 0 h)

test-few : (m : ℕ) (power : Bool) (t : Test) → good_test m power t ≡ true → t.patterns ≤ patterns_max
unfolding good_test
test-few m power t h =
    let v = and_both (pins_rule m t.tam_use) _ h in
    let w = and_both (leb 1 t.patterns) _ v.1 in
    leb-true t.patterns patterns_max (and_both (leb t.patterns patterns_max) _ w.1).0

spare-few : (t : Test) → spare_test t ≡ true → t.patterns ≤ patterns_max
unfolding spare_test
spare-few t h =
    let w = and_both (not t.scan_use) _ h in
    let v = and_both (not t.tam_use) _ w.1 in
    omega (arith, eqb-true t.patterns 0 (and_both (none t.patterns) _ v.1).0)

module_kept : (power xy : Bool) (m last : ℕ) (d : Module) → good_module power xy m last d ≡ true → Kept d
unfolding good_module good_terminals good_chains good_tests
module_kept power xy m last d h =
    let a = and_both (leb d.level level_max) _ h in
    let b = and_both (level_rule m last d.level) _ a.1 in
    let f = and_both (good_terminals d) _ b.1 in
    let g = and_both (good_chains d) _ f.1 in
    let i = and_both (leb d.inputs terminals_max) _ f.0 in
    let o = and_both (leb d.outputs terminals_max) (leb d.bidirs terminals_max) i.1 in
    let c = and_both (leb d.chain_count chains_max) (filled d.chain_count good_length spare_length d.chains) g.0 in
    let p = and_both (good_position xy d.x d.y) (good_tests m power d) g.1 in
    let t = and_both (leb d.test_count tests_max) (filled d.test_count (good_test m power) spare_test d.tests) p.1 in
    record {
      chains = leb-true d.chain_count chains_max c.0;
      lengths =
          filled_at (λ x. x.0 ≤ length_max) (flip_flops 0) (omega arith) good_length spare_length length-short spare-short d.chain_count
          d.chains c.1;
      tests = leb-true d.test_count tests_max t.0;
      patterns =
          filled_at (λ x. x.patterns ≤ patterns_max) no_test (omega arith) (good_test m power) spare_test (test-few m power) spare-few
          d.test_count d.tests t.1;
      inputs = leb-true d.inputs terminals_max i.0;
      outputs = leb-true d.outputs terminals_max o.0;
      bidirs = leb-true d.bidirs terminals_max o.1;
    }

modules-kept : (power xy : Bool) (m last : ℕ) (ds : List Module) → good_modules power xy m last ds ≡ true → (i : ℕ)
    → Kept (get_or ds i no_module)
unfolding good_modules
modules-kept power xy m last [] h i = none_kept
modules-kept power xy m last (d ∷ ds) h zero =
    module_kept power xy m last d (and_both (good_module power xy m last d) (good_modules power xy (suc m) d.level ds) h).0
modules-kept power xy m last (d ∷ ds) h (suc i) =
    modules-kept power xy (suc m) d.level ds
    (and_both (good_module power xy m last d) (good_modules power xy (suc m) d.level ds) h).1 i

-- each module in use of a good record is within the limits, and the record has at most 40
pub good_parts : (s : Soc) → good_soc s ≡ true
    → (leb s.module_count modules_max ≡ true) × (good_modules s.power s.xy 0 0 (modules_of s) ≡ true)
unfolding good_soc
good_parts s h =
    let named = and_both (good_name s) _ h in
    let some = and_both (leb 1 s.module_count) _ named.1 in
    let few = and_both (leb s.module_count modules_max) _ some.1 in
    (few.0, (and_both (good_modules s.power s.xy 0 0 (modules_of s)) _ few.1).0)

pub good-count : (s : Soc) → good_soc s ≡ true → s.module_count ≤ 40
good-count s h = leb-true s.module_count modules_max (good_parts s h).0

pub good-kept : (s : Soc) (i : ℕ) → good_soc s ≡ true → i < s.module_count → Kept (get_or s.modules i no_module)
good-kept s i h k =
    rw (get_or-take s.module_count s.modules i no_module k)
    at (modules-kept s.power s.xy 0 0 (modules_of s) (good_parts s h).1 i)

-- its chains: at most 64, with numbers below 64 and lengths of at most 4,096
abbrev Fine : Chain → Type 0
Fine c = (c.number < 64) × (c.length < 4097)

few-chains : (d : Module) → Kept d → length (chains_of d) ≤ 64
few-chains d k = omega (arith, length-take d.chain_count d.chains, k.chains)

used_fine : (d : Module) (scan : Bool) → Kept d → Each Fine (used_chains d scan)
unfolding used_chains
used_fine d false k = tt
used_fine d true k = ordered-each Fine (numbered_from 0 (chains_of d))
    (numbered-each 4097 64 0 (chains_of d) (omega (arith, few-chains d k)) one)
  where
    one : (j : ℕ) → j < length (chains_of d) → (get_or (chains_of d) j (flip_flops 0)).0 < 4097
    one j h =
        let n : j < d.chain_count = omega (arith, length-take d.chain_count d.chains) in
        rw (get_or-take d.chain_count d.chains j (flip_flops 0) n) (omega (arith, k.lengths j))

used_few : (d : Module) (scan : Bool) → Kept d → length (used_chains d scan) ≤ 64
unfolding used_chains
used_few d true k = omega (arith, ordered-length (numbered_from 0 (chains_of d)), numbered-length 0 (chains_of d), few-chains d k)
used_few d false k = omega arith

used_at : (d : Module) (scan : Bool) → Kept d → (i : ℕ) → i < length (used_chains d scan) → Fine (get_or (used_chains d scan) i no_chain)
used_at d scan k i h = each_at Fine no_chain (used_chains d scan) i (used_fine d scan k) h

pub kept_threadable : (d : Module) (scan : Bool) → Kept d → Threadable (order_of (used_chains d scan))
kept_threadable d scan k =
    record {
      count = used_few d scan k;
      number = λ i h. rw (padded-at chains_max no_chain (used_chains d scan) i) (used_at d scan k i h).0;
      length = λ i h. rw (padded-at chains_max no_chain (used_chains d scan) i) (omega (arith, (used_at d scan k i h).1));
    }

-- 64 chains of 4,096 flip-flops
pub threaded-short : (d : Module) (scan : Bool) (w : ℕ) → Kept d → longest (threaded d scan w).lengths ≤ 262144
unfolding threaded
threaded-short d scan w k =
    let a : length (used_chains d scan) * 4096 ≤ 64 * 4096 = mul-le-mul_right 4096 (used_few d scan k) in
    omega (arith, a, zeros-longest w, threaded-longest 4096 (used_chains d scan) (empty w) (λ i h. omega (arith, (used_at d scan k i h).1)))

-- 64 chains of 4,096 flip-flops, so that their sum with any cells fits
pub kept_measured : (d : Module) (scan : Bool) → Kept d → Measured (chain_lengths (used_chains d scan))
kept_measured d scan k =
    let a : length (used_chains d scan) * 4096 ≤ 64 * 4096 = mul-le-mul_right 4096 (used_few d scan k) in
    record {
      count = used_few d scan k;
      sum = ap total (sym (front-lengths (used_chains d scan)));
      short = omega (arith, a, lengths-most 4096 (used_chains d scan) (λ i h. omega (arith, (used_at d scan k i h).1)));
    }

-- the lengths of what is held
pub held-lengths : (d : Module) (scan : Bool) (w : ℕ)
    → with_chains (front_lengths (chain_lengths (used_chains d scan))) (replicate w 0) ≡ (threaded d scan w).lengths
unfolding threaded
held-lengths d scan w =
    ap (λ ns. with_chains ns (replicate w 0)) (front-lengths (used_chains d scan)) ∙ sym (thread-lengths (used_chains d scan) (empty w))

pub short-scan : (d : Module) (scan : Bool) (w : ℕ) → Kept d → Short (scan_with d scan w)
unfolding scan_of longest_after
short-scan d scan w k =
    rw (held-lengths d scan w)
    (record {
      si = omega (arith, longest_cells (cells_in d) (threaded d scan w).lengths, threaded-short d scan w k, k.inputs, k.bidirs);
      so = omega (arith, longest_cells (cells_out d) (threaded d scan w).lengths, threaded-short d scan w k, k.outputs, k.bidirs);
    })
