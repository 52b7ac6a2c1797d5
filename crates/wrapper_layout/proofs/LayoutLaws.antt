-- Laws of a wrapper's layout: every internal chain that the test uses lies in one wrapper chain, the flip-flops of a wrapper chain are the
-- sum of its internal chains, the cells of each kind over all wrapper chains are the module's terminals of that kind, a wrapper chain's
-- scan-in is its flip-flops, bidirectional cells and input cells together, its scan-out likewise with output cells, and the longest of
-- these are si and so. Assumes nothing.
use Prim.Native.Nat.{ℕ, zero, suc, ◌+◌, ◌-◌, ◌≤◌, ◌<◌, max}
use mathlib.Core.Path.{◌≡◌, refl, ap, sym, ◌∙◌}
use mathlib.Core.Bool.{Bool, true, false, cond}
use mathlib.Core.List.{List, [], ◌∷◌, ◌++◌, map}
use native.Mathlib.Omega.{arith}
use lib.Dec.{eqb, eqb-zero-suc}
use lib.ListN.{length, get_or, drop, set, replicate, length-set, length-take, length-map, length-replicate, get_or-map}
use lib.ListN.{get_or-eq_default}
use lib.Seq.{drop-cons, get_or-set_same, get_or-set_other}
use borrow.Author.Tests.{eqb-true, eqb-false}
use Rattle.units.specs.declared.FlipFlops.{FlipFlops}
use Rattle.soc.specs.Limits.{chains_max}
use Rattle.units.specs.Places.{padded}
use Rattle.soc.specs.Record.{chains_of, flip_flops}
use Rattle.soc.specs.declared.record.Test.{Test}
use Rattle.soc.specs.declared.record.Module.{Module}
use Rattle.units.proofs.PlaceLaws.{padded-at}
use Rattle.wrapper_fit.specs.Cells.{evened}
use Rattle.wrapper_fit.specs.Fit.{longest, total, goes, placed, with_cells, longest_after}
use Rattle.wrapper_fit.specs.Maxima.{width_max}
use Rattle.wrapper_fit.proofs.FitLaws.{goes-below, placed-length, cells_length, cells_grow, total_cells}
use Rattle.wrapper_fit.proofs.CellLaws.{cells_evened}
use Rattle.wrapper_scans.specs.Chains.{numbered_from, ordered, sum_over, how_many, used_chains, Threaded, thread, empty, threaded}
use Rattle.wrapper_scans.specs.TestTimes.{with_bidirs, scan_in, scan_out}
use Rattle.wrapper_scans.specs.declared.chains.Chain.{Chain}
use Rattle.wrapper_scans.proofs.BidirLaws.{scan_in-counted, scan_out-counted}
use Rattle.wrapper_scans.proofs.ChainLaws.{Each, with_one, thread-length, thread-places-length}
use Rattle.wrapper_layout.specs.LayoutAnswers.{gained, layout_of}
use Rattle.wrapper_layout.specs.Laid.{lengths_in, added, scan_ins, scan_outs}
use Rattle.wrapper_layout.proofs.LaidLaws.{gained-length}
use Rattle.wrapper_layout.proofs.ChainOrder.{ordered-sum, many_here, many_other, many_behind, ordered_once, ordered-none}
use Rattle.wrapper_layout.proofs.ChainOrder.{ordered-few, IsChain, ordered-each-is}

-- where one chain goes
module _ (c : Chain) (t : Threaded) (j : ℕ) where
  one-here : c.number ≡ j → j < length t.places → get_or (with_one c t).places j 0 ≡ suc (goes c.length t.lengths)
  one-here e h = rw e (get_or-set_same t.places j (suc (goes c.length t.lengths)) 0 h)

  one_other : (c.number ≡ j → ⊥) → get_or (with_one c t).places j 0 ≡ get_or t.places j 0
  one_other n = get_or-set_other t.places c.number j (suc (goes c.length t.lengths)) 0 (λ e. n (sym e))

-- a wrapper chain from 1 to k
abbrev Within : ℕ → ℕ → Type 0
Within k p = (1 ≤ p) × (p ≤ k)

-- an internal chain that is not taken stays where it is
thread-keeps : (j : ℕ) (cs : List Chain) (t : Threaded) → how_many j cs ≡ 0 → get_or (thread cs t).places j 0 ≡ get_or t.places j 0
unfolding thread
thread-keeps j [] t e = refl
thread-keeps j (c ∷ cs) t e =
    let n : (c.number ≡ j → ⊥) = λ q. omega (arith, many_here j c cs q) in
    thread-keeps j cs (with_one c t) (sym (many_other j c cs n) ∙ e) ∙ one_other c t j n

module _ (k : ℕ) (pos : 1 ≤ k) (j : ℕ) where
  one-within : (c : Chain) (t : Threaded) → length t.lengths ≡ k → j < length t.places → c.number ≡ j
      → Within k (get_or (with_one c t).places j 0)
  one-within c t e h q =
      rw (one-here c t j q h) (omega arith, omega (arith, goes-below c.length t.lengths (omega arith)))

  -- one that has a place has one after more are taken
  thread_stays : (cs : List Chain) (t : Threaded) → length t.lengths ≡ k → j < length t.places → Within k (get_or t.places j 0)
      → Within k (get_or (thread cs t).places j 0)
  unfolding thread
  thread_stays [] t e h w = w
  thread_stays (c ∷ cs) t e h w =
      thread_stays cs (with_one c t) (placed-length c.length t.lengths ∙ e)
      (rw (length-set t.places c.number (suc (goes c.length t.lengths))) h)
      (go (eqb c.number j) refl)
    where
      go : (b : Bool) → eqb c.number j ≡ b → Within k (get_or (with_one c t).places j 0)
      go true q = one-within c t e h (eqb-true c.number j q)
      go false q = rw (one_other c t j (eqb-false c.number j q)) w

  -- one that is taken gets a place
  thread_gets : (cs : List Chain) (t : Threaded) → length t.lengths ≡ k → j < length t.places → 1 ≤ how_many j cs
      → Within k (get_or (thread cs t).places j 0)
  unfolding thread how_many sum_over
  thread_gets [] t e h w = absurd (omega arith)
  thread_gets (c ∷ cs) t e h w =
      go (eqb c.number j) refl (thread_gets cs (with_one c t) l p)
    where
      l : length (with_one c t).lengths ≡ k
      l = placed-length c.length t.lengths ∙ e

      p : j < length (with_one c t).places
      p = rw (length-set t.places c.number (suc (goes c.length t.lengths))) h

      go : (b : Bool) → eqb c.number j ≡ b → (1 ≤ how_many j cs → Within k (get_or (thread cs (with_one c t)).places j 0))
          → Within k (get_or (thread cs (with_one c t)).places j 0)
      go true q f = thread_stays cs (with_one c t) l p (one-within c t e h (eqb-true c.number j q))
      go false q f = f (omega (arith, many_other j c cs (eqb-false c.number j q)))

zeros-at : (n j : ℕ) → get_or {A = ℕ} (replicate n 0) j 0 ≡ 0
zeros-at zero j = refl
zeros-at (suc n) zero = refl
zeros-at (suc n) (suc j) = zeros-at n j

module _ (d : Module) (sized : length d.chains ≡ chains_max) (few : d.chain_count ≤ chains_max) where
  used_count : length (chains_of d) ≡ d.chain_count
  used_count = length-take d.chain_count d.chains ∙ omega arith

  -- "Every internal chain that the test uses lies in exactly one wrapper chain from 1 to k"
  pub in_one_chain : (k : ℕ) → 1 ≤ k → (j : ℕ) → j < d.chain_count
      → (1 ≤ get_or (threaded d true k).places j 0) × (get_or (threaded d true k).places j 0 ≤ k)
  unfolding threaded used_chains
  in_one_chain k pos j h =
      thread_gets k pos j (ordered (numbered_from 0 (chains_of d))) (empty k) (length-replicate {A = ℕ} k 0) (omega arith)
      (omega (arith, used_count, ordered_once j (chains_of d) (omega (arith, used_count))))

-- entries past the chains, and those of chains that the test does not use, are 0
pub in_no_chain : (d : Module) (k j : ℕ) → d.chain_count ≤ j → get_or (threaded d true k).places j 0 ≡ 0
unfolding threaded used_chains
in_no_chain d k j h =
    thread-keeps j (ordered (numbered_from 0 (chains_of d))) (empty k)
    (ordered-none j (chains_of d) (omega (arith, length-take d.chain_count d.chains)))
    ∙ zeros-at chains_max j

pub unused : (d : Module) (k j : ℕ) → get_or (threaded d false k).places j 0 ≡ 0
unfolding threaded used_chains thread
unused d k j = zeros-at chains_max j

-- the length of chain c, where it lies in wrapper chain i
abbrev length_in : ℕ → List ℕ → Chain → ℕ
length_in i ps c = cond (eqb (get_or ps c.number 0) i) c.length 0

placed-at : (n : ℕ) (l : List ℕ) (i : ℕ) → 0 < length l → get_or (placed n l) i 0 ≡ get_or l i 0 + cond (eqb (suc (goes n l)) (suc i)) n 0
unfolding placed
placed-at n l i h = go (eqb (suc (goes n l)) (suc i)) refl
  where
    go : (b : Bool) → eqb (suc (goes n l)) (suc i) ≡ b → get_or (set l (goes n l) (get_or l (goes n l) 0 + n)) i 0 ≡ get_or l i 0 + cond b n 0
    go true q =
        let e : goes n l ≡ i = omega (arith, eqb-true (suc (goes n l)) (suc i) q) in
        rw (← e) (get_or-set_same l (goes n l) (get_or l (goes n l) 0 + n) 0 (goes-below n l h))
    go false q =
        let e : (i ≡ goes n l → ⊥) = λ r. eqb-false (suc (goes n l)) (suc i) q (ap suc (sym r)) in
        omega (arith, get_or-set_other l (goes n l) i (get_or l (goes n l) 0 + n) 0 e)

-- a wrapper chain grows by the chains that lie in it at the end
thread-sum : (n i : ℕ) (cs : List Chain) (t : Threaded) → 0 < length t.lengths → length t.places ≡ n → Each (λ c. c.number < n) cs
    → ((m : ℕ) → how_many m cs ≤ 1)
    → get_or (thread cs t).lengths i 0 ≡ get_or t.lengths i 0 + sum_over (length_in (suc i) (thread cs t).places) cs
unfolding thread sum_over
thread-sum n i [] t h e w o = omega arith
thread-sum n i (c ∷ cs) t h e w o =
    let u : how_many c.number cs ≡ 0 = omega (arith, o c.number, many_here c.number c cs refl) in
    let at = thread-keeps c.number cs (with_one c t) u ∙ one-here c t c.number refl (omega (arith, w.0)) in
    let l : 0 < length (placed c.length t.lengths) = rw (placed-length c.length t.lengths) h in
    let p = length-set t.places c.number (suc (goes c.length t.lengths)) ∙ e in
    let r = thread-sum n i cs (with_one c t) l p w.1 (λ m. omega (arith, o m, many_behind m c cs)) in
    rw at (omega (arith, r, placed-at c.length t.lengths i h))

-- the same sum over the chains in file order
sum-numbered : (i : ℕ) (ps : List ℕ) (s : ℕ) (fs : List FlipFlops) → s + length fs ≤ length ps
    → sum_over (length_in i ps) (numbered_from s fs) ≡ lengths_in i (drop s ps) fs
unfolding numbered_from sum_over lengths_in
sum-numbered i ps s [] h = refl
sum-numbered i ps s (f ∷ fs) h =
    rw (drop-cons ps s 0 (omega arith)) (go (eqb (get_or ps s 0) i) (sum-numbered i ps (suc s) fs (omega arith)))
  where
    go : (b : Bool) → sum_over (length_in i ps) (numbered_from (suc s) fs) ≡ lengths_in i (drop (suc s) ps) fs
        → cond b f.0 0 + sum_over (length_in i ps) (numbered_from (suc s) fs)
        ≡ cond b (f.0 + lengths_in i (drop (suc s) ps) fs) (lengths_in i (drop (suc s) ps) fs)
    go true e = omega arith
    go false e = omega arith

each_also : {A : Type 0} (P Q : A → Type 0) → ((x : A) → P x → Q x) → (xs : List A) → Each P xs → Each Q xs
each_also P Q f [] e = tt
each_also P Q f (x ∷ xs) e = (f x e.0, each_also P Q f xs e.1)

none_in : (i n : ℕ) (fs : List FlipFlops) → lengths_in (suc i) (replicate n 0) fs ≡ 0
unfolding lengths_in
none_in i zero [] = refl
none_in i zero (f ∷ fs) = refl
none_in i (suc n) [] = refl
none_in i (suc n) (f ∷ fs) = rw (eqb-zero-suc i) (none_in i n fs)

-- k wrapper chains and n places, all of them 0
abbrev zeros : ℕ → ℕ → Threaded
zeros k n = record { lengths = replicate k 0; places = replicate n 0 }

zeros-sum : (k n i : ℕ) (fs : List FlipFlops) → 1 ≤ k → length fs ≤ n
    → get_or (thread (ordered (numbered_from 0 fs)) (zeros k n)).lengths i 0
    ≡ lengths_in (suc i) (thread (ordered (numbered_from 0 fs)) (zeros k n)).places fs
zeros-sum k n i fs pos few =
    let cs : List Chain = ordered (numbered_from 0 fs) in
    let ps : List ℕ = (thread cs (zeros k n)).places in
    let e : length (replicate {A = ℕ} k 0) ≡ k = length-replicate k 0 in
    let p : length (replicate {A = ℕ} n 0) ≡ n = length-replicate n 0 in
    let z : get_or {A = ℕ} (replicate k 0) i 0 ≡ 0 = zeros-at k i in
    let w : Each (λ c. c.number < n) cs =
    each_also (IsChain fs) (λ c. c.number < n) (λ c q. omega (arith, q.0)) cs (ordered-each-is fs)
    in
    let a = thread-sum n i cs (zeros k n) (omega arith) p w (λ m. ordered-few m fs) in
    let b = sum-numbered (suc i) ps 0 fs (omega (arith, thread-places-length cs (zeros k n))) in
    omega (arith, a, b, ordered-sum (length_in (suc i) ps) (numbered_from 0 fs))

-- "flip-flops of a wrapper chain are the sum of its internal chains"
pub flip_flops-sum : (d : Module) → length d.chains ≡ chains_max → (scan : Bool) (k : ℕ) → 1 ≤ k → (i : ℕ)
    → get_or (threaded d scan k).lengths i 0 ≡ lengths_in (suc i) (threaded d scan k).places (chains_of d)
unfolding threaded used_chains thread
flip_flops-sum d sized true k pos i = zeros-sum k chains_max i (chains_of d) pos (omega (arith, length-take d.chain_count d.chains))
flip_flops-sum d sized false k pos i = zeros-at k i ∙ sym (none_in i chains_max (chains_of d))

-- what lengths gained, where each only grew
gained-total : (xs ys : List ℕ) → length xs ≡ length ys → ((i : ℕ) → get_or xs i 0 ≤ get_or ys i 0) → total xs + total (gained xs ys) ≡ total ys
unfolding gained total
gained-total [] [] e h = omega arith
gained-total [] (y ∷ ys) e h = absurd (omega arith)
gained-total (x ∷ xs) [] e h = absurd (omega arith)
gained-total (x ∷ xs) (y ∷ ys) e h = omega (arith, h 0, gained-total xs ys (omega arith) (λ i. h (suc i)))

cells_sum : (n : ℕ) (l : List ℕ) → 0 < length l → total (gained l (with_cells n l)) ≡ n
cells_sum n l h = omega (arith, gained-total l (with_cells n l) (sym (cells_length n l)) (λ i. cells_grow n l i), total_cells n l h)

total-zeros : (l : List ℕ) (m : ℕ) → total (l ++ replicate m 0) ≡ total l
unfolding total
total-zeros [] zero = refl
total-zeros [] (suc m) = omega (arith, total-zeros [] m)
total-zeros (x ∷ l) m = ap (λ n. x + n) (total-zeros l m)

total-padded : (n : ℕ) (l : List ℕ) → total (padded n 0 l) ≡ total l
unfolding padded
total-padded n l = total-zeros l (n - length l)

threaded-width : (d : Module) (scan : Bool) (k : ℕ) → length (threaded d scan k).lengths ≡ k
unfolding threaded
threaded-width d scan k = thread-length (used_chains d scan) (empty k) ∙ length-replicate k 0

shared_width : (d : Module) (scan : Bool) (k : ℕ) → length (with_bidirs d (threaded d scan k)) ≡ k
shared_width d scan k = cells_length d.bidirs (threaded d scan k).lengths ∙ threaded-width d scan k

held-sum : (n : ℕ) (l : List ℕ) → 0 < length l → total (padded width_max 0 (gained l (with_cells n l))) ≡ n
held-sum n l h = total-padded width_max (gained l (with_cells n l)) ∙ cells_sum n l h

-- each input, output and bidirectional cell lies in exactly one wrapper chain: the counts over all chains are inputs, outputs and bidirs
module _ (c : ℕ) (d : Module) (k : ℕ) (t : Test) (pos : 1 ≤ k) where
  pub input_cells_sum : total (layout_of c d k t).input_cells ≡ d.inputs
  unfolding layout_of
  input_cells_sum = held-sum d.inputs (with_bidirs d (threaded d t.scan_use k)) (omega (arith, shared_width d t.scan_use k))

  pub output_cells_sum : total (layout_of c d k t).output_cells ≡ d.outputs
  unfolding layout_of
  output_cells_sum = held-sum d.outputs (with_bidirs d (threaded d t.scan_use k)) (omega (arith, shared_width d t.scan_use k))

  pub bidir_cells_sum : total (layout_of c d k t).bidir_cells ≡ d.bidirs
  unfolding layout_of
  bidir_cells_sum = held-sum d.bidirs (threaded d t.scan_use k).lengths (omega (arith, threaded-width d t.scan_use k))

-- what the layout holds of each wrapper chain
pub layout_flip_flops : (c : ℕ) (d : Module) → length d.chains ≡ chains_max → (k : ℕ) (t : Test) → 1 ≤ k → (i : ℕ)
    → get_or (layout_of c d k t).flip_flops i (flip_flops 0)
    ≡ flip_flops (lengths_in (suc i) (layout_of c d k t).chain_of (chains_of d))
unfolding layout_of
layout_flip_flops c d sized k t pos i =
    padded-at width_max (flip_flops 0) (map flip_flops (threaded d t.scan_use k).lengths) i
    ∙ get_or-map flip_flops (threaded d t.scan_use k).lengths i 0
    ∙ ap flip_flops (flip_flops-sum d sized t.scan_use k pos i)

-- entries past k are 0
module _ (c : ℕ) (d : Module) (k : ℕ) (t : Test) (i : ℕ) (past : k ≤ i) where
  pub past_flip_flops : get_or (layout_of c d k t).flip_flops i (flip_flops 0) ≡ flip_flops 0
  unfolding layout_of
  past_flip_flops =
      padded-at width_max (flip_flops 0) (map flip_flops (threaded d t.scan_use k).lengths) i
      ∙ get_or-map flip_flops (threaded d t.scan_use k).lengths i 0
      ∙ ap flip_flops (get_or-eq_default (threaded d t.scan_use k).lengths 0 (omega (arith, threaded-width d t.scan_use k)))

  past_cells : (n : ℕ) (l : List ℕ) → length l ≡ k → get_or (padded width_max 0 (gained l (with_cells n l))) i 0 ≡ 0
  past_cells n l e =
      padded-at width_max 0 (gained l (with_cells n l)) i
      ∙ get_or-eq_default (gained l (with_cells n l)) 0
      (omega (arith, gained-length l (with_cells n l) (sym (cells_length n l)), e))

  pub past_input_cells : get_or (layout_of c d k t).input_cells i 0 ≡ 0
  unfolding layout_of
  past_input_cells = past_cells d.inputs (with_bidirs d (threaded d t.scan_use k)) (shared_width d t.scan_use k)

  pub past_output_cells : get_or (layout_of c d k t).output_cells i 0 ≡ 0
  unfolding layout_of
  past_output_cells = past_cells d.outputs (with_bidirs d (threaded d t.scan_use k)) (shared_width d t.scan_use k)

  pub past_bidir_cells : get_or (layout_of c d k t).bidir_cells i 0 ≡ 0
  unfolding layout_of
  past_bidir_cells = past_cells d.bidirs (threaded d t.scan_use k).lengths (threaded-width d t.scan_use k)

-- lengths, by how much they grew and by how much they grew again are the lengths at last
added-gained : (xs ys zs : List ℕ) (m : ℕ) → length xs ≡ length ys → length ys ≡ length zs → ((i : ℕ) → get_or xs i 0 ≤ get_or ys i 0)
    → ((i : ℕ) → get_or ys i 0 ≤ get_or zs i 0)
    → added (map flip_flops xs ++ replicate m (flip_flops 0)) (gained xs ys ++ replicate m 0) (gained ys zs ++ replicate m 0)
    ≡ zs ++ replicate m 0
unfolding added gained
added-gained [] [] [] zero e f g h = refl
added-gained [] [] [] (suc m) e f g h = ap (λ l. 0 ∷ l) (added-gained [] [] [] m e f g h)
added-gained [] [] (z ∷ zs) m e f g h = absurd (omega arith)
added-gained [] (y ∷ ys) zs m e f g h = absurd (omega arith)
added-gained (x ∷ xs) [] zs m e f g h = absurd (omega arith)
added-gained (x ∷ xs) (y ∷ ys) [] m e f g h = absurd (omega arith)
added-gained (x ∷ xs) (y ∷ ys) (z ∷ zs) m e f g h =
    let a : x + (y - x) + (z - y) ≡ z = omega (arith, g 0, h 0) in
    rw a (ap (λ l. z ∷ l) (added-gained xs ys zs m (omega arith) (omega arith) (λ i. g (suc i)) (λ i. h (suc i))))

added_is : (b n w : ℕ) (l : List ℕ)
    → added (padded w (flip_flops 0) (map flip_flops l)) (padded w 0 (gained l (with_cells b l)))
    (padded w 0 (gained (with_cells b l) (with_cells n (with_cells b l))))
    ≡ padded w 0 (with_cells n (with_cells b l))
unfolding padded
added_is b n w l =
    let e : length l ≡ length (with_cells b l) = sym (cells_length b l) in
    let f : length (with_cells b l) ≡ length (with_cells n (with_cells b l)) = sym (cells_length n (with_cells b l)) in
    rw (length-map l flip_flops, gained-length l (with_cells b l) e, gained-length (with_cells b l) (with_cells n (with_cells b l)) f, ← f, ← e)
    (added-gained l (with_cells b l) (with_cells n (with_cells b l)) (w - length l) e f (λ i. cells_grow b l i)
    (λ i. cells_grow n (with_cells b l) i))

-- the scan-in of each wrapper chain is its flip-flops, bidirectional cells and input cells, its scan-out likewise with output cells
module _ (c : ℕ) (d : Module) (k : ℕ) (t : Test) where
  pub layout_scan_ins : scan_ins (layout_of c d k t)
      ≡ padded width_max 0 (with_cells d.inputs (with_bidirs d (threaded d t.scan_use k)))
  unfolding layout_of
  layout_scan_ins = added_is d.bidirs d.inputs width_max (threaded d t.scan_use k).lengths

  pub layout_scan_outs : scan_outs (layout_of c d k t)
      ≡ padded width_max 0 (with_cells d.outputs (with_bidirs d (threaded d t.scan_use k)))
  unfolding layout_of
  layout_scan_outs = added_is d.bidirs d.outputs width_max (threaded d t.scan_use k).lengths

longest-zeros : (l : List ℕ) (m : ℕ) → longest (l ++ replicate m 0) ≡ longest l
unfolding longest
longest-zeros [] zero = refl
longest-zeros [] (suc m) = omega (arith, longest-zeros [] m)
longest-zeros (x ∷ l) m = ap (max x) (longest-zeros l m)

longest-held : (l : List ℕ) → longest (padded width_max 0 l) ≡ longest l
unfolding padded
longest-held l = longest-zeros l (width_max - length l)

-- "longest scan-in si and longest scan-out so": the longest of these
module _ (c : ℕ) (d : Module) (k : ℕ) (t : Test) where
  pub scan_in-is : scan_in d t.scan_use k ≡ longest (scan_ins (layout_of c d k t))
  unfolding scan_in longest_after
  scan_in-is =
      sym (ap longest (layout_scan_ins c d k t) ∙ longest-held (with_cells d.inputs (with_bidirs d (threaded d t.scan_use k))))

  pub scan_out-is : scan_out d t.scan_use k ≡ longest (scan_outs (layout_of c d k t))
  unfolding scan_out longest_after
  scan_out-is =
      sym (ap longest (layout_scan_outs c d k t) ∙ longest-held (with_cells d.outputs (with_bidirs d (threaded d t.scan_use k))))

  -- and these are the figures by the sum: the larger of the longest length before and the total length plus the cells that count,
  -- divided by k, rounded up
  module _ (pos : 1 ≤ k) where
    evened-at : (n : ℕ) → longest_after n (threaded d t.scan_use k).lengths
        ≡ evened (longest (threaded d t.scan_use k).lengths) (total (threaded d t.scan_use k).lengths) n k
    evened-at n =
        let l : length (threaded d t.scan_use k).lengths ≡ k = threaded-width d t.scan_use k in
        rw l at (cells_evened n (threaded d t.scan_use k).lengths (omega arith))

    pub layout_in_evened : longest (scan_ins (layout_of c d k t))
        ≡ evened (longest (threaded d t.scan_use k).lengths) (total (threaded d t.scan_use k).lengths)
        (d.inputs + d.bidirs) k
    layout_in_evened = sym scan_in-is ∙ scan_in-counted d t.scan_use k ∙ evened-at (d.inputs + d.bidirs)

    pub layout_out_evened : longest (scan_outs (layout_of c d k t))
        ≡ evened (longest (threaded d t.scan_use k).lengths) (total (threaded d t.scan_use k).lengths)
        (d.outputs + d.bidirs) k
    layout_out_evened = sym scan_out-is ∙ scan_out-counted d t.scan_use k ∙ evened-at (d.outputs + d.bidirs)
