-- Laws of the order in which internal chains are taken: "longest first, equal ones in file order", and that they are the module's chains,
-- each once. Sums over the chains do not depend on the order. Assumes nothing.
use Prim.Native.Nat.{ℕ, zero, suc, ◌+◌, ◌≤◌, ◌<◌}
use mathlib.Core.Path.{◌≡◌, refl, ap, ◌∙◌}
use mathlib.Core.Bool.{Bool, true, false, cond}
use mathlib.Core.List.{List, [], ◌∷◌}
use mathlib.Core.Logic.{⊎_elim}
use native.Mathlib.Omega.{arith}
use native.Mathlib.Nat.{eq-or-lt_of_le}
use lib.Dec.{ltb}
use lib.ListN.{length, get_or, drop, drop_of_length-le}
use lib.Seq.{drop-cons}
use borrow.Author.Tests.{ltb-true, ltb-false, eq-eqb, ne_eqb}
use Rattle.units.specs.declared.FlipFlops.{FlipFlops}
use Rattle.soc.specs.Record.{flip_flops}
use Rattle.wrapper_scans.specs.Chains.{no_chain, numbered_from, insert, ordered, sum_over, one, how_many}
use Rattle.wrapper_scans.specs.declared.chains.Chain.{Chain}
use Rattle.wrapper_scans.proofs.ChainLaws.{Each, each_at, ordered-each, ordered-length, numbered-length}

-- of each two chains that follow each other B holds
abbrev Next : (Chain → Chain → Type 0) → Chain → List Chain → Type 0
Next B c [] = Unit {0}
Next B c (d ∷ ds) = B c d

abbrev Linked : (Chain → Chain → Type 0) → List Chain → Type 0
Linked B [] = Unit {0}
Linked B (c ∷ cs) = Next B c cs × Linked B cs

-- of each chain and each behind it S holds
abbrev Pairs : (Chain → Chain → Type 0) → List Chain → Type 0
Pairs S [] = Unit {0}
Pairs S (c ∷ cs) = Each (S c) cs × Pairs S cs

-- d behind c: it is not longer, and where it is as long S holds
record Behind (S : Chain → Chain → Type 0) (c d : Chain) : Type 0 where
  falls : d.length ≤ c.length
  same : d.length ≡ c.length → S c d

module _ (S : Chain → Chain → Type 0) where
  insert-next : (c d : Chain) (ds : List Chain) → Behind S d c → Next (Behind S) d ds → Next (Behind S) d (insert c ds)
  unfolding insert
  insert-next c d [] b n = b
  insert-next c d (e ∷ es) b n = go (ltb c.length e.length)
    where
      go : (t : Bool) → Next (Behind S) d (cond t (e ∷ insert c es) (c ∷ e ∷ es))
      go true = n
      go false = b

  insert_linked : (c : Chain) (ds : List Chain) → Each (S c) ds → Linked (Behind S) ds → Linked (Behind S) (insert c ds)
  unfolding insert
  insert_linked c [] s l = (tt, tt)
  insert_linked c (d ∷ ds) s l = go (ltb c.length d.length) refl (insert_linked c ds s.1 l.1)
    where
      go : (t : Bool) → ltb c.length d.length ≡ t → Linked (Behind S) (insert c ds)
          → Linked (Behind S) (cond t (d ∷ insert c ds) (c ∷ d ∷ ds))
      go true e r =
          let h : c.length < d.length = ltb-true c.length d.length e in
          (insert-next c d ds (record { falls = omega arith; same = λ q. absurd (omega arith) }) l.0, r)
      go false e r = (record { falls = ltb-false c.length d.length e; same = λ q. s.0 }, l)

  ordered_linked : (cs : List Chain) → Pairs S cs → Linked (Behind S) (ordered cs)
  unfolding ordered
  ordered_linked [] p = tt
  ordered_linked (c ∷ cs) p = insert_linked c (ordered cs) (ordered-each (S c) cs p.0) (ordered_linked cs p.1)

-- what holds from each chain to the next, and carries on, holds of all
module _ (B : Chain → Chain → Type 0) (on : (a b c : Chain) → B a b → B b c → B a c) where
  next_on : (b c : Chain) (cs : List Chain) → B b c → Next B c cs → Next B b cs
  next_on b c [] p n = tt
  next_on b c (d ∷ ds) p n = on b c d p n

  linked_behind : (c : Chain) (cs : List Chain) (j : ℕ) → Next B c cs → Linked B cs → j < length cs → B c (get_or cs j no_chain)
  linked_behind c [] j n l h = absurd (omega arith)
  linked_behind c (d ∷ ds) zero n l h = n
  linked_behind c (d ∷ ds) (suc j) n l h = linked_behind c ds j (next_on c d ds n l.0) l.1 (omega arith)

  linked_at : (cs : List Chain) (i j : ℕ) → Linked B cs → i < j → j < length cs → B (get_or cs i no_chain) (get_or cs j no_chain)
  linked_at [] i j l h k = absurd (omega arith)
  linked_at (c ∷ cs) i zero l h k = absurd (omega arith)
  linked_at (c ∷ cs) zero (suc j) l h k = linked_behind c cs j l.0 l.1 (omega arith)
  linked_at (c ∷ cs) (suc i) (suc j) l h k = linked_at cs i j l.1 (omega arith) (omega arith)

behind_on : (S : Chain → Chain → Type 0) → ((a b c : Chain) → S a b → S b c → S a c) → (a b c : Chain) → Behind S a b → Behind S b c
    → Behind S a c
behind_on S on a b c p q =
    record {
      falls = omega arith;
      same = λ e. on a b c (p.same (omega arith)) (q.same (omega arith));
    }

ordered-behind : (S : Chain → Chain → Type 0) → ((a b c : Chain) → S a b → S b c → S a c) → (cs : List Chain) → Pairs S cs → (i j : ℕ)
    → i < j → j < length (ordered cs) → Behind S (get_or (ordered cs) i no_chain) (get_or (ordered cs) j no_chain)
ordered-behind S on cs p i j h k = linked_at (Behind S) (behind_on S on) (ordered cs) i j (ordered_linked S cs p) h k

-- "longest first"
each_of : {A : Type 0} (P : A → Type 0) → ((x : A) → P x) → (xs : List A) → Each P xs
each_of P f [] = tt
each_of P f (x ∷ xs) = (f x, each_of P f xs)

any_pairs : (cs : List Chain) → Pairs (λ c d. Unit {0}) cs
any_pairs [] = tt
any_pairs (c ∷ cs) = (each_of (λ d. Unit {0}) (λ d. tt) cs, any_pairs cs)

pub ordered-falls : (cs : List Chain) (i j : ℕ) → i < j → j < length (ordered cs)
    → (get_or (ordered cs) j no_chain).length ≤ (get_or (ordered cs) i no_chain).length
ordered-falls cs i j h k = (ordered-behind (λ c d. Unit {0}) (λ a b c p q. tt) cs (any_pairs cs) i j h k).falls

-- "equal ones in file order"
numbered-above : (b i : ℕ) (fs : List FlipFlops) → b < i → Each (λ d. b < d.number) (numbered_from i fs)
unfolding numbered_from
numbered-above b i [] h = tt
numbered-above b i (f ∷ fs) h = (h, numbered-above b (suc i) fs (omega arith))

numbered_pairs : (i : ℕ) (fs : List FlipFlops) → Pairs (λ c d. c.number < d.number) (numbered_from i fs)
unfolding numbered_from
numbered_pairs i [] = tt
numbered_pairs i (f ∷ fs) = (numbered-above i (suc i) fs (omega arith), numbered_pairs (suc i) fs)

module _ (n : ℕ) (fs : List FlipFlops) where
  pub ordered_stable : (i j : ℕ) → i < j → j < length (ordered (numbered_from n fs))
      → (get_or (ordered (numbered_from n fs)) j no_chain).length ≡ (get_or (ordered (numbered_from n fs)) i no_chain).length
      → (get_or (ordered (numbered_from n fs)) i no_chain).number < (get_or (ordered (numbered_from n fs)) j no_chain).number
  ordered_stable i j h k =
      (ordered-behind (λ c d. c.number < d.number) (λ a b c p q. omega arith) (numbered_from n fs) (numbered_pairs n fs) i j h k).same

-- the sum of a figure over the chains does not depend on the order
insert-sum : (g : Chain → ℕ) (c : Chain) (cs : List Chain) → sum_over g (insert c cs) ≡ g c + sum_over g cs
unfolding insert sum_over
insert-sum g c [] = refl
insert-sum g c (d ∷ ds) = go (ltb c.length d.length) (insert-sum g c ds)
  where
    go : (t : Bool) → sum_over g (insert c ds) ≡ g c + sum_over g ds
        → sum_over g (cond t (d ∷ insert c ds) (c ∷ d ∷ ds)) ≡ g c + (g d + sum_over g ds)
    go true e = omega arith
    go false e = refl

pub ordered-sum : (g : Chain → ℕ) (cs : List Chain) → sum_over g (ordered cs) ≡ sum_over g cs
unfolding ordered sum_over
ordered-sum g [] = refl
ordered-sum g (c ∷ cs) = insert-sum g c (ordered cs) ∙ ap (λ n. g c + n) (ordered-sum g cs)

-- how many chains have number n
pub ordered_same : (n : ℕ) (cs : List Chain) → how_many n (ordered cs) ≡ how_many n cs
unfolding how_many
ordered_same n cs = ordered-sum (one n) cs

many_none : (n : ℕ) → how_many n [] ≡ 0
unfolding how_many sum_over
many_none n = refl

pub many_here : (n : ℕ) (c : Chain) (cs : List Chain) → c.number ≡ n → how_many n (c ∷ cs) ≡ suc (how_many n cs)
unfolding how_many sum_over
many_here n c cs e = rw (eq-eqb c.number n e) (omega arith)

pub many_other : (n : ℕ) (c : Chain) (cs : List Chain) → (c.number ≡ n → ⊥) → how_many n (c ∷ cs) ≡ how_many n cs
unfolding how_many sum_over
many_other n c cs e = rw (ne_eqb c.number n e) (omega arith)

pub many_behind : (n : ℕ) (c : Chain) (cs : List Chain) → how_many n cs ≤ how_many n (c ∷ cs)
unfolding how_many sum_over
many_behind n c cs = omega arith

-- each number from i on stands once
pub numbered-before : (n i : ℕ) (fs : List FlipFlops) → n < i → how_many n (numbered_from i fs) ≡ 0
unfolding numbered_from
numbered-before n i [] h = many_none n
numbered-before n i (f ∷ fs) h =
    many_other n (record { number = i; length = f.0 }) (numbered_from (suc i) fs) (λ e. omega arith)
    ∙ numbered-before n (suc i) fs (omega arith)

pub numbered-past : (n i : ℕ) (fs : List FlipFlops) → i + length fs ≤ n → how_many n (numbered_from i fs) ≡ 0
unfolding numbered_from
numbered-past n i [] h = many_none n
numbered-past n i (f ∷ fs) h =
    many_other n (record { number = i; length = f.0 }) (numbered_from (suc i) fs) (λ e. omega arith)
    ∙ numbered-past n (suc i) fs (omega arith)

pub numbered_once : (n i : ℕ) (fs : List FlipFlops) → i ≤ n → n < i + length fs → how_many n (numbered_from i fs) ≡ 1
unfolding numbered_from
numbered_once n i [] h k = absurd (omega arith)
numbered_once n i (f ∷ fs) h k =
    ⊎_elim
    (λ e. many_here n c (numbered_from (suc i) fs) e ∙ ap suc (numbered-before n (suc i) fs (omega arith)))
    (λ l. many_other n c (numbered_from (suc i) fs) (λ e. omega arith) ∙ numbered_once n (suc i) fs l (omega arith))
    (eq-or-lt_of_le h)
  where
    c : Chain
    c = record { number = i; length = f.0 }

pub ordered_once : (n : ℕ) (fs : List FlipFlops) → n < length fs → how_many n (ordered (numbered_from 0 fs)) ≡ 1
ordered_once n fs h = ordered_same n (numbered_from 0 fs) ∙ numbered_once n 0 fs (omega arith) (omega arith)

pub ordered-none : (n : ℕ) (fs : List FlipFlops) → length fs ≤ n → how_many n (ordered (numbered_from 0 fs)) ≡ 0
ordered-none n fs h = ordered_same n (numbered_from 0 fs) ∙ numbered-past n 0 fs (omega arith)

pub ordered-few : (n : ℕ) (fs : List FlipFlops) → how_many n (ordered (numbered_from 0 fs)) ≤ 1
ordered-few n fs = go (ltb n (length fs)) refl
  where
    go : (t : Bool) → ltb n (length fs) ≡ t → how_many n (ordered (numbered_from 0 fs)) ≤ 1
    go true e = omega (arith, ordered_once n fs (ltb-true n (length fs) e))
    go false e = omega (arith, ordered-none n fs (ltb-false n (length fs) e))

-- each chain is one of the file's: its number is a place, and its length stands there
abbrev pub IsChain : List FlipFlops → Chain → Type 0
IsChain fs c = (c.number < length fs) × ((get_or fs c.number (flip_flops 0)).0 ≡ c.length)

numbered-are : (fs : List FlipFlops) (n i : ℕ) → i + n ≡ length fs → Each (IsChain fs) (numbered_from i (drop i fs))
unfolding numbered_from
numbered-are fs zero i e = rw (drop_of_length-le fs {i = i} (omega arith)) tt
numbered-are fs (suc n) i e =
    let h : i < length fs = omega arith in
    rw (drop-cons fs i (flip_flops 0) h) ((h, refl), numbered-are fs n (suc i) (omega arith))

pub ordered-each-is : (fs : List FlipFlops) → Each (IsChain fs) (ordered (numbered_from 0 fs))
ordered-each-is fs = ordered-each (IsChain fs) (numbered_from 0 fs) (numbered-are fs (length fs) 0 (omega arith))

pub ordered-is : (fs : List FlipFlops) (i : ℕ) → i < length fs → IsChain fs (get_or (ordered (numbered_from 0 fs)) i no_chain)
ordered-is fs i h =
    each_at (IsChain fs) no_chain (ordered (numbered_from 0 fs)) i (ordered-each-is fs)
    (omega (arith, ordered-length (numbered_from 0 fs), numbered-length 0 fs))
