-- Laws of the sums of a record's cycles, and of its largest busy figure, as chains over its places give them. Assumes nothing.
use Rattle.std.proofs.Common.{ℕ, ◌+◌, ◌≡◌, ◌∙◌, refl, List, [], ◌∷◌, Bool, cond, arith, add-one, max}
use Rattle.std.proofs.lemmas.List.Sums.{sum_by-cons}
use lib.Dec.{eqb}
use Rattle.std.specs.List.{enumerate_from, list_all, fold}
use Rattle.units.specs.Places.{all_of}
use Rattle.plan_rules.specs.Plans.{largest}
use Rattle.plan_record.specs.Good.{good_busies}
use Rattle.plan_record.specs.declared.record.Bus.{Bus}
use Rattle.plan_record.specs.Record.{cycles_on, start_of, runs_before, busies_of}
use Rattle.plan_record.specs.declared.record.PlacedModule.{PlacedModule}
use Rattle.plan_sums.specs.Times.{cycles_where}

pub cycles_on-where : (b : ℕ) (ms : List PlacedModule) → cycles_where (λ m. eqb m.bus b) ms ≡ cycles_on b ms
unfolding cycles_on
cycles_on-where b [] = refl
cycles_on-where b (m ∷ ms) = rw (sum_by-cons (λ x. cond (eqb x.bus b) x.cycles.0 0) m ms, cycles_on-where b ms)

pub start-where : (m : PlacedModule) (ms : List PlacedModule) → cycles_where (λ x. runs_before x m) ms ≡ start_of ms m
unfolding start_of
start-where m [] = refl
start-where m (x ∷ ms) = rw (sum_by-cons (λ y. cond (runs_before y m) y.cycles.0 0) x ms, start-where m ms)

-- a chain's test of every place is the definitions'
pub all-is : {A : Type 0} (p : A → Bool) (xs : List A) → list_all p xs ≡ all_of p xs
unfolding all_of
all-is p [] = refl
all-is p (x ∷ xs) = rw (all-is p xs)

-- the busy figures of the buses from bus i + 1 on
pub busies-is : (ms : List PlacedModule) (i : ℕ) (bs : List Bus) → list_all (λ q. eqb q.1.busy.0 (cycles_on (q.0 + 1) ms)) (enumerate_from i bs) ≡ good_busies ms (i + 1) bs
unfolding good_busies
busies-is ms i [] = refl
busies-is ms i (b ∷ bs) = rw (busies-is ms (i + 1) bs, add-one (i + 1))

-- the maximum of a chain over the buses, and 0 of none
largest_from : (m : ℕ) (bs : List Bus) → fold (λ n x. max n x.busy.0) m bs ≡ max m (largest (busies_of bs))
unfolding largest
largest_from m [] = omega arith
largest_from m (b ∷ bs) = rw (largest_from (max m b.busy.0) bs) (omega arith)

pub largest-is : (bs : List Bus) → fold (λ m b. max m b.busy.0) 0 bs ≡ largest (busies_of bs)
largest-is bs = largest_from 0 bs ∙ omega arith
