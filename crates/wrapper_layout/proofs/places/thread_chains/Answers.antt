-- `wrapper_layout::places::thread_chains` meets its contract: what its invariant (Invariants.antt) leaves to show. Assumes nothing.
use native.Mathlib.Omega.{arith}
use native.Mathlib.Numerals.{add-one}
use Prim.Native.Nat.{ℕ, ◌+◌, ◌-◌, ◌≤◌, ◌<◌}
use mathlib.Core.Path.{◌≡◌, refl, sym, ap, ◌∙◌}
use mathlib.Core.List.{List, ◌++◌}
use lib.ListN.{length, get_or, take, drop, set, replicate, length-set, length-replicate, take-append-drop}
use lib.ListN.{replicate-append-replicate}
use lib.Seq.{length-take-le, length_front, take_at, drop_at}
use Rattle.soc.specs.Limits.{chains_max}
use Rattle.units.specs.Places.{padded}
use Rattle.wrapper_fit.specs.Fit.{goes, placed}
use Rattle.wrapper_fit.proofs.FitLaws.{goes-below, placed-length, longest-placed, zeros-longest}
use Rattle.wrapper_scans.specs.Chains.{no_chain, Threaded, thread, empty}
use Rattle.wrapper_scans.specs.Held.{front}
use Rattle.wrapper_scans.specs.declared.chains.Chain.{Chain}
use Rattle.wrapper_scans.proofs.ChainLaws.{front_length, front_at, thread_step, thread-end, with_one}
use Rattle.wrapper_layout.specs.Held.{threading_of}
use Rattle.wrapper_layout.specs.declared.places.Threading.{Threading}
use Rattle.wrapper_layout.proofs.places.thread_chains.Goals as goal
use Rattle.wrapper_layout.proofs.places.thread_chains.Goals.{At-loop-c, Start}

-- nothing is threaded yet
zeros : {A : Type 0} (k n : ℕ) (z : A) → k ≤ n → replicate n z ≡ replicate k z ++ replicate (n - k) z
zeros k n z h = let e : k + (n - k) ≡ n = omega arith in rw (replicate-append-replicate k (n - k) z, e)

zeros-take : {A : Type 0} (k n : ℕ) (z : A) → k ≤ n → take k (replicate n z) ≡ replicate k z
zeros-take k n z h = ap (take k) (zeros k n z h) ∙ take_at (replicate k z) (replicate (n - k) z) k (length-replicate k z)

zeros-drop : {A : Type 0} (k n : ℕ) (z : A) → k ≤ n → drop k (replicate n z) ≡ replicate (n - k) z
zeros-drop k n z h = ap (drop k) (zeros k n z h) ∙ drop_at (replicate k z) (replicate (n - k) z) k (length-replicate k z)

-- one more is threaded
one-is : (c : Chain) (t : Threaded) (ls : List ℕ) (at : ℕ) → ls ≡ placed c.length t.lengths → at ≡ goes c.length t.lengths
    → with_one c t ≡ record { lengths = ls; places = set t.places c.number (at + 1) }
one-is c t ls at e g = rw (e, g, add-one)

-- what is threaded, as it is held
held : (k : ℕ) (ls ps : List ℕ) → length (take k ls) ≡ k → drop k ls ≡ replicate (64 - k) 0
    → ◌≡◌ {A = Threading} (record { lengths = ls; places = ps }) (threading_of (record { lengths = take k ls; places = ps }))
unfolding padded
held k ls ps h e =
    let f : ls ≡ take k ls ++ replicate (64 - length (take k ls)) 0 = sym (rw (h, ← e) (take-append-drop k ls)) in
    ap (λ l. record { lengths = l; places = ps }) f

len : (c : Start) → length c.args.o.chains ≡ 64
len c = c.well_formed.0.1.1.1.0.1.0.1

long : (c : Start) → length (front c.args.o) ≡ c.args.o.count
long c = front_length c.args.o (len c) c.requires.2.count

part : (c : At-loop-c) → length (take c.args.k c.loop-c.lengths) ≡ c.args.k
part c = length-take-le c.args.k c.loop-c.lengths (omega (arith, c.requires.1, c.loop-c.invariant.0))

pub loop-c-init : goal.loop-c-init
loop-c-init c = let k = c.args.k in (
  refl,
  refl,
  zeros-drop k 64 0 c.requires.1,
  rw (zeros-take {A = ℕ} k 64 0 c.requires.1) (omega (arith, zeros-longest k)),
  ap (λ l. thread (front c.args.o) (record { lengths = l; places = replicate chains_max 0 })) (sym (zeros-take k 64 0 c.requires.1)),
)

pub overflow_add-places : goal.overflow_add-places
overflow_add-places c = let n = (get_or (front c.args.o) c.loop-c.c-index no_chain).length in
    let h = goes-below n (take c.args.k c.loop-c.lengths) (omega (arith, part (goal.at.overflow_add-places c).At-loop-c, c.requires.0)) in
    omega (arith, part (goal.at.overflow_add-places c).At-loop-c, c.requires.1, c.place-at.ensures.0, h)

pub loop-c-preserved : goal.loop-c-preserved
loop-c-preserved c = let k = c.args.k in
    let i = c.loop-c.c-index in
    let o = c.args.o in
    let ch = get_or (front o) i no_chain in
    let ls = take k c.loop-c.lengths in
    let last = c.place-at.new.l in
    let turn : i < length (front o) = c.loop-c-test.true in
    let below : i < o.count = omega (arith, long (goal.at.loop-c-preserved c).Start) in
    let short : ch.length < 4294967296 = rw (front_at o i below) (c.requires.2.length i below) in
    let e : last ≡ placed ch.length ls = c.place-at.ensures.1 in
    let n : length last ≡ k = ap length e ∙ placed-length ch.length ls ∙ part (goal.at.loop-c-preserved c).At-loop-c in
    let t : take k (last ++ drop k c.loop-c.lengths) ≡ last = take_at last (drop k c.loop-c.lengths) k n in
    let at : Threaded = record { lengths = ls; places = c.loop-c.places } in
    let x : thread (front o) (empty k) ≡ thread (drop i (front o)) at = c.loop-c.invariant.4 in (
      length_front c.loop-c.lengths last k (n ∙ sym (part (goal.at.loop-c-preserved c).At-loop-c)) ∙ c.loop-c.invariant.0,
      length-set c.loop-c.places ch.number (c.place-at.result + 1) ∙ c.loop-c.invariant.1,
      drop_at last (drop k c.loop-c.lengths) k n ∙ c.loop-c.invariant.2,
      rw (t, e) (omega (arith, longest-placed ch.length ls, c.loop-c.invariant.3, short)),
      x
          ∙ thread_step (front o) i at turn
          ∙ ap (thread (drop (i + 1) (front o))) (one-is ch at
          (take k (last ++ drop k c.loop-c.lengths)) c.place-at.result (t ∙ e) c.place-at.ensures.0),
    )

pub returns : goal.returns
returns c = held c.args.k c.loop-c.lengths c.loop-c.places (part (goal.at.returns c).At-loop-c) c.loop-c.invariant.2
    ∙ ap threading_of (sym (c.loop-c.invariant.4 ∙ thread-end (front c.args.o) c.loop-c.c-index
    (record { lengths = take c.args.k c.loop-c.lengths; places = c.loop-c.places }) (omega (arith, long (goal.at.returns c).Start))))
