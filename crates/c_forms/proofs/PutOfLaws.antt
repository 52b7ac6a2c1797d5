-- Laws of records put by parts (`PutOf`): a part behind another, and a whole record at the front of a lent buffer that has the room. Assumes
-- nothing.
use Prim.Native.Nat.{ℕ, ◌+◌, ◌≤◌}
use mathlib.Core.Path.{◌≡◌, ◌∙◌}
use mathlib.Core.List.{List, ◌++◌}
use native.Mathlib.Omega.{arith}
use borrow.Author.Tests.{le-leb}
use lib.ListN.{length, length-append}
use Rattle.buffer.specs.Puts.{put_end, put_in, put_at}
use Rattle.buffer.proofs.PutLaws.{put_is, put-kept, put_then}
use Rattle.c_forms.specs.Words.{PutOf, PutFront}

-- a part that there is room for
pub first-put : {w b0 b1 : List ℕ} {m at r : ℕ} → length w ≡ m → at + m ≤ length b0 → (r ≡ put_end w at b0) × (b1 ≡ put_in w at b0)
    → PutOf m w at b0 b1 r
first-put l h e = record { put = put_is (omega arith) e; long = l }

-- how many bytes there are, said otherwise
pub sized-put : {w b0 b1 : List ℕ} {n m at r : ℕ} → n ≡ m → PutOf n w at b0 b1 r → PutOf m w at b0 b1 r
sized-put e p = record { put = p.put; long = p.long ∙ e }

-- a part behind another
pub then_put : {a w b0 b1 b2 : List ℕ} {n m at r s : ℕ} → at ≤ length b0 → PutOf n a at b0 b1 r → PutOf m w r b1 b2 s
    → PutOf (n + m) (a ++ w) at b0 b2 s
then_put h p q = record { put = put_then h p.put q.put; long = rw length-append (omega (arith, p.long, q.long)) }

pub next-put : (w : List ℕ) {a b0 b1 b2 : List ℕ} {n m at r s : ℕ} → length w ≡ m → at + (n + m) ≤ length b0 → PutOf n a at b0 b1 r
    → (s ≡ put_end w r b1) × (b2 ≡ put_in w r b1) → PutOf (n + m) (a ++ w) at b0 b2 s
next-put w {a} {b0} {b1} l h p e =
    let k : length b1 ≡ length b0 = put-kept p.put (omega (arith, p.long)) in
    then_put (omega arith) p (first-put l (omega (arith, p.put.behind, p.long)) e)

-- a whole record at the front
pub all-put : (w buf : List ℕ) {after : List ℕ} {k r : ℕ} → k ≤ length buf → PutOf k w 0 buf after r → PutFront k w buf after r
unfolding put_at
all-put w buf h p =
    let t = le-leb (length w) (length buf) (omega (arith, p.long)) in
    let e : 0 + length w ≡ length w = omega arith in
    (p.put.behind ∙ rw (t, e), p.put.holds ∙ rw (t, e), p.long)
