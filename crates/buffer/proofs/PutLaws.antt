-- Laws of bytes put into a buffer at a place: a part that was lent comes back, a put behind a put is one put, and lengths stay. Assumes nothing.
use Prim.Native.Nat.{ℕ, suc, ◌+◌, ◌-◌, ◌≤◌, ◌<◌}
use mathlib.Core.Path.{◌≡◌, refl, sym, ap, ◌∙◌}
use mathlib.Core.Bool.{Bool, true, false, cond}
use mathlib.Core.List.{List, [], ◌∷◌, ◌++◌, append_assoc, append-nil}
use native.Mathlib.Nat.{add_assoc}
use native.Mathlib.Numerals.{add-one}
use native.Mathlib.Omega.{arith}
use borrow.Author.Tests.{le-leb, lt-leb, leb-true}
use borrow.Rule.Slice.PartMut.{put_mid}
use lib.ListN.{length, get_or, set, take, drop, length-append, length-take, length-drop, take-append-drop, drop_of_length-le}
use lib.Seq.{take_all, take_at, take-append_seam, drop-append-add, drop-drop, drop-cons, take-suc, length-take-le, set_at}
use lib.Dec.{leb}
use Rattle.buffer.specs.Puts.{put_front, put_count, put_end, put_in, put_at, Put}

-- the part from a place on
abbrev pub part_from : ℕ → List ℕ → List ℕ
part_from at buf = take (length buf - at) (drop at buf)

pub part-rest : (at : ℕ) (buf : List ℕ) → part_from at buf ≡ drop at buf
part-rest at buf = take_all (length buf - at) (drop at buf) (simp length-drop (omega arith))

-- into no room nothing is put
count_none : (w : List ℕ) → put_count w [] ≡ 0
count_none [] = refl
count_none (b ∷ w) = let h : 0 < suc (length w) = omega arith in simp (lt-leb (suc (length w)) 0 h)

front-none : (w : List ℕ) → put_front w [] ≡ []
front-none [] = refl
front-none (b ∷ w) = let h : 0 < suc (length w) = omega arith in simp (lt-leb (suc (length w)) 0 h)

module _ (w : List ℕ) (at : ℕ) (buf : List ℕ) where
  -- no more is written than there is room
  pub count_most : put_count w buf ≤ length buf
  count_most = go (leb (length w) (length buf)) refl
    where
      go : (t : Bool) → leb (length w) (length buf) ≡ t → cond t (length w) 0 ≤ length buf
      go true e = leb-true (length w) (length buf) e
      go false e = omega arith

  -- behind the end there is no room
  pub end_none : length buf ≤ at → at ≡ put_end w at buf
  unfolding put_end
  end_none h = rw (drop_of_length-le buf h, count_none w) (omega arith)

  pub in_none : length buf ≤ at → buf ≡ put_in w at buf
  unfolding put_in
  in_none h = rw (drop_of_length-le buf h, front-none w, append-nil) (sym (take_all at buf h))

  -- what is written into a part that was lent
  pub part_end : (r : ℕ) → r ≡ put_count w (part_from at buf) → at + r ≡ put_end w at buf
  unfolding put_end
  part_end r e = ap (λ n. at + n) (e ∙ ap (put_count w) (part-rest at buf))

  pub part_in : (p : List ℕ) → p ≡ put_front w (part_from at buf) → put_mid at (length buf - at) buf p ≡ put_in w at buf
  unfolding put_in
  part_in p e = rw (drop_of_length-le (drop at buf) {i = length buf - at} (simp length-drop (omega arith)), append-nil, e ∙ ap (put_front w) (part-rest at buf))

  room : at + length w ≤ length buf → leb (length w) (length (drop at buf)) ≡ true
  room h = le-leb (length w) (length (drop at buf)) (simp length-drop (omega arith))

  put-length : at + length w ≤ length buf → length (put_at w at buf) ≡ length buf
  unfolding put_at
  put-length h = simp (length-append, length-take, length-drop) (omega arith)

-- one behind another
pub put-behind : (v w before : List ℕ) (at : ℕ) {middle after : List ℕ} {e r : ℕ} → (e ≡ put_end w at before) × (middle ≡ put_in w at before) → (r ≡ put_end v e middle) × (after ≡ put_in v e middle)
    → (r ≡ put_end v (put_end w at before) (put_in w at before)) × (after ≡ put_in v (put_end w at before) (put_in w at before))
put-behind v w before at p q = (cc, cc)

-- with the room for w, all of it is put
pub put_is : {w : List ℕ} {at r : ℕ} {before after : List ℕ} → at + length w ≤ length before → (r ≡ put_end w at before) × (after ≡ put_in w at before) → Put w at before after r
unfolding put_end put_in put_at
put_is {w} {at} {r} {before} h e = record {
  behind = e.0 ∙ simp (room w at before h);
  holds = e.1 ∙ rw (room w at before h, drop-drop, append_assoc);
}

pub put-kept : {w : List ℕ} {at r : ℕ} {before after : List ℕ} → Put w at before after r → at + length w ≤ length before → length after ≡ length before
put-kept {w} {at} {r} {before} p h = ap length p.holds ∙ put-length w at before h

pub put-none : (at : ℕ) (buf : List ℕ) → Put [] at buf buf at
unfolding put_at
put-none at buf = let e : at + 0 ≡ at = omega arith in record { behind = sym e; holds = rw (e, append-nil) (sym (take-append-drop at buf)) }

put-more : (a b : List ℕ) (at : ℕ) (buf : List ℕ) → at ≤ length buf → put_at b (at + length a) (put_at a at buf) ≡ put_at (a ++ b) at buf
unfolding put_at
put-more a b at buf h =
    let p = take at buf ++ a in
    let n : length p ≡ at + length a = simp (length-append, length-take) (omega arith) in
    let t : take (at + length a) (p ++ drop (at + length a) buf) ≡ p = take_at p (drop (at + length a) buf) (at + length a) n in
    let d : drop (at + length a + length b) (p ++ drop (at + length a) buf) ≡ drop (at + length a + length b) buf = rw (← n, drop-append-add, n, drop-drop) in
    rw (t, d, length-append) (simp (append_assoc, add_assoc))

-- one put behind another
pub put_then : {a b : List ℕ} {at r s : ℕ} {b0 b1 b2 : List ℕ} → at ≤ length b0 → Put a at b0 b1 r → Put b r b1 b2 s → Put (a ++ b) at b0 b2 s
put_then {a} {b} {at} {r} {s} {b0} h p q = record {
  behind = rw length-append (omega (arith, p.behind, q.behind));
  holds = q.holds ∙ rw (p.behind, p.holds) (put-more a b at b0 h);
}

-- in w, which is due at a place of a buffer, rest is still due where what stands before it has been put
pub record Due (rest w : List ℕ) (at : ℕ) (start : List ℕ) (r : ℕ) (buf : List ℕ) : Type 0 where
  pub room : r + length rest ≤ length buf
  pub done : (end : List ℕ) (k : ℕ) → Put rest r buf end k → Put w at start end k

pub due_all : {rest w : List ℕ} {at : ℕ} {start : List ℕ} → w ≡ rest → at + length w ≤ length start → Due rest w at start at start
due_all {rest} {w} {at} {start} e h = record { room = rw (← e) h; done = λ end k p. rw e p }

module _ (a rest : List ℕ) {w start buf : List ℕ} {at r : ℕ} (d : Due (a ++ rest) w at start r buf) where
  pub due-room : r + length a ≤ length buf
  due-room = omega (arith, simp length-append at d.room)

  pub due-next : {next : List ℕ} {k : ℕ} → Put a r buf next k → Due rest w at start k next
  due-next {next} {k} p =
      let n : length next ≡ length buf = put-kept p due-room in
      record {
        room = omega (arith, p.behind, simp length-append at d.room);
        done = λ end j q. d.done end j (put_then (omega (arith, due-room)) p q);
      }

  -- the same where what was put is said of any buffer
  pub due-put : {next : List ℕ} {k : ℕ} → (k ≡ put_end a r buf) × (next ≡ put_in a r buf) → Due rest w at start k next
  due-put e = due-next (put_is due-room e)

-- a key and its number
pub due-key : (a v rest : List ℕ) {w start buf next : List ℕ} {at r k : ℕ} → Due (a ++ v ++ rest) w at start r buf
    → (k ≡ put_end v (put_end a r buf) (put_in a r buf)) × (next ≡ put_in v (put_end a r buf) (put_in a r buf)) → Due rest w at start k next
due-key a v rest d e = due-put v rest (due-put a (v ++ rest) (rw append_assoc at d) (refl, refl)) e

-- what is put at the front of a buffer
module _ {w start buf : List ℕ} {r : ℕ} (p : Put w 0 start buf r) where
  pub front-behind : r ≡ length w
  front-behind = omega (arith, p.behind)

  front-whole : buf ≡ w ++ drop (length w) start
  unfolding put_at
  front-whole = let e : 0 + length w ≡ length w = omega arith in rw e at p.holds

  pub front-within : r ≤ length buf
  front-within = omega (arith, front-behind, simp length-append at (ap length front-whole))

  pub front-text : take r buf ≡ w
  front-text = rw (front-whole, front-behind, take-append_seam)

-- one byte more, where the front holds those before it
pub put_step : (w o b : List ℕ) (i : ℕ) → i < length w → i < length o → b ≡ take i w ++ drop i o → set b i (get_or w i 0) ≡ take (i + 1) w ++ drop (i + 1) o
put_step w o b i h k e =
    let n : length (take i w) ≡ i = length-take-le i w (omega arith) in
    rw (e, add-one, drop-cons o i 0, set_at (take i w) (get_or o i 0) (drop (suc i) o) (get_or w i 0) i n, take-suc w i 0, append_assoc)
