-- Laws of a form that is put byte by byte, with a figure at each mark. Assumes nothing.
use Prim.Native.Nat.{ℕ, suc, ◌+◌, ◌≤◌, ◌<◌}
use mathlib.Core.Path.{◌≡◌, refl, sym, ap, ◌∙◌}
use mathlib.Core.List.{List, [], ◌∷◌, ◌++◌, append_assoc}
use native.Mathlib.Omega.{arith}
use native.Mathlib.Numerals.{add-one}
use borrow.Author.Tests.{ne_eqb}
use lib.ListN.{length, get_or, take, drop, set, length-set, take-append-drop, drop_of_length-le}
use lib.Seq.{drop-cons, drop-drop, get_or-drop, length-take-le, set_at}
use Rattle.fields.specs.WrittenLines.{decimal}
use Rattle.buffer.specs.Puts.{put_end, put_in, put_at, Put}
use Rattle.buffer.proofs.PutLaws.{Due, due_all, due-room, due-next, put_is, put-kept, put-none}
use Rattle.listing.specs.Forms.{mark, marks, formed}

module _ (f vs : List ℕ) (i k : ℕ) (h : i < length f) where
  -- a mark is next
  module _ (e : get_or f i 0 ≡ mark) where
    marks-mark : marks (drop i f) ≡ suc (marks (drop (i + 1) f))
    unfolding marks
    marks-mark = rw (drop-cons f i 0, add-one i, e) (omega arith)

    formed-mark : formed (drop i f) (drop k vs) ≡ decimal (get_or vs k 0) ++ formed (drop (i + 1) f) (drop (k + 1) vs)
    unfolding formed
    formed-mark =
        let z : k + 0 ≡ k = omega arith in
        rw (drop-cons f i 0, add-one i, e, get_or-drop, drop-drop, z)

  -- another byte is next
  module _ (e : get_or f i 0 ≡ mark → ⊥) where
    marks-byte : marks (drop i f) ≡ marks (drop (i + 1) f)
    unfolding marks
    marks-byte = rw (drop-cons f i 0, add-one i, ne_eqb (get_or f i 0) mark e) (omega arith)

    formed-byte : formed (drop i f) (drop k vs) ≡ (get_or f i 0 ∷ []) ++ formed (drop (i + 1) f) (drop k vs)
    unfolding formed
    formed-byte = rw (drop-cons f i 0, add-one, ne_eqb (get_or f i 0) mark e)

-- one byte put
put_byte : (v e : ℕ) (buf : List ℕ) → e < length buf → Put (v ∷ []) e buf (set buf e v) (e + 1)
unfolding put_at
put_byte v e buf h =
    let n : length (take e buf) ≡ e = length-take-le e buf (omega arith) in
    let s : buf ≡ take e buf ++ get_or buf e 0 ∷ drop (suc e) buf =
    sym (take-append-drop e buf) ∙ ap (λ t. take e buf ++ t) (drop-cons buf e 0 h) in
    let q : suc e ≡ e + 1 = omega arith in
    record {
      behind = refl;
      holds =
          ap (λ b. set b e v) s
          ∙ set_at (take e buf) (get_or buf e 0) (drop (suc e) buf) v e n
          ∙ ap (λ j. take e buf ++ v ∷ drop j buf) q
          ∙ sym (append_assoc (take e buf) (v ∷ []) (drop (e + 1) buf));
    }

-- the first i bytes of the form are put, with the first k figures; the rest is due
pub record Formed (f vs : List ℕ) (at : ℕ) (start buf : List ℕ) (e k i : ℕ) : Type 0 where
  pub upto : i ≤ length f
  pub left : k + marks (drop i f) ≤ length vs
  pub long : length buf ≡ length start
  pub due : Due (formed (drop i f) (drop k vs)) (formed f vs) at start e buf

module _ {f vs : List ℕ} {at : ℕ} {start : List ℕ} where
  pub formed-start : marks f ≤ length vs → at + length (formed f vs) ≤ length start → Formed f vs at start start at 0 0
  formed-start m h = record { upto = omega arith; left = omega arith; long = refl; due = due_all refl h }

  module _ {buf : List ℕ} {e k i : ℕ} (s : Formed f vs at start buf e k i) where
    pub formed-end : length f ≤ i → Put (formed f vs) at start buf e
    unfolding formed
    formed-end h = s.due.done buf e (rw (drop_of_length-le f h) (put-none e buf))

    module _ (h : i < length f) where
      pub figure_there : get_or f i 0 ≡ mark → k < length vs
      figure_there m = omega (arith, s.left, marks-mark f vs i k h m)

      pub formed-figure : {next : List ℕ} {r : ℕ} → get_or f i 0 ≡ mark
          → (r ≡ put_end (decimal (get_or vs k 0)) e buf) × (next ≡ put_in (decimal (get_or vs k 0)) e buf)
          → Formed f vs at start next r (k + 1) (i + 1)
      formed-figure m p =
          let d = rw (formed-mark f vs i k h m) at s.due in
          let q = put_is (due-room (decimal (get_or vs k 0)) _ d) p in
          record {
            upto = omega arith;
            left = omega (arith, s.left, marks-mark f vs i k h m);
            long = put-kept q (due-room (decimal (get_or vs k 0)) _ d) ∙ s.long;
            due = due-next (decimal (get_or vs k 0)) _ d q;
          }

      module _ (m : get_or f i 0 ≡ mark → ⊥) where
        pub byte-room : e < length buf
        byte-room = omega (arith, due-room (get_or f i 0 ∷ []) _ (rw (formed-byte f vs i k h m) at s.due))

        pub formed-next : Formed f vs at start (set buf e (get_or f i 0)) (e + 1) k (i + 1)
        formed-next =
            record {
              upto = omega arith;
              left = omega (arith, s.left, marks-byte f vs i k h m);
              long = length-set buf e (get_or f i 0) ∙ s.long;
              due = due-next (get_or f i 0 ∷ []) _ (rw (formed-byte f vs i k h m) at s.due) (put_byte (get_or f i 0) e buf byte-room);
            }
