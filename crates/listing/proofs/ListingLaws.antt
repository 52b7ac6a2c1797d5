-- Laws of what is printed: the lines for a refusal and for a plan, what the first line decides. Assumes nothing.
use Prim.Native.Nat.{ℕ, ◌≤◌, ◌<◌}
use mathlib.Core.Path.{◌≡◌, refl, sym, ap, ◌∙◌}
use mathlib.Core.Bool.{Bool, true, false}
use mathlib.Core.List.{List, [], ◌∷◌}
use native.Mathlib.Omega.{arith}
use borrow.Author.Tests.{lt-leb, leb-true, leb-false, ltb-true, ltb-false}
use lib.ListN.{length, take, length-drop}
use lib.Seq.{take_all, take-take, length-take-le}
use lib.Dec.{leb, ltb}
use Rattle.std.specs.Prelude.{Result, Ok, Err}
use Rattle.units.specs.Refusals.{refused}
use Rattle.units.specs.declared.Fault.{Fault}
use Rattle.units.specs.declared.Fault.TheVariants.{LongText, WrongForm}
use Rattle.units.specs.declared.Refusal.{Refusal}
use Rattle.units.proofs.Unique.{answer_and_bytes_unique}
use Rattle.fields.specs.Lines.{until_lf, line_at}
use Rattle.buffer.specs.Puts.{Put}
use Rattle.soc.specs.Limits.{text_max}
use Rattle.text_reader.specs.Reading.{read_soc}
use Rattle.fields.specs.WrittenLines.{written_lines}
use Rattle.listing.specs.Asked.{plan_line_max, Wanted, text_behind, asked}
use Rattle.listing.specs.Listing.{refusal_fields, text_printed, printed, listed, listing_max, listing_answer, listing_leaves}
use Rattle.listing.proofs.AskedLaws.{first-line, asked-long, asked-short}
use Rattle.listing.proofs.FrontLaws.{next-high, until_front, line-front}

-- what was put, under another name and with a wider bound
pub put_as : {v w start buf : List ℕ} {r : ℕ} (n : ℕ) → v ≡ w → n ≤ listing_max → Put w 0 start buf r × (length w ≤ n) → Put v 0 start buf r × (length v ≤ listing_max)
put_as n e h p = rw e (p.0, omega arith)

-- what is printed for an input, by its first line
module _ (input : List ℕ) where
  pub listed-no : (f : Fault) → asked input ≡ Err f → listed input ≡ written_lines (refusal_fields (refused f 0) ∷ [])
  unfolding listed printed
  listed-no f e = rw e

  pub listed-says : (k : Wanted) → asked input ≡ Ok k → listed input ≡ written_lines (text_printed k (read_soc (text_behind input)))
  unfolding listed printed
  listed-says k e = rw e

-- a first line that is too long is refused, whatever follows
listed-long : (input : List ℕ) → plan_line_max < (line_at input 0).next → listed input ≡ written_lines (refusal_fields (refused WrongForm 0) ∷ [])
listed-long input h = listed-no input WrongForm (asked-long input h)

-- so is a text that is too long
read-long : (t : List ℕ) → text_max < length t → read_soc t ≡ Err (refused LongText 0)
unfolding read_soc
read-long t h = simp (lt-leb (length t) text_max h)

-- what is printed depends on the text only by what is read of it
printed-same : (w : Result Wanted Fault) (t u : List ℕ) → read_soc t ≡ read_soc u → printed w t ≡ printed w u
unfolding printed
printed-same (Err f) t u e = refl
printed-same (Ok k) t u e = ap (text_printed k) e

-- the input's first n bytes, with a first line that is not too long in them and more text behind it than may be
module _ (n : ℕ) (input : List ℕ) (many : 61473 ≤ n) (more : n < length input) (line : line_at (take n input) 0 ≡ line_at input 0) (short : (line_at input 0).next ≤ plan_line_max) where
  asked-front : asked (take n input) ≡ asked input
  asked-front =
      let f = first-line input in
      let e : take (line_at input 0).to (take n input) ≡ take (line_at input 0).to input = take-take (line_at input 0).to n input (omega arith) in
      asked-short (take n input) (rw line short) ∙ rw (line, e) (sym (asked-short input short))

  read-front : read_soc (text_behind (take n input)) ≡ read_soc (text_behind input)
  read-front =
      let l : length (take n input) ≡ n = length-take-le n input (omega arith) in
      read-long (text_behind (take n input)) (rw (line, length-drop) (omega arith)) ∙ sym (read-long (text_behind input) (rw length-drop (omega arith)))

  listed-front : listed (take n input) ≡ listed input
  unfolding listed
  listed-front = ap written_lines (ap (λ (w : Result Wanted Fault). printed w (text_behind (take n input))) asked-front ∙ printed-same (asked input) (text_behind (take n input)) (text_behind input) read-front)

-- the first 61,473 bytes of an input are enough: a first line of at most 32 bytes and then 61,441 bytes of text are refused whatever follows
pub listed_enough : (n : ℕ) (input : List ℕ) → 61473 ≤ n → listed (take n input) ≡ listed input
listed_enough n input h = go (leb (length input) n) refl (ltb (until_lf input) n) refl (leb (line_at input 0).next plan_line_max) refl
  where
    go : (a : Bool) → leb (length input) n ≡ a → (b : Bool) → ltb (until_lf input) n ≡ b → (c : Bool) → leb (line_at input 0).next plan_line_max ≡ c → listed (take n input) ≡ listed input
    go true p b q c r = ap listed (take_all n input (leb-true (length input) n p))
    go false p true q true r =
        let m = leb-false (length input) n p in
        listed-front n input h m (line-front n input (ltb-true (until_lf input) n q) (omega arith)) (leb-true (line_at input 0).next plan_line_max r)
    go false p true q false r =
        let m = leb-false (length input) n p in
        let e = line-front n input (ltb-true (until_lf input) n q) (omega arith) in
        let l = leb-false (line_at input 0).next plan_line_max r in
        listed-long (take n input) (rw e l) ∙ sym (listed-long input l)
    go false p false q c r =
        let k = ltb-false (until_lf input) n q in
        listed-long (take n input) (omega (arith, next-high (take n input), until_front n input)) ∙ sym (listed-long input (omega (arith, next-high input)))

-- two answers that meet the promise of `listing` are equal, and so are the bytes
pub listing_unique : (input start : List ℕ) (a b : Result ℕ Refusal) (x y : List ℕ) → (a ≡ listing_answer input start) × (x ≡ listing_leaves input start) → (b ≡ listing_answer input start) × (y ≡ listing_leaves input start) → (a ≡ b) × (x ≡ y)
listing_unique input start a b x y p q = answer_and_bytes_unique p q
