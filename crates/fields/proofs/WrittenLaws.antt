-- Laws of what is written: a number's digits one by one, a buffer that is written at its front, and that what is written is read back.
use Prim.Native.Nat.{ℕ, zero, suc, ◌+◌, ◌-◌, ◌*◌, ◌/◌, ◌%◌, ◌≤◌, ◌<◌}
use mathlib.Core.Path.{◌≡◌, refl, sym, ap, ◌∙◌}
use mathlib.Core.Bool.{Bool, true, false, not, cond, ◌&&◌, true≢false}
use mathlib.Core.List.{List, [], ◌∷◌, ◌++◌, append_assoc, append-nil}
use mathlib.Core.Option.{some, none}
use native.Mathlib.Omega.{arith}
use native.Mathlib.Numerals.{add-one}
use borrow.Author.Tests.{lt-ltb, le-ltb, ltb-true, ltb-false, leb-true, leb-false, ne_eqb, not-true}
use lib.ListN.{length, drop, set, length-append}
use lib.Dec.{ltb, leb, eqb}
use lib.Seq.{drop-cons, set-append_seam}
use Rattle.fields.specs.Bytes.{space, tab}
use Rattle.fields.specs.Fields.{gap, begins, on_field, fields_of}
use Rattle.fields.specs.Names.{name_byte, name_bytes, name_max, is_name}
use Rattle.fields.specs.Numbers.{digit, digits, more, decimal_of}
use Rattle.fields.specs.WrittenLines.{digits_of, decimal, joined}
use Rattle.fields.proofs.NameLaws.{name-byte-no}
use Rattle.units.proofs.TestLaws.{clash, and_both, within_true, below_false}

module _ (k n : ℕ) where
  digits_of-small : n < 10 → digits_of (suc k) n ≡ (48 + n) ∷ []
  unfolding digits_of
  digits_of-small h = simp (lt-ltb _ _ h)

  digits_of_large : 10 ≤ n → digits_of (suc k) n ≡ digits_of k (n / 10) ++ (48 + n % 10) ∷ []
  unfolding digits_of
  digits_of_large h = simp (le-ltb _ _ h)

-- enough digits are as good as more of them
digits_of_enough : (j k n : ℕ) → n < j → n < k → digits_of j n ≡ digits_of k n
digits_of_enough zero k n h g = absurd (omega arith)
digits_of_enough (suc j) zero n h g = absurd (omega arith)
digits_of_enough (suc j) (suc k) n h g = go (digits_of_enough j k (n / 10)) (ltb n 10) refl
  where
    go : (n / 10 < j → n / 10 < k → digits_of j (n / 10) ≡ digits_of k (n / 10)) → (t : Bool) → ltb n 10 ≡ t → digits_of (suc j) n ≡ digits_of (suc k) n
    go ih true e = let o = ltb-true n 10 e in digits_of-small j n o ∙ sym (digits_of-small k n o)
    go ih false e =
        let o = ltb-false n 10 e in
        digits_of_large j n o ∙ ap (λ l. l ++ (48 + n % 10) ∷ []) (ih (omega arith) (omega arith)) ∙ sym (digits_of_large k n o)

pub decimal-small : (n : ℕ) → n < 10 → decimal n ≡ (48 + n) ∷ []
unfolding decimal
decimal-small n h = digits_of-small n n h

pub decimal_large : (n : ℕ) → 10 ≤ n → decimal n ≡ decimal (n / 10) ++ (48 + n % 10) ∷ []
unfolding decimal
decimal_large n h = digits_of_large n n h ∙ ap (λ l. l ++ (48 + n % 10) ∷ []) (digits_of_enough n (suc (n / 10)) (n / 10) (omega arith) (omega arith))

pub length_large : (n : ℕ) → 10 ≤ n → length (decimal n) ≡ length (decimal (n / 10)) + 1
length_large n h = rw (decimal_large n h, length-append)

digits_of-length : (k n : ℕ) → length (digits_of k n) ≤ k
unfolding digits_of
digits_of-length zero n = omega arith
digits_of-length (suc k) n = go (digits_of-length k (n / 10)) (ltb n 10) refl
  where
    go : length (digits_of k (n / 10)) ≤ k → (t : Bool) → ltb n 10 ≡ t → length (digits_of (suc k) n) ≤ suc k
    go ih true e = rw (digits_of-small k n (ltb-true n 10 e)) (omega arith)
    go ih false e = rw (digits_of_large k n (ltb-false n 10 e), length-append) (omega arith)

pub decimal-length : (n : ℕ) → length (decimal n) ≤ n + 1
unfolding decimal
decimal-length n = omega (arith, digits_of-length (suc n) n)

-- one byte at the front
pub put_first : (b : List ℕ) (x : ℕ) → 1 ≤ length b → set b 0 x ≡ (x ∷ []) ++ drop 1 b
put_first [] x h = absurd (omega arith)
put_first (y ∷ b) x h = refl

-- one byte behind those that are written
pub put_last : (d b : List ℕ) (x : ℕ) → length d < length b → set (d ++ drop (length d) b) (length d) x ≡ (d ++ x ∷ []) ++ drop (length (d ++ x ∷ [])) b
put_last d b x h = rw (drop-cons b (length d) 0, set-append_seam, append_assoc, length-append, add-one)

-- every byte is a digit
unfoldable pub all_digits : List ℕ → Bool
all_digits [] = true
all_digits (b ∷ bs) = digit b && all_digits bs

-- no byte is a space or a tab
unfoldable pub no_gap : List ℕ → Bool
no_gap [] = true
no_gap (b ∷ bs) = not (gap b) && no_gap bs

-- what can stand as a field: not empty, and with no gap
unfoldable pub plain_field : List ℕ → Bool
plain_field f = more f && no_gap f

unfoldable pub plain_fields : List (List ℕ) → Bool
plain_fields [] = true
plain_fields (f ∷ fs) = plain_field f && plain_fields fs

-- the first byte is not a 0
leads : List ℕ → Bool
leads [] = false
leads (b ∷ bs) = not (eqb b 48)

leads_append : (l t : List ℕ) → leads l ≡ true → leads (l ++ t) ≡ true
unfolding leads
leads_append [] t h = clash cc
leads_append (b ∷ l) t h = h

leads_decimal : (l : List ℕ) → leads l ≡ true → decimal_of l ≡ digits l 0
unfolding leads decimal_of
leads_decimal [] h = clash cc
leads_decimal (b ∷ l) h = simp (not-true (eqb b 48) h)

digits_snoc : (l : List ℕ) (d v m : ℕ) → digits l v ≡ some m → digit d ≡ true → digits (l ++ d ∷ []) v ≡ some (m * 10 + (d - 48))
unfolding digits
digits_snoc [] d v m h e = let q : v ≡ m = cc in simp (e, q)
digits_snoc (b ∷ l) d v m h e = go (λ k. digits_snoc l d (v * 10 + (b - 48)) m k e) (digit b) h
  where
    go : (digits l (v * 10 + (b - 48)) ≡ some m → digits (l ++ d ∷ []) (v * 10 + (b - 48)) ≡ some (m * 10 + (d - 48)))
        → (t : Bool) → cond t (digits l (v * 10 + (b - 48))) none ≡ some m → cond t (digits (l ++ d ∷ []) (v * 10 + (b - 48))) none ≡ some (m * 10 + (d - 48))
    go ih true k = ih k
    go ih false k = clash cc

all-digits_snoc : (l : List ℕ) (d : ℕ) → all_digits l ≡ true → digit d ≡ true → all_digits (l ++ d ∷ []) ≡ true
unfolding all_digits
all-digits_snoc [] d h e = simp e
all-digits_snoc (b ∷ l) d h e = let p = and_both (digit b) (all_digits l) h in simp (p.0, all-digits_snoc l d p.1 e)

digit-is : (d : ℕ) → d < 10 → digit (48 + d) ≡ true
digit-is d h = within_true 48 (48 + d) 57 (omega arith) (omega arith)

-- l is how n is written
record Writes (n : ℕ) (l : List ℕ) : Type 0 where
  plain : all_digits l ≡ true
  is : digits l 0 ≡ some n
  first : 1 ≤ n → leads l ≡ true

writes_small : (n : ℕ) → n < 10 → Writes n ((48 + n) ∷ [])
unfolding all_digits digits leads
writes_small n h = record {
  plain = simp (digit-is n h);
  is = let e : 0 * 10 + (48 + n - 48) ≡ n = omega arith in simp (digit-is n h, e);
  first = λ o. simp (ne_eqb (48 + n) 48 (λ e. omega arith));
}

writes_large : (n : ℕ) (l : List ℕ) → 10 ≤ n → Writes (n / 10) l → Writes n (l ++ (48 + n % 10) ∷ [])
writes_large n l h w =
    let d : digit (48 + n % 10) ≡ true = digit-is (n % 10) (omega arith) in
    let e : n / 10 * 10 + (48 + n % 10 - 48) ≡ n = omega arith in
    record {
      plain = all-digits_snoc l (48 + n % 10) w.plain d;
      is = digits_snoc l (48 + n % 10) 0 (n / 10) w.is d ∙ ap some e;
      first = λ o. leads_append l ((48 + n % 10) ∷ []) (w.first (omega arith));
    }

writes_below : (k n : ℕ) → n < k → Writes n (decimal n)
writes_below zero n h = absurd (omega arith)
writes_below (suc k) n h = go (writes_below k (n / 10)) (ltb n 10) refl
  where
    go : (n / 10 < k → Writes (n / 10) (decimal (n / 10))) → (t : Bool) → ltb n 10 ≡ t → Writes n (decimal n)
    go ih true e = let o = ltb-true n 10 e in rw (decimal-small n o) (writes_small n o)
    go ih false e = let o = ltb-false n 10 e in rw (decimal_large n o) (writes_large n (decimal (n / 10)) o (ih (omega arith)))

writes : (n : ℕ) → Writes n (decimal n)
writes n = writes_below (suc n) n (omega arith)

-- a number that is written is read back
pub decimal_back : (n : ℕ) → decimal_of (decimal n) ≡ some n
unfolding decimal_of decimal digits_of digits more
decimal_back zero = refl
decimal_back (suc n) = let w = writes (suc n) in leads_decimal (decimal (suc n)) (w.first (omega arith)) ∙ w.is

pub decimal_plain : (n : ℕ) → all_digits (decimal n) ≡ true
decimal_plain n = (writes n).plain

-- a byte that is at least 33 is no gap
no-gap-from : (b : ℕ) → 33 ≤ b → gap b ≡ false
no-gap-from b h = simp (ne_eqb b space (λ e. omega arith), ne_eqb b tab (λ e. omega arith))

pub digits-no-gap : (l : List ℕ) → all_digits l ≡ true → no_gap l ≡ true
unfolding all_digits no_gap
digits-no-gap [] h = refl
digits-no-gap (b ∷ l) h =
    let p = and_both (digit b) (all_digits l) h in
    let q = and_both (leb 48 b) (leb b 57) p.0 in
    simp (no-gap-from b (omega (arith, leb-true 48 b q.0)), digits-no-gap l p.1)

decimal-more : (l : List ℕ) (n : ℕ) → decimal_of l ≡ some n → more l ≡ true
unfolding decimal_of more
decimal-more [] n h = clash cc
decimal-more (b ∷ l) n h = refl

-- a number that is written can stand as a field
pub decimal_field : (n : ℕ) → plain_field (decimal n) ≡ true
unfolding plain_field
decimal_field n = simp (decimal-more (decimal n) n (decimal_back n), digits-no-gap (decimal n) (decimal_plain n))

name-no-gap : (b : ℕ) → name_byte b ≡ true → gap b ≡ false
name-no-gap b h = go (leb 33 b) refl
  where
    go : (t : Bool) → leb 33 b ≡ t → gap b ≡ false
    go true e = no-gap-from b (leb-true 33 b e)
    go false e =
        let k : b < 33 = leb-false 33 b e in
        let n : name_byte b ≡ false =
        name-byte-no b (omega arith) (omega arith) (below_false 65 b 90 (omega arith)) (below_false 97 b 122 (omega arith)) (below_false 48 b 57 (omega arith)) in
        absurd (true≢false (sym h ∙ n))

names_no_gap : (l : List ℕ) → name_bytes l ≡ true → no_gap l ≡ true
unfolding name_bytes no_gap
names_no_gap [] h = refl
names_no_gap (b ∷ l) h = let p = and_both (name_byte b) (name_bytes l) h in simp (name-no-gap b p.0, names_no_gap l p.1)

length_more : (l : List ℕ) → 1 ≤ length l → more l ≡ true
unfolding more
length_more [] h = absurd (omega arith)
length_more (b ∷ l) h = refl

-- so can a name
pub name_field : (f : List ℕ) → is_name f ≡ true → plain_field f ≡ true
unfolding plain_field
name_field f h =
    let p = and_both (leb 1 (length f)) (leb (length f) name_max && name_bytes f) h in
    let q = and_both (leb (length f) name_max) (name_bytes f) p.1 in
    simp (length_more f (leb-true 1 (length f) p.0), names_no_gap f q.1)

plain_head : (b : ℕ) (l : List ℕ) → no_gap (b ∷ l) ≡ true → gap b ≡ false
unfolding no_gap
plain_head b l h = not-true (gap b) (and_both (not (gap b)) (no_gap l) h).0

plain_tail : (b : ℕ) (l : List ℕ) → no_gap (b ∷ l) ≡ true → no_gap l ≡ true
unfolding no_gap
plain_tail b l h = (and_both (not (gap b)) (no_gap l) h).1

-- a run of bytes that are no gaps, with no such byte behind it, is a field
run_field : (b : ℕ) (l t : List ℕ) → no_gap (b ∷ l) ≡ true → begins t ≡ false → fields_of ((b ∷ l) ++ t) ≡ (b ∷ l) ∷ fields_of t
unfolding fields_of on_field begins
run_field b [] t p e = simp (plain_head b [] p, e)
run_field b (x ∷ l) t p e =
    let q = plain_tail b (x ∷ l) p in
    let g : gap x ≡ false = plain_head x l q in
    simp (plain_head b (x ∷ l) p, g, simp g at (run_field x l t q e))

pub plain_run : (f t : List ℕ) → plain_field f ≡ true → begins t ≡ false → fields_of (f ++ t) ≡ f ∷ fields_of t
unfolding plain_field more
plain_run [] t p e = clash cc
plain_run (b ∷ l) t p e = run_field b l t p e

-- fields that are written are read back
pub joined-fields : (fs : List (List ℕ)) → plain_fields fs ≡ true → fields_of (joined fs) ≡ fs
unfolding joined plain_fields fields_of begins
joined-fields [] h = refl
joined-fields (f ∷ []) h = ap fields_of (sym (append-nil f)) ∙ plain_run f [] (and_both _ _ h).0 refl
joined-fields (f ∷ g ∷ fs) h =
    let p = and_both (plain_field f) (plain_fields (g ∷ fs)) h in
    plain_run f (space ∷ joined (g ∷ fs)) p.0 refl ∙ ap (λ l. f ∷ l) (joined-fields (g ∷ fs) p.1)
