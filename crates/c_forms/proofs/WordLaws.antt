-- Laws of words that stand one behind the other: each is read back at its place, and what follows stands behind them all. Assumes nothing.
use Prim.Native.Nat.{ℕ, zero, suc, ◌+◌, ◌*◌, ◌<◌}
use mathlib.Core.Path.{◌≡◌, refl}
use mathlib.Core.List.{List, [], ◌∷◌, ◌++◌}
use native.Mathlib.Omega.{arith}
use lib.ListN.{length, get_or}
use Rattle.little_endian.specs.Rows.{each}
use Rattle.little_endian.proofs.LittleLaws.{little-length}
use Rattle.little_endian.proofs.RowLaws.{each-length}
use Rattle.little_endian.proofs.StandLaws.{Stands, stands_behind, number-first, number_behind}
use Rattle.c_forms.specs.Words.{word_length, word, words, word_at}
use Rattle.c_forms.specs.Fit.{Fits4}

pub words-length : (vs : List ℕ) → length (words vs) ≡ word_length * length vs
words-length vs = each-length word word_length vs (length vs) 0 refl (λ i h. little-length word_length (get_or vs i 0))

pub words_stand : (vs : List ℕ) (i : ℕ) {b : List ℕ} {at : ℕ} → i < length vs → Fits4 (get_or vs i 0) → Stands (words vs) b at
    → word_at b at i ≡ get_or vs i 0
unfolding each
words_stand [] i h f s = absurd (omega arith)
words_stand (v ∷ vs) zero {b} {at} h f s = let e : at + word_length * 0 ≡ at = omega arith in rw e (number-first word_length v (words vs) f s)
words_stand (v ∷ vs) (suc i) {b} {at} h f s =
    let e : at + word_length * suc i ≡ at + word_length + word_length * i = omega arith in
    rw e (words_stand vs i (omega arith) f (number_behind word_length v (words vs) (at + word_length) refl s))

pub words-behind : (vs w : List ℕ) {b : List ℕ} {at : ℕ} (to : ℕ) → at + word_length * length vs ≡ to → Stands (words vs ++ w) b at
    → Stands w b to
words-behind vs w to e s = stands_behind (words vs) w (word_length * length vs) to (words-length vs) e s
