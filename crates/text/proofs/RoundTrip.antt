-- Laws of reading and writing together: a text that describes a good record is read as it, so the written form is read back; no two good
-- records are written alike, and what is read rests on the lines alone. Assumes nothing.
use Prim.Native.Nat.{ℕ, ◌≤◌}
use mathlib.Core.Path.{◌≡◌, sym, ap, ◌∙◌}
use mathlib.Core.Bool.{true}
use mathlib.Core.List.{List}
use borrow.Author.Tests.{le-leb}
use lib.ListN.{length}
use Rattle.std.specs.Prelude.{None, Result, Ok}
use Rattle.units.specs.declared.Refusal.{Refusal}
use Rattle.fields.specs.Bytes.{bad_byte}
use Rattle.fields.specs.Lines.{lines_from}
use Rattle.soc.specs.Rules.{good_soc}
use Rattle.soc.specs.Sized.{Sized}
use Rattle.soc.specs.declared.record.Soc.{Soc}
use Rattle.text.specs.Describes.{Describes, field_lines}
use Rattle.soc.specs.Limits.{text_max}
use Rattle.text_reader.specs.Reading.{soc, answer, unless_bad, read_soc}
use Rattle.text_writer.specs.WrittenSoc.{written_soc}
use Rattle.text.proofs.Described.{reads_described}
use Rattle.text.proofs.Once.{described_once}
use Rattle.text.proofs.WrittenForm.{written-allowed, written_read}

-- a text that is short and has no bad byte is read by its lines
pub reads_lines : (t : List ℕ) → length t ≤ text_max → bad_byte 1 t ≡ None → read_soc t ≡ answer (soc (lines_from 1 t 0))
unfolding read_soc unless_bad
reads_lines t h b = simp (le-leb (length t) text_max h, b)

pub describes_accepted : (t : List ℕ) (s : Soc) → Sized s → length t ≤ text_max → bad_byte 1 t ≡ None → Describes s (field_lines t) → good_soc s ≡ true → read_soc t ≡ Ok s
unfolding answer
describes_accepted t s z h b r g = reads_lines t h b ∙ ap answer (reads_described s (lines_from 1 t 0) z g r)

-- what is written is read back
pub round_trip : (s : Soc) → Sized s → good_soc s ≡ true → length (written_soc s) ≤ text_max → read_soc (written_soc s) ≡ Ok s
round_trip s z g short = describes_accepted (written_soc s) s z short (written-allowed s g) (written_read s g) g

-- two good records are not written alike
pub written_once : (r s : Soc) → Sized r → Sized s → good_soc r ≡ true → good_soc s ≡ true → written_soc r ≡ written_soc s → r ≡ s
written_once r s y z g h e = described_once (written_soc s) r s y z (rw e at (written_read r g)) (written_read s h)

-- two texts with the same lines, each with its number and fields, are read alike: spacing and line ends count for nothing
pub same_lines : (t u : List ℕ) → length t ≤ text_max → length u ≤ text_max → bad_byte 1 t ≡ None → bad_byte 1 u ≡ None → lines_from 1 t 0 ≡ lines_from 1 u 0 → read_soc t ≡ read_soc u
same_lines t u h k b c e = reads_lines t h b ∙ ap (λ ls. answer (soc ls)) e ∙ sym (reads_lines u k c)

-- a text is read in one way
pub read_unique : (t : List ℕ) (a b : Result Soc Refusal) → a ≡ read_soc t → b ≡ read_soc t → a ≡ b
read_unique t a b p q = p ∙ sym q
