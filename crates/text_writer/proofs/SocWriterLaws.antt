-- Laws of what the writer of SOC texts answers: its refusal has no line, and what it wrote had the room. Assumes nothing.
use Prim.Native.Nat.{ℕ}
use mathlib.Core.List.{List}
use native.Mathlib.Omega.{arith}
use Rattle.units.specs.declared.Fault.TheVariants.{BadSoc}
use Rattle.buffer.proofs.WriterAnswerLaws.{Fits, unless_fits}
use Rattle.soc.specs.Rules.{good_soc}
use Rattle.soc.specs.declared.record.Soc.{Soc}
use Rattle.text_writer.specs.WrittenSoc.{written_soc, write_answer}

pub write_fits : (s : Soc) (buf : List ℕ) → Fits buf (write_answer s buf)
unfolding write_answer
write_fits s buf = unless_fits BadSoc (written_soc s) buf (omega arith) (good_soc s)
