-- `fields::write::put_digits` ends: the measure is the number.
use Rattle.fields.proofs.write.+put_digits.Given as goal

abbrev pub decreases-put_digits : goal.decreases-put_digits
decreases-put_digits l = l.v
