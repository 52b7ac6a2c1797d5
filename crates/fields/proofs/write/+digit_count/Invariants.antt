-- `fields::write::digit_count` ends: the measure is the number.
use Rattle.fields.proofs.write.+digit_count.Given as goal

abbrev pub decreases-digit_count : goal.decreases-digit_count
decreases-digit_count l = l.v
