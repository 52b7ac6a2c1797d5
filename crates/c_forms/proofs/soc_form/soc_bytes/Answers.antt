-- `c_forms::soc_form::soc_bytes` meets its contract: a record has all its bytes since its arrays have all their places. Assumes nothing.
use Rattle.c_forms.proofs.LengthLaws.{soc-length}
use Rattle.c_forms.proofs.SocHeld.{held-soc}
use Rattle.c_forms.proofs.soc_form.soc_bytes.Goals as goal

pub put_front-requires : goal.put_front-requires
put_front-requires c = soc-length c.args.s (held-soc c.args.s _ c.well_formed.0)
