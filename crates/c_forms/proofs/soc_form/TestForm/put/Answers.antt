-- `c_forms::soc_form::TestForm::put` meets its contract: its words are those of `test_words`, in order. Assumes nothing.
use borrow.Author.Rules.{rules}
use Rattle.c_forms.specs.SocForm.{test_bytes}
use Rattle.c_forms.proofs.SignedLaws.{flag-word, word-back}
use Rattle.c_forms.proofs.soc_form.TestForm.put.Goals as goal

pub returns : goal.returns
unfolding test_bytes
returns c = let t = c.args.self in
    rw (
      c.from.ensures,
      flag-word,
      c.from-2.ensures,
      flag-word,
      c.cast_unsigned.ensures,
      word-back t.power (record { sfits = search rules }),
    ) at c.put_each.ensures
