-- `text_lines::second::second_to_end` meets its contract. The definition looks at the option and the next keyword as the code does, and a number
-- of tests is what `tests_to_end` counts. Assumes nothing.
use Prim.Native.Nat.{ℕ}
use mathlib.Core.List.{[], ◌∷◌}
use lib.ListN.{drop}
use mathlib.Core.Path.{◌≡◌, sym, ap, ◌∙◌}
use Rattle.std.specs.Prelude.{Ok, Err}
use Rattle.units.specs.declared.Fault.{Fault}
use Rattle.units.specs.declared.Fault.TheVariants.{WrongForm}
use Rattle.units.proofs.TestLaws.{clash}
use Rattle.fields.specs.Fields.{fields_of}
use Rattle.fields.specs.Readers.{FieldsGot, no, got, after, give}
use Rattle.text_lines.specs.Parts.{closed}
use Rattle.text_lines.specs.Kinds.{Tests, tests_part, second_part}
use Rattle.text_lines.proofs.PartLaws.{exit}
use Rattle.text_lines.proofs.second.second_to_end.Goals.{else-xy-via-then-xy+else-is_next, else-xy-via-else-xy}
use Rattle.text_lines.proofs.second.second_to_end.Goals as goal

-- a number of tests as a second line
counted : (t : ℕ) (g : FieldsGot ℕ) → Ok t ≡ closed g → Ok (Tests t) ≡ closed (after g (λ u. give (Tests u)))
unfolding after closed
counted t (no c) h = clash cc
counted t (got u []) h = let k : t ≡ u = cc in ap (λ x. Ok (Tests x)) k
counted t (got u (f ∷ fs)) h = clash cc

counted-no : (c : Fault) (g : FieldsGot ℕ) → Err c ≡ closed g → Err c ≡ closed (after g (λ u. give (Tests u)))
unfolding after closed
counted-no c (no d) h = let k : c ≡ d = cc in ap Err k
counted-no c (got u []) h = clash cc
counted-no c (got u (f ∷ fs)) h = let k : c ≡ WrongForm = cc in ap Err k

pub returns-then-is_next : goal.returns-then-is_next
unfolding second_part
returns-then-is_next c = c.position_to_end.ensures ∙ ap closed (simp (c.if-xy.true, sym c.is_next.ensures ∙ c.if-is_next.true))

pub returns-in_err-t : goal.returns-in_err-t
unfolding second_part tests_part
returns-in_err-t c = let fs = fields_of (drop c.args.at c.args.l.now) in
    let q : second_part c.args.xy fs ≡ tests_part fs = (elim c.else-xy.branch [ else-xy-via-then-xy+else-is_next w ↦ simp (w.if-xy.true, sym w.is_next.ensures ∙ w.if-is_next.false) | else-xy-via-else-xy w ↦ simp w.if-xy.false ]) in
    rw (exit _ c.from_residual.ensures.1) (counted-no _ _ c.in_err-t.ensures ∙ sym (ap closed q))

pub returns : goal.returns
unfolding second_part tests_part
returns c = let fs = fields_of (drop c.args.at c.args.l.now) in
    let q : second_part c.args.xy fs ≡ tests_part fs = (elim c.else-xy.branch [ else-xy-via-then-xy+else-is_next w ↦ simp (w.if-xy.true, sym w.is_next.ensures ∙ w.if-is_next.false) | else-xy-via-else-xy w ↦ simp w.if-xy.false ]) in
    counted _ _ c.in_ok-t.ensures ∙ sym (ap closed q)
