-- `text_lines::level::lengths_at` meets its contract: what its invariant (Invariants.antt) leaves to show. Assumes nothing.
use native.Mathlib.Omega.{arith}
use native.Mathlib.Numerals.{add-one}
use Prim.Native.Nat.{◌-◌, ◌<◌}
use mathlib.Core.Path.{◌≡◌, refl, sym, ap, ◌∙◌}
use lib.ListN.{length, take, drop, length-set, length-take}
use lib.Seq.{take-suc-set, take_all}
use Rattle.fields.specs.Fields.{fields_of}
use Rattle.fields.specs.Readers.{got}
use Rattle.fields.proofs.PlaceAnswerLaws.{number_is}
use Rattle.fields.proofs.ReaderLaws.{after-no, after-got, prepend_none, each-no, each_more, each-end, between-within}
use Rattle.soc.specs.Record.{flip_flops}
use Rattle.soc.specs.Limits.{chains_max, length_max}
use Rattle.text_lines.specs.Kinds.{lengths}
use Rattle.text_lines.proofs.HeadLaws.{front-placed}
use Rattle.text_lines.proofs.LevelLaws.{chain_no, chain_got}
use Rattle.text_lines.proofs.PartLaws.{exit}
use Rattle.text_lines.proofs.level.lengths_at.Goals as goal

pub loop-place-init : goal.loop-place-init
loop-place-init c = let e : c.args.n - 0 ≡ c.args.n = omega arith in
    (simp length-take (omega arith), rw e (sym (prepend_none _)))

pub returns-in_err-v : goal.returns-in_err-v
unfolding lengths
returns-in_err-v c = rw (exit _ c.from_residual.ensures.1)
    (sym (after-no _ _ _ (c.loop-place.invariant.1 ∙ each-no _ 0 c.args.n c.loop-place.place-index _ _ _ (omega arith) (chain_no _ _ (sym (number_is _ _ _ _ c.in_err-v.ensures))))))

pub overflow_cast-place : goal.overflow_cast-place
overflow_cast-place c = let w = between-within 1 length_max _ _ _ (sym (number_is _ _ _ _ c.in_ok-v.ensures)) in omega arith

pub loop-place-preserved : goal.loop-place-preserved
loop-place-preserved c = let v = flip_flops c.in_ok-v.v in
    let h : c.loop-place.place-index < length c.loop-place.place-items = omega arith in (
      simp length-set c.loop-place.invariant.0,
      c.loop-place.invariant.1
          ∙ each_more _ 0 c.args.n c.loop-place.place-index (take c.loop-place.place-index c.loop-place.place-items) _ v _ (omega arith) (chain_got _ _ _ (sym (number_is _ _ _ _ c.in_ok-v.ensures)))
          ∙ rw (add-one, take-suc-set c.loop-place.place-items c.loop-place.place-index v h),
    )

pub returns : goal.returns
unfolding lengths
returns c = let e = c.loop-place.invariant.1 ∙ each-end _ 0 c.args.n c.loop-place.place-index (take c.loop-place.place-index c.loop-place.place-items) _ (omega arith) in
    let t : take c.loop-place.place-index c.loop-place.place-items ≡ c.loop-place.place-items = take_all c.loop-place.place-index c.loop-place.place-items (omega arith) in
    let p = front-placed chains_max (flip_flops 0) c.loop-place.place-items c.loop-place.place-items c.args.n refl c.loop-place.invariant.0 in
    sym (after-got _ _ _ _ (rw t at e) ∙ ap (λ xs. got xs (fields_of (drop c.loop-place.at c.args.l.now))) (sym p))
