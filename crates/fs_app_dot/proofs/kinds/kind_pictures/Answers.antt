use Rattle.std.proofs.Common.{ℕ, List, arith, subst, sym}
use Rattle.std.specs.List.{range_with_len}
use Rattle.fs_model.proofs.Numbered.{range_more}
use Rattle.fs_app_dot.specs.Kinds.{AreOf, IsOfNumber}
use Rattle.fs_app_dot.proofs.Several.{are_more}
use Rattle.fs_app_dot.proofs.kinds.kind_pictures.Goals as goal

pub loop-number-preserved : goal.loop-number-preserved
loop-number-preserved c =
    let IsOf = IsOfNumber c.args.page.test.now c.args.page.title.now c.args.telling c.args.kinds.now in
    let number = c.loop-number.number in
    subst (λ (numbers : List ℕ). AreOf IsOf numbers c.push_found.new.pictures.items) (sym (range_more number))
    (are_more IsOf (range_with_len 0 number) number _ _ _ c.loop-number.invariant c.in_ok-found.ensures
    c.in_ok-push_found.ensures)

pub returns : goal.returns
returns c =
    subst (λ (n : ℕ). AreOf (IsOfNumber c.args.page.test.now c.args.page.title.now c.args.telling c.args.kinds.now) (range_with_len 0 n)
    c.loop-number.pictures.items) (omega (arith, c.loop-number-test.false, c.loop-number.auto.number-end))
    c.loop-number.invariant
