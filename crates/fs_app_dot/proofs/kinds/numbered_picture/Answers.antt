use Rattle.std.proofs.Common.{◌≡◌, ◌∙◌, ◌+◌, None, Option, Some, ap, option_copied, refl, subst, sym}
use Rattle.fs_app_why.specs.declared.chain.Chain.{Chain}
use Rattle.fs_app_dot.specs.Kinds.{IsOfChain, told_there}
use Rattle.fs_app_dot.proofs.kinds.numbered_picture.Goals as goal

pub returns-in_ok-picture-in-Some : goal.returns-in_ok-picture-in-Some
returns-in_ok-picture-in-Some c =
    let picture = c.in_ok-picture-in-Some.picture in
    let is : told_there c.args.telling c.args.kinds.now c.args.number ≡ Some c.in-Some.chain.now =
    sym c.told_there.ensures ∙ ap option_copied c.in-Some.is in
    subst (λ (chain : Option Chain). IsOfChain c.args.page.test.now c.args.page.title.now (c.args.number + 1) chain (Some picture))
    (sym is) (picture, refl, c.in_ok-picture-in-Some.ensures)

pub returns-in-None : goal.returns-in-None
returns-in-None c =
    let is : told_there c.args.telling c.args.kinds.now c.args.number ≡ None =
    sym c.told_there.ensures ∙ ap option_copied c.in-None.is in
    subst (λ (chain : Option Chain). IsOfChain c.args.page.test.now c.args.page.title.now (c.args.number + 1) chain None)
    (sym is) refl
