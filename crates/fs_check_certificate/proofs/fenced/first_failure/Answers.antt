use Rattle.std.proofs.Common.{◌∷◌, [], IfOk, sym, ◌∙◌, subst}
use Rattle.std.proofs.lemmas.Result.{IfOk-weaker}
use Rattle.fs_model.specs.declared.test.Test.{Test}
use Rattle.fs_board_offers.specs.Parts.{undecided}
use Rattle.fs_check_certificate.specs.Held.{test_in}
use Rattle.fs_check_certificate.specs.inner.Walks.{IsWalked}
use Rattle.fs_check_certificate.proofs.Judged.{cycles_against, tree_against}
use Rattle.fs_check_certificate.proofs.fenced.first_failure.Goals as goal

pub returns-then-is_some-clause-ok : goal.returns-then-is_some-clause-ok
returns-then-is_some-clause-ok c said keeps holds =
    cycles_against (test_in c.args.held.now) c.args.offers.now said c.args.placement.now c.in_ok-reason.reason
    (sym c.is_some.ensures ∙ c.if-is_some.true) (c.in_ok-reason.ensures.ok said.cycles holds)

pub returns-clause-ok : goal.returns-clause-ok
returns-clause-ok c said keeps holds =
    let offers = c.args.offers.now in
    let p = c.args.placement.now in
    let found = c.first_bad_item.result in
    let walked = subst (λ (t : Test). IfOk found (IsWalked t offers said p (undecided offers ∷ []) said.tree)) c.test.ensures
    (c.first_bad_item.ensures.ok said keeps) in
    IfOk-weaker found _ _
    (λ why. tree_against (test_in c.args.held.now) offers said p c.in_ok-reason.reason why
    (sym c.is_some.ensures ∙ c.if-is_some.false) (c.in_ok-reason.ensures.ok said.cycles holds))
    walked
