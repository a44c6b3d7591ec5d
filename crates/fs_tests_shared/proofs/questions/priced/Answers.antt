use Rattle.std.proofs.Common.{ap, sym, subst, ◌∙◌}
use Rattle.std.specs.Arc.{arc_value}
use Rattle.fs_model.specs.Test.{IsTest}
use Rattle.fs_board_offers.specs.Questions.{Question, HasTop, IsAtSlots}
use Rattle.fs_board_offers.proofs.Priced.{has-top, same-slots}
use Rattle.fs_tests_shared.proofs.questions.priced.Goals as goal

pub returns-clause-test : goal.returns-clause-test
returns-clause-test c =
    let same = c.in_ok-shared.ensures.ok ∙ c.in_ok-question.ensures.ok in
    subst IsTest (sym (ap (λ (q : Question). q.test) same ∙ c.in_ok-test.ensures.ok)) c.requires

pub returns-clause-slots : goal.returns-clause-slots
returns-clause-slots c =
    let same = c.in_ok-shared.ensures.ok ∙ c.in_ok-question.ensures.ok in
    subst IsAtSlots (sym same) (record { slots = same-slots (arc_value c.in_ok-test.test) c.args.prices.now })

pub returns-clause-top : goal.returns-clause-top
returns-clause-top c =
    let same = c.in_ok-shared.ensures.ok ∙ c.in_ok-question.ensures.ok in
    subst (λ (q : Question). HasTop q.offers) (sym same) (has-top (arc_value c.in_ok-test.test) c.args.prices.now c.of-top.ensures.table)
