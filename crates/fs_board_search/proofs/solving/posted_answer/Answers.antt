use Rattle.std.proofs.Common.{◌≡◌, Some, sym, subst, ap, ◌∙◌}
use Rattle.fs_board_offers.specs.Offers.{Offers, cost}
use Rattle.fs_board_offers.specs.Questions.{Question}
use Rattle.fs_cert_evidence.specs.Evidence.{Refuted, ShowsForbidden, placement_in}
use Rattle.fs_board_search.specs.Answers.{IsAnswer, placement_of}
use Rattle.fs_board_search.proofs.Ends.{bound-cheapest}
use Rattle.fs_board_search.proofs.solving.posted_answer.Goals as goal

pub returns-clause-ok : goal.returns-clause-ok
returns-clause-ok c =
    let s = c.args.board.now in
    let placement = placement_in c.in_ok-forbidden.forbidden in
    let placed : placement ≡ placement_in c.in-Some.best.now = ap (λ (f : Refuted). f.placement) c.in_ok-forbidden.ensures in
    let posted : Some placement ≡ s.board.bound = ap (λ p. Some p) placed ∙ c.in-Some.ensures.value in
    let cheapest = bound-cheapest s placement c.log-legal.ensures.offers c.log-legal.ensures.legal c.requires.finished posted in
    let offers : c.offers.result.now ≡ s.question.offers =
    c.offers.ensures.value ∙ ap (λ (q : Question). q.offers) (c.deref.ensures ∙ c.question.ensures) in
    let shows = subst (ShowsForbidden s.question.test) (sym c.in_ok-forbidden.ensures) c.in-Some.ensures.cycles in (
      subst (IsAnswer s.question.test s.question.offers) (sym c.fenced-answer.ensures)
          (cheapest, ap (λ (x : Offers). cost x placement) offers, shows),
      sym posted ∙ ap placement_of (sym c.fenced-answer.ensures),
    )
