use Rattle.std.proofs.Common.{◌≡◌, None, Some, inr, sym, subst, ap, ◌∙◌}
use Rattle.fs_kinds.specs.declared.kind.Kind.TheVariants.{RwRw}
use Rattle.fs_kinds.specs.Placement.{all_with}
use Rattle.fs_model.specs.Slots.{slots}
use Rattle.fs_cert_evidence.specs.Evidence.{Refuted, ShowsForbidden, placement_in}
use Rattle.fs_board_offers.specs.Questions.{Question}
use Rattle.fs_judge.specs.Verdicts.{IsVerdict}
use Rattle.fs_board_search.specs.Answers.{IsAnswer, placement_of}
use Rattle.fs_board_search.proofs.Ends.{all-shown, none-answer}
use Rattle.fs_board_search.proofs.solving.answer_by_ends.Goals as goal
use Rattle.fs_board_offers.specs.Offers.{Offers, cost}

pub returns-in-Allowed-clause-ok : goal.returns-in-Allowed-clause-ok
returns-in-Allowed-clause-ok c =
    let t = c.args.problem.now in
    all-shown t c.in-Allowed.witness (subst (IsVerdict t (all_with (Some RwRw) (slots t))) c.in-Allowed.is c.in_ok-on_all.ensures.ok)

pub returns-in-Forbids-clause-ok : goal.returns-in-Forbids-clause-ok
returns-in-Forbids-clause-ok c =
    let t = c.args.problem.now in
    let offers = c.args.board.now.question.offers in
    let refuted = subst (IsVerdict t (all_with None (slots t))) c.in-Forbids.is c.in_ok-on_none.ensures.ok in
    let least = c.in_ok-least-in-Forbids.least in
    let placed : placement_in least ≡ all_with None (slots t) =
    ap (λ (f : Refuted). f.placement) c.in_ok-least-in-Forbids.ensures.ok ∙ refuted.0 in
    let priced : c.offers.result.now ≡ offers =
    c.offers.ensures.value ∙ ap (λ (q : Question). q.offers) (c.deref.ensures ∙ c.question.ensures) in
    let cheapest = none-answer t (placement_in least) c.args.board.now.question c.requires.same c.requires.slots placed refuted.2 in
    let shows : ShowsForbidden t least.value = subst (ShowsForbidden t) (sym c.in_ok-least-in-Forbids.ensures.ok) refuted.1 in
    subst (IsAnswer t offers) (sym c.fenced.ensures) (cheapest, ap (λ (x : Offers). cost x (placement_in least)) priced, shows)

pub returns-in-Forbids-clause-ends : goal.returns-in-Forbids-clause-ends
returns-in-Forbids-clause-ends c =
    let t = c.args.problem.now in
    let refuted = subst (IsVerdict t (all_with None (slots t))) c.in-Forbids.is c.in_ok-on_none.ensures.ok in
    let placed : placement_in c.in_ok-least-in-Forbids.least ≡ all_with None (slots t) =
    ap (λ (f : Refuted). f.placement) c.in_ok-least-in-Forbids.ensures.ok ∙ refuted.0 in
    inr (ap placement_of c.fenced.ensures ∙ ap (λ p. Some p) placed)
