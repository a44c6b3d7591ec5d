use Rattle.std.proofs.Common.{◌∙◌, ap, sym}
use Rattle.std.specs.Arc.{arc_value}
use Rattle.fs_board_offers.specs.Offers.{slots}
use Rattle.fs_board_offers.specs.Parts.{slots_in_part}
use Rattle.fs_board_offers.specs.Questions.{Question}
use Rattle.fs_board_search.proofs.Handed.{candidates-handed}
use Rattle.fs_board_search.proofs.Scouts.{known-at, known-still}
use Rattle.fs_board_search.proofs.scout.Scout.judged_anew.Goals as goal

pub judge_floor-requires : goal.judge_floor-requires
judge_floor-requires c =
    let q = arc_value c.self.inside.question in
    let over = ap slots_in_part c.deref-2.ensures ∙ (c.requires ∙ ap (λ (q : Question). slots q.offers) (sym c.self.view_is)) in
    known-at c.self.inside.judge (slots_in_part c.deref-2.result.now) q c.self.inside.store c.self.invariant.0 over c.self.invariant.1

pub returns-in_err-found-clause-err : goal.returns-in_err-found-clause-err
returns-in_err-found-clause-err c =
    candidates-handed c.from_residual.result _ c.self.inside.judge c.args.self.now.test
    (c.self.invariant.0 ∙ ap (λ (q : Question). q.test) c.self.view_is)
    c.from_residual.ensures.1 c.in_err-found.ensures.err

pub invariant_of-self-in_err-new : goal.invariant_of-self-in_err-new
invariant_of-self-in_err-new c =
    let q = arc_value c.self.inside.question in
    let over = ap slots_in_part c.deref-2.ensures ∙ (c.requires ∙ ap (λ (q : Question). slots q.offers) (sym c.self.view_is)) in
    known-still c.judge_floor.new.judge c.self.inside.judge (slots_in_part c.deref-2.result.now) q c.judge_floor.new.store c.self.inside.planned
    c.in_ok-found.ensures.judge c.self.invariant.0 over c.in_ok-found.ensures.known c.self.invariant.2

pub invariant_of-self-2 : goal.invariant_of-self-2
invariant_of-self-2 c =
    let q = arc_value c.self.inside.question in
    let over = ap slots_in_part c.deref-2.ensures ∙ (c.requires ∙ ap (λ (q : Question). slots q.offers) (sym c.self.view_is)) in
    known-still c.judge_floor.new.judge c.self.inside.judge (slots_in_part c.deref-2.result.now) q c.judge_floor.new.store c.self.inside.planned
    c.in_ok-found.ensures.judge c.self.invariant.0 over c.in_ok-found.ensures.known c.self.invariant.2
