use Rattle.std.proofs.Common.{◌≡◌, ◌∙◌, IfSome, ap, sym, subst}
use Rattle.std.specs.Arc.{arc_value}
use Rattle.fs_kinds.specs.Placement.{slots_of}
use Rattle.fs_model.specs.declared.test.Test.{Test}
use Rattle.fs_board_offers.specs.Offers.{slots}
use Rattle.fs_board_offers.specs.Questions.{Question}
use Rattle.fs_board_search.specs.Tries.{IsPostable}
use Rattle.fs_board_search.proofs.Handed.{candidates-handed}
use Rattle.fs_board_search.proofs.Scouts.{known-at, known-still}
use Rattle.fs_board_search.proofs.scout.Scout.judge_by.Goals as goal

pub returns-in_err-verdict-clause-err : goal.returns-in_err-verdict-clause-err
returns-in_err-verdict-clause-err g c =
    candidates-handed c.from_residual.result _ c.self.inside.judge c.args.self.now.test
    (c.self.invariant.0 ∙ ap (λ (q : Question). q.test) c.self.view_is)
    c.from_residual.ensures.1 c.in_err-verdict.ensures.err

pub returns-clause-ok : goal.returns-clause-ok
returns-clause-ok g c =
    subst (λ (t : Test). IfSome c.in_ok-found.found (IsPostable t)) (c.self.invariant.0 ∙ ap (λ (q : Question). q.test) c.self.view_is)
    (c.in_ok-found.ensures.ok c.self.inside.judge c.args.placement.now c.in_ok-verdict.ensures.ok)

pub invariant_of-self-in_err-found : goal.invariant_of-self-in_err-found
invariant_of-self-in_err-found g c =
    let t = c.self.inside.judge in
    let q = arc_value c.self.inside.question in
    let p = c.args.placement.now in
    let over : slots_of p ≡ slots q.offers = c.requires.slots ∙ ap (λ (q : Question). slots q.offers) (sym c.self.view_is) in
    let known = known-at t (slots_of p) q c.self.inside.store c.self.invariant.0 over c.self.invariant.1 in
    known-still c.verdict_by.new.self t (slots_of p) q c.forbidden_or_stored.new.store c.self.inside.planned
    c.in_ok-verdict.ensures.value c.self.invariant.0 over (c.in_err-found.ensures.known t p c.in_ok-verdict.ensures.ok known) c.self.invariant.2

pub invariant_of-self-2 : goal.invariant_of-self-2
invariant_of-self-2 g c =
    let t = c.self.inside.judge in
    let q = arc_value c.self.inside.question in
    let p = c.args.placement.now in
    let over : slots_of p ≡ slots q.offers = c.requires.slots ∙ ap (λ (q : Question). slots q.offers) (sym c.self.view_is) in
    let known = known-at t (slots_of p) q c.self.inside.store c.self.invariant.0 over c.self.invariant.1 in
    known-still c.verdict_by.new.self t (slots_of p) q c.forbidden_or_stored.new.store c.self.inside.planned
    c.in_ok-verdict.ensures.value c.self.invariant.0 over (c.in_ok-found.ensures.known t p c.in_ok-verdict.ensures.ok known) c.self.invariant.2
