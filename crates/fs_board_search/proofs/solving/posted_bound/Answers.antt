use Rattle.std.proofs.Common.{◌≡◌, ◌∙◌, None, Some, ap, sym, subst}
use Rattle.std.specs.Prelude.{option_map}
use Rattle.fs_cert_evidence.specs.Evidence.{Refuted, ShowsForbidden, placement_in}
use Rattle.fs_board_search.proofs.Ends.{bound-cheapest, some-bound}
use Rattle.fs_board_search.proofs.solving.posted_bound.Goals as goal

pub unreachable-requires : goal.unreachable-requires
unreachable-requires c =
    let s = c.args.board.now in
    let nothing : None ≡ s.board.bound = sym (ap (option_map (λ f. placement_in f.now)) c.in_default.is) ∙ c.bound.ensures.value in
    some-bound s c.log-legal.ensures.offers c.log-legal.ensures.legal c.requires.finished nothing c.requires.some

pub returns-clause-ok : goal.returns-clause-ok
returns-clause-ok c =
    let s = c.args.board.now in
    let placement = placement_in c.in_ok-try_clone.field-0 in
    let placed : placement ≡ placement_in c.in-Some.best.now = ap (λ (f : Refuted). f.placement) c.in_ok-try_clone.ensures in
    bound-cheapest s placement c.log-legal.ensures.offers c.log-legal.ensures.legal c.requires.finished
    (ap (λ p. Some p) placed ∙ c.in-Some.ensures.value)
