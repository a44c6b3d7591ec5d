use Rattle.std.proofs.Common.{◌≡◌, ◌≢◌, ◌∙◌, ℕ, List, IfOk, ap, sym, subst}
use Rattle.std.specs.Arc.{arc_value}
use Rattle.fs_kinds.specs.declared.fault.Fault.{Fault}
use Rattle.fs_kinds.specs.declared.placement.Entry.{Entry}
use Rattle.fs_model.specs.Allows.{Allows}
use Rattle.fs_board_offers.specs.Offers.{IsCheapest, IsPlacement}
use Rattle.fs_board_offers.specs.Questions.{Question}
use Rattle.fs_board.specs.View.{Search}
use Rattle.fs_cert_evidence.specs.Evidence.{ShowsForbidden, placement_in}
use Rattle.fs_board_search.specs.Answers.{IsLimitFault}
use Rattle.fs_board_search.proofs.Ends.{handed, if-err}
use Rattle.fs_board_search.proofs.solving.cheapest.Goals as goal

-- a fault of what is equal
same-fault : (s : Search) (q : Question) (limit : ℕ) (f : Fault) → s.question ≡ q → s.board.limit ≡ limit
    → IsLimitFault s.question s.board.limit f → IsLimitFault q limit f
same-fault s q limit f same most is =
    subst (λ (n : ℕ). IsLimitFault q n f) most (subst (λ (x : Question). IsLimitFault x s.board.limit f) same is)

pub returns-in_err-search-clause-err : goal.returns-in_err-search-clause-err
returns-in_err-search-clause-err g c =
    handed c.from_residual-in_err-search.result _ _ c.from_residual-in_err-search.ensures.1
    (λ other. same-fault c.in_ok-board.board c.args.question.value c.args.limit _
    (ap (λ (s : Search). s.question) c.in_ok-board.ensures.ok) (ap (λ (s : Search). s.board.limit) c.in_ok-board.ensures.ok)
    (c.in_err-search.ensures.err other))

pub posted_bound-requires-clause-some : goal.posted_bound-requires-clause-some
posted_bound-requires-clause-some g c =
    let same = c.in_ok-search.ensures.goes.question ∙ ap (λ (s : Search). s.question) c.in_ok-board.ensures.ok in
    subst (λ (q : Question). (p : List Entry) × IsPlacement q.offers p × (Allows q.test p → ⊥)) (sym same) c.requires.some

pub returns-clause-ok : goal.returns-clause-ok
returns-clause-ok g c =
    let same = c.in_ok-search.ensures.goes.question ∙ ap (λ (s : Search). s.question) c.in_ok-board.ensures.ok in
    subst (λ (q : Question). IfOk c.posted_bound.result (λ f. IsCheapest q.test q.offers (placement_in f))) same c.posted_bound.ensures.ok

pub returns-clause-shown : goal.returns-clause-shown
returns-clause-shown g c =
    let same = c.in_ok-search.ensures.goes.question ∙ ap (λ (s : Search). s.question) c.in_ok-board.ensures.ok in
    subst (λ (q : Question). IfOk c.posted_bound.result (λ f. ShowsForbidden q.test (arc_value f))) same c.posted_bound.ensures.shown

pub returns-clause-err : goal.returns-clause-err
returns-clause-err g c = if-err c.posted_bound.result _ _ c.posted_bound.ensures.err (λ f is other. absurd (other is))
