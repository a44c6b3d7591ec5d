use Rattle.std.proofs.Common.{◌≡◌, ℕ, ap, subst}
use Rattle.fs_kinds.specs.declared.fault.Fault.{Fault}
use Rattle.fs_board_offers.specs.Questions.{Question}
use Rattle.fs_board.specs.View.{Search}
use Rattle.fs_board_search.specs.Answers.{IsSolveFault}
use Rattle.fs_board_search.proofs.Ends.{handed}
use Rattle.fs_board_search.proofs.solving.solve_problem.Goals as goal

-- a fault of what is equal
same-fault : (s : Search) (q : Question) (limit : ℕ) (f : Fault) → s.question ≡ q → s.board.limit ≡ limit
    → IsSolveFault s.question s.board.limit f → IsSolveFault q limit f
same-fault s q limit f same most is =
    subst (λ (n : ℕ). IsSolveFault q n f) most (subst (λ (x : Question). IsSolveFault x s.board.limit f) same is)

pub returns-in_err-solved-clause-err : goal.returns-in_err-solved-clause-err
returns-in_err-solved-clause-err g c =
    handed c.from_residual-in_err-solved.result _ _ c.from_residual-in_err-solved.ensures.1
    (λ other. same-fault c.in_ok-board.board c.args.question.value c.args.limit _
    (ap (λ (s : Search). s.question) c.in_ok-board.ensures.ok) (ap (λ (s : Search). s.board.limit) c.in_ok-board.ensures.ok)
    (c.in_err-solved.ensures.err other))
