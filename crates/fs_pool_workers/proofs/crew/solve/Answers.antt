use Rattle.std.proofs.Common.{◌∙◌, inl, map, sym, subst}
use Rattle.std.specs.Prelude.{IfSome}
use Rattle.std.specs.Arc.{arc_value}
use Rattle.fs_board_offers.specs.Offers.{slots}
use Rattle.fs_board_offers.specs.Sizes.{HasNoRunFault}
use Rattle.fs_board_offers.specs.Questions.{Question, IsAtSlots}
use Rattle.fs_board.specs.Growth.{AreWitnesses}
use Rattle.fs_board_search.proofs.Ends.{handed}
use Rattle.fs_pool_workers.proofs.Faults.{same-fault}
use Rattle.fs_pool_workers.proofs.crew.solve.Goals as goal

pub returns-in_err-problem-clause-err : goal.returns-in_err-problem-clause-err
returns-in_err-problem-clause-err g c =
    handed c.from_residual.result _ _ c.from_residual.ensures.1 (λ other. inl (c.in_err-problem.ensures.err other))

pub search_together-requires-clause-met : goal.search_together-requires-clause-met
search_together-requires-clause-met g c κs within =
    let q = c.in_ok-board.board.question in
    subst (λ (q : Question). AreWitnesses q.test (slots q.offers) (map arc_value c.in-Some.met.items)) (sym c.in_ok-met.ensures.goes.question)
    (subst (λ found. IfSome found (λ met. AreWitnesses q.test (slots q.offers) (map arc_value met.items))) c.in-Some.is c.in_ok-met.ensures.met)

pub search_together-requires-clause-slots : goal.search_together-requires-clause-slots
search_together-requires-clause-slots g c κs within =
    subst IsAtSlots (sym (c.in_ok-met.ensures.goes.question ∙ c.in_ok-board.ensures.asked.question)) c.requires.slots

pub search_together-requires-clause-clean : goal.search_together-requires-clause-clean
search_together-requires-clause-clean g c κs within = subst HasNoRunFault c.in_ok-problem.ensures.same c.in_ok-problem.ensures.clean

pub solve_problem-requires-clause-clean : goal.solve_problem-requires-clause-clean
solve_problem-requires-clause-clean g c = subst HasNoRunFault c.in_ok-problem.ensures.same c.in_ok-problem.ensures.clean

pub conclude-requires-clause-clean : goal.conclude-requires-clause-clean
conclude-requires-clause-clean g c = subst HasNoRunFault c.in_ok-problem.ensures.same c.in_ok-problem.ensures.clean

pub returns-in_err-met-clause-err : goal.returns-in_err-met-clause-err
returns-in_err-met-clause-err g c =
    handed c.from_residual-in_err-met.result _ _ c.from_residual-in_err-met.ensures.1
    (λ other. same-fault _ c.args.question.value c.in_ok-board.board.board.limit c.args.limits.nodes _ c.in_ok-board.ensures.asked.question
    c.in_ok-board.ensures.asked.limit (c.in_err-met.ensures.err other))

pub returns-in_err-solved-clause-err : goal.returns-in_err-solved-clause-err
returns-in_err-solved-clause-err g c =
    handed c.from_residual-in_err-solved.result _ _ c.from_residual-in_err-solved.ensures.1
    (λ other. same-fault _ c.args.question.value c.begin.new.board.board.limit c.args.limits.nodes _
    (c.in_ok-met.ensures.goes.question ∙ c.in_ok-board.ensures.asked.question)
    (c.in_ok-met.ensures.goes.limit ∙ c.in_ok-board.ensures.asked.limit) (c.in_err-solved.ensures.err other))

pub returns-in_err-found-clause-err : goal.returns-in_err-found-clause-err
returns-in_err-found-clause-err g c =
    handed c.from_residual-in_err-found.result _ _ c.from_residual-in_err-found.ensures.1
    (λ other. same-fault _ c.args.question.value c.begin.new.board.board.limit c.args.limits.nodes _
    (c.in_ok-met.ensures.goes.question ∙ c.in_ok-board.ensures.asked.question)
    (c.in_ok-met.ensures.goes.limit ∙ c.in_ok-board.ensures.asked.limit) (c.in_err-found.ensures.err other))

pub returns-in_err-solved-2-clause-err : goal.returns-in_err-solved-2-clause-err
returns-in_err-solved-2-clause-err g c =
    handed c.from_residual-in_err-solved-2.result _ _ c.from_residual-in_err-solved-2.ensures.1 (λ other. c.in_err-solved-2.ensures.err other)
