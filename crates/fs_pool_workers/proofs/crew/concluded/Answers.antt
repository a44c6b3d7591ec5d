use Rattle.std.proofs.Common.{ℕ, Option, None, Some, IfSome, List, drop, sym, subst}
use Rattle.fs_board_offers.specs.Receipts.{Pass, IsAgreed}
use Rattle.fs_board_offers.specs.Sizes.{HasNoRunFault}
use Rattle.fs_board.specs.View.{Search}
use Rattle.fs_board_search.specs.Histories.{GoesOn}
use Rattle.fs_board_search.proofs.Ends.{handed}
use Rattle.fs_pool_workers.specs.Ends.{GoesOnFrom}
use Rattle.fs_pool_workers.proofs.Faults.{same-fault}
use Rattle.fs_pool_workers.proofs.crew.concluded.Goals as goal

gone-on : (passes : List Pass) (since : ℕ) (left : Search) (board : Option Search) → IsAgreed passes (drop since left.log)
    → IfSome board (GoesOn left) → IfSome board (GoesOnFrom passes since)
gone-on passes since left None agreed goes = tt
gone-on passes since left (Some s) agreed goes = record { left = left; agreed = agreed; goes = goes }

pub conclude-requires-clause-clean : goal.conclude-requires-clause-clean
conclude-requires-clause-clean g c = subst HasNoRunFault (sym c.in_ok-shared.ensures) c.requires.clean

pub returns-in_err-solved-clause-err : goal.returns-in_err-solved-clause-err
returns-in_err-solved-clause-err g c =
    handed c.from_residual-in_err-solved.result _ _ c.from_residual-in_err-solved.ensures.1
    (λ other. same-fault _ _ c.in-Some.board.board.limit g.A.Asked.limit _ c.in-Some.ensures.asked.question c.in-Some.ensures.asked.limit
    (c.in_err-solved.ensures.err other))

pub returns-clause-left : goal.returns-clause-left
returns-clause-left g c =
    gone-on c.args.passes.items c.args.desk.since c.in-Some.board c.in_ok-solved.solved.board c.in-Some.ensures.agreed
    c.in_ok-solved.ensures.goes
