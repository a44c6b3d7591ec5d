-- What a desk, a question and a problem are made of may cross threads.
use denote.RattleType.{RattleType}
use denote.Ref.{NamedLft}
use denote.Param.Send.{IsSend, IsSync, sendable}
use denote.Param.SendFields.{declared_send, declared_sync}
use Rattle.std.proofs.Crossing.{crosses}
use Rattle.fs_model.specs.contracts.outcome.Outcome as Outcome
use Rattle.fs_model.specs.contracts.test.Test as Test
use Rattle.fs_kinds.proofs.list.List.TheSendSync as list
use Rattle.fs_instr.proofs.instr.Instr.TheSendSync as instr
use Rattle.fs_model.proofs.lists.Name.TheSendSync as name
use Rattle.fs_model.proofs.test.Location.TheSendSync as location
use Rattle.fs_model.proofs.test.Quantifier.TheSendSync as quantifier
use Rattle.fs_board_offers.proofs.offers.Offers.TheSendSync as offers
use Rattle.fs_pool.specs.declared.Asked as asked
use Rattle.fs_pool.specs.contracts.shared.Shared as Shared
use Rattle.fs_pool.specs.contracts.desk.Desk as Desk
use Rattle.fs_board_offers.specs.contracts.question.Question as Question
use Rattle.fs_cert_evidence.specs.contracts.evidence.Witness as Witness
use Rattle.fs_board.specs.contracts.board.Board as Board
use Rattle.fs_board.proofs.tree.Tree.TheSendSync as tree
use Rattle.fs_board.proofs.event.LogEntry.TheSendSync as entry
use Rattle.fs_kinds.proofs.reason.OperationName.TheSendSync as named
use Rattle.fs_region_refutation.proofs.lone.Made.TheSendSync as made
use Rattle.fs_region_refutation.specs.contracts.lone.Lone as Lone
use Rattle.fs_region_refutation.specs.contracts.basis.Basis as Basis
use Rattle.fs_region_refutation.specs.contracts.region.Region as Region
use Rattle.fs_region_refutation.specs.contracts.region.Wanted as Wanted
use Rattle.fs_region_refutation.specs.contracts.subtrees.Subtree as Subtree
use Rattle.fs_region_refutation.specs.contracts.subtrees.Subtrees as Subtrees
use Rattle.fs_region_refutation.proofs.region.Ordered.TheSendSync as ordered
use Rattle.fs_region_refutation.proofs.region.Sourced.TheSendSync as sourced
use Rattle.fs_cert_evidence.proofs.inference.Inference.TheSendSync as inference
use Rattle.fs_kinds.proofs.placement.Placement.TheSendSync as placement
use Rattle.fs_board_search.proofs.Problems as problem
use Rattle.fs_pool_workers.proofs.Outcomes.{hole_send, hole_sync}

outcome_send : IsSend Outcome.the_row
outcome_send = search (hole_send, crosses, sendable) depth 20 fits 20000

outcome_sync : IsSync Outcome.the_row
outcome_sync = search (hole_sync, crosses, sendable) depth 20 fits 20000

test_send : IsSend Test.the_row
test_send = declared_send Test.the_type (name.the_send, (search (instr.the_send, list.the_send, crosses, sendable) depth 20, (search (list.the_send, crosses, sendable) depth 20, (search (location.the_send, list.the_send, crosses, sendable) depth 20, (quantifier.the_send, (outcome_send, tt))))))

test_sync : IsSync Test.the_row
test_sync = declared_sync Test.the_type (name.the_sync, (search (instr.the_sync, list.the_sync, crosses, sendable) depth 20, (search (list.the_sync, crosses, sendable) depth 20, (search (location.the_sync, list.the_sync, crosses, sendable) depth 20, (quantifier.the_sync, (outcome_sync, tt))))))

pub question_send : IsSend Question.the_row
question_send = search (test_send, test_sync, offers.the_send, crosses, sendable) depth 40 fits 100000

pub question_sync : IsSync Question.the_row
question_sync = search (test_send, test_sync, offers.the_sync, crosses, sendable) depth 40 fits 100000

board_send : IsSend Board.the_row
board_send = search (question_send, question_sync, tree.the_send, entry.the_send, crosses, sendable) depth 40 fits 100000

-- what is asked is a mark without bytes, so it may be of any type
shared_send : (A : RattleType) (g : asked.Ghosts A.Denot) → IsSend (Shared.the_row A g)
shared_send A g = search (board_send, crosses, sendable) depth 40 fits 100000

pub desk_sync : (A : RattleType) (g : asked.Ghosts A.Denot) → IsSync (Desk.the_row A g)
desk_sync A g = let s = shared_send A g in search (crosses, sendable) depth 40 fits 100000

lone_send : IsSend Lone.the_row
lone_send = search (test_send, test_sync, made.the_send, made.the_sync, crosses, sendable) depth 60 fits 1000000

lone_sync : IsSync Lone.the_row
lone_sync = search (test_send, test_sync, made.the_send, made.the_sync, crosses, sendable) depth 60 fits 1000000

basis_send : IsSend Basis.the_row
basis_send = search (test_send, test_sync, lone_send, list.the_send, named.the_send, crosses, sendable) depth 40 fits 100000

basis_sync : IsSync Basis.the_row
basis_sync = search (test_send, test_sync, lone_sync, list.the_sync, named.the_sync, crosses, sendable) depth 40 fits 100000

wanted_send : (a : NamedLft) → IsSend (Wanted.the_row a)
wanted_send a = search (outcome_sync, crosses, sendable) depth 20 fits 20000

wanted_sync : (a : NamedLft) → IsSync (Wanted.the_row a)
wanted_sync a = search (outcome_sync, crosses, sendable) depth 20 fits 20000

region_sync : (a : NamedLft) → IsSync (Region.the_row a)
region_sync a =
    declared_sync (Region.the_type a) (
      search (lone_sync, list.the_send, list.the_sync, crosses, sendable) depth 40 fits 100000,
      (
        search (sourced.the_send, sourced.the_sync, list.the_send, list.the_sync, crosses, sendable) depth 40 fits 100000,
        (
          search (ordered.the_send, ordered.the_sync, list.the_send, list.the_sync, crosses, sendable) depth 40 fits 100000,
          (search (wanted_send, wanted_sync, list.the_send, list.the_sync, crosses, sendable) depth 60 fits 1000000, tt),
        ),
      ),
    )

subtree_sync : (a : NamedLft) → IsSync (Subtree.the_row a)
subtree_sync a =
    declared_sync (Subtree.the_type a)
    (search (region_sync, sendable) depth 12 fits 20000, (search sendable depth 12, (search sendable depth 12, tt)))

pub subtrees_sync : (a : NamedLft) → IsSync (Subtrees.the_row a)
subtrees_sync a =
    search (basis_sync, placement.the_sync, inference.the_sync, list.the_sync, subtree_sync, crosses, sendable) depth 40 fits 100000

pub problem_send : IsSend problem.the_row
problem_send = search (test_send, test_sync, basis_send, crosses, sendable) depth 40 fits 100000

pub problem_sync : IsSync problem.the_row
problem_sync = search (test_send, test_sync, basis_sync, crosses, sendable) depth 40 fits 100000

pub witness_send : IsSend Witness.the_row
witness_send = search (list.the_send, named.the_send, crosses, sendable) depth 40 fits 100000

pub witness_sync : IsSync Witness.the_row
witness_sync = search (list.the_sync, named.the_sync, crosses, sendable) depth 40 fits 100000
