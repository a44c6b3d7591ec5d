-- What a seat is made of may cross threads.
use denote.Param.Send.{IsSend, IsSync, sendable, view_send}
use denote.Param.SendFields.{declared_send, declared_sync}
use Rattle.std.proofs.Crossing.{crosses, Arc-send, Vec-send}
use Rattle.std.specs.contracts.sync.Arc as Arc
use Rattle.std.specs.contracts.vec.Vec as Vec
use Rattle.std.specs.contracts.alloc.Global as Heap
use Rattle.std.specs.contracts.impls.GlobalAllocator.TheImpl.{ghosts}
use Rattle.fs_judge.specs.contracts.known.Known as Known
use Rattle.fs_kinds.proofs.fault.Fault.TheSendSync as fault
use Rattle.fs_kinds.proofs.list.List.TheSendSync as list
use Rattle.fs_kinds.proofs.placement.Placement.TheSendSync as placement
use Rattle.fs_kinds.proofs.reason.OperationName.TheSendSync as named
use Rattle.fs_instr.proofs.instr.Instr.TheSendSync as instr
use Rattle.fs_model.specs.contracts.outcome.Outcome as Outcome
use Rattle.fs_model.specs.contracts.test.Test as Test
use Rattle.fs_model.proofs.lists.Name.TheSendSync as name
use Rattle.fs_model.proofs.test.Location.TheSendSync as location
use Rattle.fs_model.proofs.test.Quantifier.TheSendSync as quantifier
use Rattle.fs_cert_evidence.specs.contracts.evidence.Witness as Witness
use Rattle.fs_region_refutation.proofs.lone.Made.TheSendSync as made
use Rattle.fs_region_refutation.specs.contracts.lone.Lone as Lone
use Rattle.fs_region_refutation.specs.contracts.basis.Basis as Basis
use Rattle.fs_judge.specs.contracts.problem.Problem as Problem
use Rattle.fs_judge.specs.contracts.judge.Judge as Judge
use Rattle.fs_judge.specs.contracts.judge.Judge.TheInside as inside
use Rattle.fs_judge.proofs.known.Known.TheSendSync as known
use Rattle.fs_judge_hunt.proofs.hunter.Kept.TheSendSync as kept
use Rattle.fs_sites_search.specs.contracts.seats.Seat as Seat
use Rattle.fs_sites_search.proofs.Outcomes.{hole_send, hole_sync}

outcome_send : IsSend Outcome.the_row
outcome_send = search (hole_send, crosses, sendable) depth 20 fits 20000

outcome_sync : IsSync Outcome.the_row
outcome_sync = search (hole_sync, crosses, sendable) depth 20 fits 20000

test_send : IsSend Test.the_row
test_send = declared_send Test.the_type (name.the_send, (search (instr.the_send, list.the_send, crosses, sendable) depth 20, (search (list.the_send, crosses, sendable) depth 20, (search (location.the_send, list.the_send, crosses, sendable) depth 20, (quantifier.the_send, (outcome_send, tt))))))

test_sync : IsSync Test.the_row
test_sync = declared_sync Test.the_type (name.the_sync, (search (instr.the_sync, list.the_sync, crosses, sendable) depth 20, (search (list.the_sync, crosses, sendable) depth 20, (search (location.the_sync, list.the_sync, crosses, sendable) depth 20, (quantifier.the_sync, (outcome_sync, tt))))))

lone_send : IsSend Lone.the_row
lone_send = search (test_send, test_sync, made.the_send, made.the_sync, crosses, sendable) depth 60 fits 1000000

lone_sync : IsSync Lone.the_row
lone_sync = search (test_send, test_sync, made.the_send, made.the_sync, crosses, sendable) depth 60 fits 1000000

basis_send : IsSend Basis.the_row
basis_send = search (test_send, test_sync, lone_send, list.the_send, named.the_send, crosses, sendable) depth 40 fits 100000

basis_sync : IsSync Basis.the_row
basis_sync = search (test_send, test_sync, lone_sync, list.the_sync, named.the_sync, crosses, sendable) depth 40 fits 100000

problem_send : IsSend Problem.the_row
problem_send = search (test_send, test_sync, basis_send, crosses, sendable) depth 40 fits 100000

problem_sync : IsSync Problem.the_row
problem_sync = search (test_send, test_sync, basis_sync, crosses, sendable) depth 40 fits 100000

arc_problem_send : IsSend (Arc.the_row Problem.the_row Heap.the_row ghosts)
arc_problem_send = Arc-send Problem.the_row problem_send problem_sync

some_known_send : IsSend (Vec.the_row Known.the_row Heap.the_row ghosts)
some_known_send = Vec-send Known.the_row known.the_send

inside_send : IsSend inside.the_row
inside_send = declared_send inside.the_type (search (arc_problem_send, sendable) depth 12, (search (some_known_send, sendable) depth 12, (kept.the_send, tt)))

judge_send : IsSend Judge.the_row
judge_send = view_send _ _ _ _ _ inside_send

witness_send : IsSend Witness.the_row
witness_send = search (list.the_send, named.the_send, crosses, sendable) depth 40 fits 100000

pub seat_send : IsSend Seat.the_row
seat_send = search (test_send, test_sync, judge_send, placement.the_send, witness_send, fault.the_send, crosses, sendable) depth 40 fits 100000
