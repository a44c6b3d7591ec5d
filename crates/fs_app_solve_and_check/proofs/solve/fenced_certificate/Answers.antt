use Rattle.std.proofs.Common.{None, ap, subst, sym, ◌∙◌}
use Rattle.fs_kinds.specs.Placement.{all_with}
use Rattle.fs_cert_evidence.specs.Evidence.{ShowsForbidden}
use Rattle.fs_app_solve_and_check.proofs.Founding.{board-there, least-there}
use Rattle.fs_app_solve_and_check.proofs.solve.fenced_certificate.Goals as goal
use Rattle.fs_board_offers.specs.Questions.{Question}

pub from_board-requires-clause-finished : goal.from_board-requires-clause-finished
from_board-requires-clause-finished c =
    let found = c.requires.found in
    (board-there c.args.question.now found.1 c.args.solved.now c.in-Some.board.now c.in-Some.ensures found.2.rests).finished

pub from_board-requires-clause-posted : goal.from_board-requires-clause-posted
from_board-requires-clause-posted c =
    let found = c.requires.found in
    (board-there c.args.question.now found.1 c.args.solved.now c.in-Some.board.now c.in-Some.ensures found.2.rests).bound ∙ c.requires.placed

pub from_board-requires-clause-cycles : goal.from_board-requires-clause-cycles
from_board-requires-clause-cycles c =
    let found = c.requires.found in
    let of = board-there c.args.question.now found.1 c.args.solved.now c.in-Some.board.now c.in-Some.ensures found.2.rests in
    subst (λ (q : Question). ShowsForbidden q.test c.args.forbidden.now) (sym of.question) c.requires.cycles

pub from_least-requires-clause-least : goal.from_least-requires-clause-least
from_least-requires-clause-least c =
    let found = c.requires.found in
    least-there c.args.question.now found.1 c.args.solved.now c.args.forbidden.now.placement c.in-None.ensures c.requires.placed found.2.rests
    ∙ ap (all_with None) (sym found.2.at_slots.slots)
