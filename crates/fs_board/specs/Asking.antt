-- What workers may ask of a board, and what its replies tell.
use Rattle.std.specs.Prelude.{option_map, map}
use Rattle.std.specs.Arc.{arc_value}
use Rattle.fs_model.specs.Allows.{Allows}
use Rattle.fs_model.specs.Execution.{Execution}
use Rattle.fs_board_offers.specs.Trees.{IsPart}
use Rattle.fs_cert_evidence.specs.Evidence.{ShowsForbidden, placement_in, IsWitnessAt}
use Rattle.fs_board_offers.specs.Offers.{slots}
use Rattle.fs_board_offers.specs.Questions.{Question}
use Rattle.fs_board.specs.declared.event.Event.{Event}
use Rattle.fs_board.specs.declared.event.Event.TheVariants as event
use Rattle.fs_board.specs.declared.event.Reply.{Reply}
use Rattle.fs_board.specs.declared.event.Reply.TheVariants as reply
use Rattle.fs_board.specs.Growth.{IsBacked, AreWitnesses}

-- what the event brings is made for the question: witnesses with their widths, or a placement that forbids the outcome
-- with its cycles
abbrev pub IsMade : Question → Event → Type 0
IsMade q (event.CutWitness k w) = (e : Execution) × IsWitnessAt q.test (slots q.offers) (arc_value w) e
IsMade q (event.CutBound k ws) = AreWitnesses q.test (slots q.offers) (map arc_value ws)
IsMade q (event.Post k f) = ShowsForbidden q.test (arc_value f) × (Allows q.test (placement_in f) → ⊥)
IsMade q event = Unit {0}

-- The part of a node that is handed out is one of the question. What a peek shows is witnesses with their widths, and a
-- placement with its cycles.
abbrev pub Tells : Question → Reply → Type 0
Tells q (reply.Node k part) = IsPart q.offers (arc_value part)
Tells q (reply.Seen bound upto witnesses) =
    IsBacked q.test (slots q.offers) (option_map arc_value bound) (map arc_value witnesses)
Tells q reply = Unit {0}
