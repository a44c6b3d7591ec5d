use Rattle.std.proofs.Common.{◌∙◌, map, sym, subst}
use Rattle.std.specs.Arc.{arc_value}
use Rattle.fs_board_offers.specs.Offers.{slots}
use Rattle.fs_board_offers.specs.Questions.{Question}
use Rattle.fs_board.specs.Growth.{AreWitnesses}
use Rattle.fs_board_search.proofs.Ends.{handed}
use Rattle.fs_board_search.proofs.sweep.sweep_alone.Goals as goal

pub returns-in_err-sweep-clause-err : goal.returns-in_err-sweep-clause-err
returns-in_err-sweep-clause-err g c = handed c.from_residual.result _ _ c.from_residual.ensures.1 c.in_err-sweep.ensures.err

pub returns-clause-met : goal.returns-clause-met
returns-clause-met g c =
    subst (λ (q : Question). AreWitnesses q.test (slots q.offers) (map arc_value c.in_ok-witnesses.field-0.items))
    (c.in_ok-sweep.ensures.scout ∙ sym c.requires.same) c.in_ok-witnesses.ensures
