use Rattle.std.proofs.Common.{◌≡◌, ◌∙◌, List, Option, IfSome, ap, sym, subst}
use Rattle.fs_kinds.specs.declared.placement.Entry.{Entry}
use Rattle.fs_kinds.specs.Placement.{slots_of}
use Rattle.fs_board_offers.specs.Offers.{slots}
use Rattle.fs_board_offers.specs.Parts.{slots_in_part}
use Rattle.fs_board_offers.specs.Questions.{Question}
use Rattle.fs_board_search.proofs.Handed.{candidates-handed}
use Rattle.fs_board_search.proofs.scout.Scout.judge_cheapest.Goals as goal

pub judge_by-requires-clause-slots : goal.judge_by-requires-clause-slots
judge_by-requires-clause-slots g c =
    subst (λ (o : Option (List Entry)). IfSome o (λ p. slots_of p ≡ slots_in_part c.args.part.now)) c.in-Some.is c.in_ok-placement.ensures.slots
    ∙ (c.requires.slots ∙ ap (λ (q : Question). slots q.offers) (sym c.in_ok-placement.ensures.value))

pub returns-in_err-found-clause-err : goal.returns-in_err-found-clause-err
returns-in_err-found-clause-err g c =
    candidates-handed c.from_residual-in_err-found.result _ c.cheapest.new.self.test c.args.self.now.test
    (ap (λ (q : Question). q.test) c.in_ok-placement.ensures.value)
    c.from_residual-in_err-found.ensures.1 c.in_err-found.ensures.err
