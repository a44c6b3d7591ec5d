use Rattle.std.proofs.Common.{◌∙◌, ap, sym}
use Rattle.std.specs.Arc.{arc_value}
use Rattle.fs_board_offers.specs.Offers.{slots}
use Rattle.fs_board_offers.specs.Parts.{slots_in_part}
use Rattle.fs_board_offers.specs.Questions.{Question}
use Rattle.fs_board_search.proofs.Scouts.{known-at, known-still}
use Rattle.fs_board_search.proofs.scout.Scout.looked.Goals as goal

pub look_at_filled-requires : goal.look_at_filled-requires
look_at_filled-requires c =
    let q = arc_value c.self.inside.question in
    let over = ap slots_in_part c.deref-2.ensures ∙ (c.requires ∙ ap (λ (q : Question). slots q.offers) (sym c.self.view_is)) in
    known-at c.self.inside.judge (slots_in_part c.deref-2.result.now) q c.self.inside.store c.self.invariant.0 over c.self.invariant.1
