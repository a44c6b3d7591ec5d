use Rattle.std.proofs.Common.{◌≡◌, ◌++◌, map, drop}
use Rattle.std.specs.Prelude.{filter}
use Rattle.fs_board_offers.specs.Offers.{is_offered, offer_at}
use Rattle.fs_board_offers.specs.Breaks.{all_options}
use Rattle.fs_board_offers.specs.Parts.{decide}
use Rattle.fs_check_certificate.proofs.stack.Stack.push_children.Given as goal

abbrev pub invariant-loop-way : goal.invariant-loop-way
invariant-loop-way l = l.self ≡ map (decide l.slot l.part) (filter (is_offered (offer_at l.offers l.slot)) (drop l.way all_options)) ++ l.fn.self
