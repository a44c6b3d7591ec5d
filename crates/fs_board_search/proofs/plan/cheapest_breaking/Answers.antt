use Rattle.std.proofs.Common.{refl, ◌∙◌}
use Rattle.fs_board_search.proofs.WitnessLists.{floor-slots}
use Rattle.fs_board_search.proofs.plan.cheapest_breaking.Goals as goal

pub returns : goal.returns
returns c = c.put_all.ensures ∙ floor-slots c.args.part.now c.in_ok-placement.placement _ c.in_ok-placement.ensures refl
