use Rattle.std.proofs.Common.{None}
use Rattle.std.proofs.lemmas.Result.{IfOk-weaker}
use Rattle.fs_app_place_and_order.proofs.Placements.{slots_of-IsPlaced}
use Rattle.fs_tests_shared.proofs.questions.placement_of.Goals as goal

pub returns : goal.returns
returns c = IfOk-weaker c.read_fences.result _ _ (λ p placed. slots_of-IsPlaced None _ _ p placed) c.read_fences.ensures.ok
