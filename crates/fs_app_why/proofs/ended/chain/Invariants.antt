use Rattle.std.proofs.Common.{◌≡◌, map, take}
use Rattle.fs_region_refutation.specs.Views.{region_of}
use Rattle.fs_app_why.specs.Chains.{step_link}
use Rattle.fs_app_why.proofs.ended.chain.Given as goal

abbrev pub invariant-loop-step : goal.invariant-loop-step
invariant-loop-step l =
    l.made.items ≡ map (step_link l.basis l.placement (region_of l.region)) (take l.step-index l.steps)
