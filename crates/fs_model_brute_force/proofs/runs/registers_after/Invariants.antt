use Rattle.std.proofs.Common.{◌≡◌, ◌↔◌, drop}
use Rattle.fs_model.specs.Trace.{hart_after}
use Rattle.fs_model.specs.Execution.{IsTrace}
use Rattle.fs_hart.specs.Runs.{registers_after}
use Rattle.fs_model_brute_force.proofs.Stepwise.{Finish}
use Rattle.fs_model_brute_force.proofs.runs.registers_after.Given as goal

-- the steps are a run exactly where those to come finish it, and then with the same registers
abbrev pub invariant-loop-step : goal.invariant-loop-step
invariant-loop-step l =
    (Finish l.locations l.code l.state (drop l.step-index l.steps) ↔ IsTrace l.test l.hart l.steps)
    × ((hart_after l.state (drop l.step-index l.steps)).registers ≡ registers_after l.test l.hart l.steps)
