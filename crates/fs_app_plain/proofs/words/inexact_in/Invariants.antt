use Rattle.std.proofs.Common.{drop}
use Rattle.fs_model.specs.Trace.{start_with}
use Rattle.fs_app_plain.specs.Wide.{AreExact}
use Rattle.fs_app_plain.proofs.words.inexact_in.Given as goal

-- the run is exact if what is left of it is
abbrev pub invariant-loop-step : goal.invariant-loop-step
invariant-loop-step l =
    AreExact l.state (drop l.step-index l.step-items) → AreExact (start_with l.fn.registers) l.trace.steps
