use Rattle.std.specs.List.{AllWithin}
use Rattle.fs_model.specs.Trace.{start_with}
use Rattle.fs_app_plain.specs.Wide.{AreExact}
use Rattle.fs_app_plain.proofs.words.inexact_among.Given as goal

-- the runs so far are exact
abbrev pub invariant-loop-trace : goal.invariant-loop-trace
invariant-loop-trace l = AllWithin (λ trace. AreExact (start_with l.registers) trace.steps) l.runs 0 l.trace-index
