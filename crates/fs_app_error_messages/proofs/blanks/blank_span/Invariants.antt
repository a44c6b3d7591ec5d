use Rattle.fs_app_error_messages.specs.Faults.{IsBlanked}
use Rattle.fs_app_error_messages.proofs.blanks.blank_span.Given as goal

abbrev pub invariant-loop-at : goal.invariant-loop-at
invariant-loop-at l = IsBlanked l.fn.bytes l.bytes
