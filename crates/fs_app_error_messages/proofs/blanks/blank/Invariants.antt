use Rattle.fs_app_error_messages.specs.Faults.{IsBlanked}
use Rattle.fs_app_error_messages.proofs.blanks.blank.Given as goal

abbrev pub invariant-loop-span : goal.invariant-loop-span
invariant-loop-span l = IsBlanked l.fn.bytes l.bytes
