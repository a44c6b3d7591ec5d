use Rattle.std.proofs.Common.{string_bytes}
use Rattle.fs_app_error_messages.specs.inner.Turns.{LeadsTo}
use Rattle.fs_app_error_messages.proofs.all_messages.messages_of.Given as goal

abbrev pub invariant-loop-turn : goal.invariant-loop-turn
invariant-loop-turn l = LeadsTo l.name l.fn.left l.fn.fault l.left l.last (string_bytes l.text)
