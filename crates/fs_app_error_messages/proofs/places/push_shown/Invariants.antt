use Rattle.std.proofs.Common.{◌≡◌, ◌++◌, drop, take, string_bytes}
use Rattle.fs_app_error_messages.specs.Places.{shown}
use Rattle.fs_app_error_messages.proofs.places.push_shown.Given as goal

abbrev pub invariant-loop-byte : goal.invariant-loop-byte
invariant-loop-byte l = string_bytes l.text ++ take l.left.1 (drop l.left.0 (shown (drop l.byte-index l.bytes))) ≡ string_bytes l.fn.text ++ take l.fn.most (drop l.fn.cut (shown l.bytes))
