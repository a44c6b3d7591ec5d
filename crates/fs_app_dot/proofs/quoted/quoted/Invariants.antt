use Rattle.std.proofs.Common.{◌≡◌, flat_map, take, string_bytes}
use Rattle.fs_app_dot.specs.Quoted.{quoted_byte}
use Rattle.fs_app_dot.proofs.quoted.quoted.Given as goal

-- the bytes so far
abbrev pub invariant-loop-byte : goal.invariant-loop-byte
invariant-loop-byte l = string_bytes l.made ≡ flat_map quoted_byte (take l.byte-index l.byte-items)
