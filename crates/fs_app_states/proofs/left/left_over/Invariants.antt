use Rattle.std.proofs.Common.{map, take, drop, string_bytes}
use Rattle.fs_app_states.proofs.Naming.{Holds, IsLeft}
use Rattle.fs_app_states.proofs.left.left_over.Given as goal

-- the names so far
abbrev pub invariant-loop-name : goal.invariant-loop-name
invariant-loop-name l = Holds l.named (map string_bytes (take l.name-index l.names))

-- the lines of the blocks so far
abbrev pub invariant-loop-block : goal.invariant-loop-block
invariant-loop-block l =
    IsLeft (string_bytes l.text) l.named (map string_bytes l.names) (map (λ block. block.name.now) (drop l.block-index l.log))
    (map (λ block. block.name.now) l.log)
