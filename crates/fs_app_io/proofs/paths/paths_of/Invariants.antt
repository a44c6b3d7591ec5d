use Rattle.std.proofs.Common.{◌≡◌, flat_map, map, take, string_bytes}
use Rattle.fs_app_io.specs.Paths.{path_of}
use Rattle.fs_app_io.proofs.paths.paths_of.Given as goal

-- what the lines so far name
abbrev pub invariant-loop-line : goal.invariant-loop-line
invariant-loop-line l = map string_bytes l.paths.items ≡ flat_map (λ line. path_of l.list line.now) (take l.line-index l.lines)
