use Rattle.std.proofs.Common.{◌≡◌, take, map}
use Rattle.std.specs.List.{enumerate_from}
use Rattle.fs_app_file_text.specs.Rewritten.{rewritten_code}
use Rattle.fs_app_file_text.proofs.rewriting.rewritten_codes.Given as goal

-- the codes so far
abbrev pub invariant-loop-hart : goal.invariant-loop-hart
invariant-loop-hart l = l.made.items ≡ map (rewritten_code l.placement) (take l.hart (enumerate_from 0 l.codes))
