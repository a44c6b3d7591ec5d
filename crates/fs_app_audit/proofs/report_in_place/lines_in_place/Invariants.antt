use Rattle.std.proofs.Common.{◌≡◌, flat_map, take, string_bytes}
use Rattle.std.specs.List.{enumerate_from}
use Rattle.fs_app_audit.specs.InPlace.{code_in_place}
use Rattle.fs_app_audit.proofs.report_in_place.lines_in_place.Given as goal

-- what is said so far
abbrev pub invariant-loop-hart : goal.invariant-loop-hart
invariant-loop-hart l = string_bytes l.text ≡ flat_map (code_in_place l.prices l.lines l.placement) (take l.hart (enumerate_from 0 l.codes))
