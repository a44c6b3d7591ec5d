use Rattle.std.proofs.Common.{◌≡◌, flat_map, take, string_bytes}
use Rattle.std.specs.List.{enumerate_from}
use Rattle.fs_app_audit.specs.InPlace.{instruction_in_place}
use Rattle.fs_app_audit.proofs.report_in_place.code_in_place.Given as goal

-- what is said so far
abbrev pub invariant-loop-at : goal.invariant-loop-at
invariant-loop-at l =
    string_bytes l.text ≡ flat_map (instruction_in_place l.prices l.lines l.placement l.hart l.code) (take l.at (enumerate_from 0 l.code))
