use Rattle.std.proofs.Common.{◌≡◌, flat_map, string_bytes}
use Rattle.std.specs.List.{range_with_len}
use Rattle.fs_app_why.specs.Contradictions.{numbered_text}
use Rattle.fs_app_why.proofs.contradictions.told_text.Given as goal

-- the kinds so far
abbrev pub invariant-loop-number : goal.invariant-loop-number
invariant-loop-number l =
    string_bytes l.text ≡ flat_map (numbered_text l.test l.lines l.telling l.kinds) (range_with_len 0 l.number)
