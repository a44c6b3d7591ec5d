use Rattle.std.proofs.Common.{◌≡◌, ◌++◌, codes, flat_map, take, string_bytes}
use Rattle.fs_kinds.specs.Kind.{word}
use Rattle.fs_app_why.proofs.weaker.others_text.Given as goal

-- the kinds so far
abbrev pub invariant-loop-kind : goal.invariant-loop-kind
invariant-loop-kind l = string_bytes l.text ≡ flat_map (λ other. codes " or " ++ word other) (take l.kind-index l.kinds)
