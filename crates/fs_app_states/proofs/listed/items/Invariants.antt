use Rattle.std.proofs.Common.{◌≡◌, [], ◌++◌, map, drop}
use Rattle.fs_litmus_tokens.specs.Tokens.{views}
use Rattle.fs_app_states.specs.Listed.{items_from}
use Rattle.fs_app_states.proofs.listed.items.Given as goal

-- the items so far, and those to come
abbrev pub invariant-loop-token : goal.invariant-loop-token
invariant-loop-token l =
    map views l.items.items ++ items_from (views l.item.items) (views (drop l.token-index l.tokens))
    ≡ items_from [] (views l.tokens)
