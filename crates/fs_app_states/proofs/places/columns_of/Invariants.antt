use Rattle.std.proofs.Common.{◌≡◌, map, take}
use Rattle.fs_litmus_tokens.specs.Tokens.{views}
use Rattle.fs_app_states.specs.Places.{column_of}
use Rattle.fs_app_states.proofs.places.columns_of.Given as goal

abbrev pub invariant-loop-place : goal.invariant-loop-place
invariant-loop-place l = l.columns.items ≡ map (column_of l.test (views l.tokens)) (take l.place-index l.places)
