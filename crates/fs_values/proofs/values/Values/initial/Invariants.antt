use Rattle.std.proofs.Common.{◌≡◌, ◌<◌, ◌^◌, [], ◌∷◌, map, take, All}
use Rattle.fs_values.proofs.values.Values.initial.Given as goal

abbrev pub invariant-loop-declared : goal.invariant-loop-declared
invariant-loop-declared l = record {
  sets : l.sets.items ≡ map (λ x. x.word ∷ []) (take l.declared-index l.test.locations);
  words : All (λ x. x.word < 2 ^ 32) (take l.declared-index l.test.locations);
}
