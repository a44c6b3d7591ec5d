use Rattle.std.proofs.Common.{◌≡◌, flat_map, take}
use Rattle.std.specs.List.{enumerate_from}
use Rattle.fs_model_laws.specs.InPlace.{places_in}
use Rattle.fs_app_audit.proofs.places.places.Given as goal

-- the places so far
abbrev pub invariant-loop-hart : goal.invariant-loop-hart
invariant-loop-hart l = l.found.items ≡ flat_map (λ numbered. places_in numbered.0 numbered.1) (take l.hart (enumerate_from 0 l.codes))
