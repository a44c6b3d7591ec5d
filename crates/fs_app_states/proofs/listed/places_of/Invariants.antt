use Rattle.std.proofs.Common.{◌≡◌, Some, map, take, drop}
use Rattle.std.specs.Option.{is_none}
use Rattle.std.specs.List.{find}
use Rattle.fs_litmus_tokens.specs.Tokens.{views}
use Rattle.fs_app_states.specs.Names.{place_of}
use Rattle.fs_app_states.proofs.listed.places_of.Given as goal

-- the places of the items so far, each of which names one
abbrev pub invariant-loop-item : goal.invariant-loop-item
invariant-loop-item l =
    (map (place_of l.test) (map views (take l.item-index l.items)) ≡ map Some l.places.items) ×
    (find (λ item. is_none (place_of l.test item)) (map views (drop l.item-index l.items)) ≡ find (λ item. is_none (place_of l.test item)) (map views l.items))
