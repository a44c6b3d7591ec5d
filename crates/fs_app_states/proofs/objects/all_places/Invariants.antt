use Rattle.std.proofs.Common.{◌≡◌, map, take}
use Rattle.serde_json.specs.View.{view}
use Rattle.fs_app_states.specs.Objects.{place_value}
use Rattle.fs_app_states.proofs.objects.all_places.Given as goal

abbrev pub invariant-loop-column : goal.invariant-loop-column
invariant-loop-column l = map view l.values.items ≡ map place_value (take l.column-index l.columns)
