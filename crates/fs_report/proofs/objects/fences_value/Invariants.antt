use Rattle.std.proofs.Common.{◌≡◌, flat_map, map, take}
use Rattle.serde_json.specs.View.{view}
use Rattle.fs_report.specs.Objects.{fence_values}
use Rattle.fs_report.proofs.objects.fences_value.Given as goal

-- the fences of the entries so far
abbrev pub invariant-loop-entry : goal.invariant-loop-entry
invariant-loop-entry l = map view l.values.items ≡ flat_map (λ e. fence_values e.slot e.kind) (take l.entry-index l.entries)
