use Rattle.std.proofs.Common.{◌≡◌, map, take, string_bytes}
use Rattle.fs_model.specs.Printed.{location_text}
use Rattle.fs_model.proofs.print.write_locations.Given as goal

abbrev pub invariant-loop-location : goal.invariant-loop-location
invariant-loop-location l = map string_bytes l.pieces.items ≡ map location_text (take l.location-index l.locations)
