use Rattle.std.proofs.Common.{◌≡◌, ◌+◌, ◌≤◌, ◌<◌, drop, take}
use Rattle.fs_app_error_messages.specs.Places.{place_after, first_place}
use Rattle.fs_app_error_messages.proofs.places.place_of.Given as goal

abbrev pub invariant-loop-i : goal.invariant-loop-i
invariant-loop-i l = record {
  line : l.place.line ≤ l.i + 1;
  column : l.place.column ≤ l.i + 1;
  some : 0 < l.place.column;
  same : place_after l.place l.i (drop l.i (take l.offset l.bytes)) ≡ place_after first_place 0 (take l.offset l.bytes);
}
