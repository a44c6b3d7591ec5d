use Rattle.std.proofs.Common.{take, string_bytes}
use Rattle.fs_app_audit_json_and_why.specs.Why.{TellsPlaces}
use Rattle.fs_app_audit_json_and_why.proofs.places.places_text.Given as goal

-- the places so far
abbrev pub invariant-loop-entry : goal.invariant-loop-entry
invariant-loop-entry l =
    TellsPlaces l.page.test.now l.page.lines.now l.page.telling l.kinds l.placement (take l.entry-index l.entry-items) (string_bytes l.text)
