use Rattle.std.proofs.Common.{string_bytes, length}
use Rattle.fs_model.specs.Condition.{condition_of}
use Rattle.fs_model.proofs.Conditions.{SpeaksOf-more}
use Rattle.fs_model.proofs.Assembled.{assembled}
use Rattle.fs_model.proofs.print.print_with.Goals as goal

pub write_condition-requires-clause-atoms : goal.write_condition-requires-clause-atoms
write_condition-requires-clause-atoms c =
    rw c.as_slice-locations.ensures (SpeaksOf-more (length c.args.codes.now) 8 (length c.args.test.now.locations) (condition_of c.args.test.now.condition) c.requires.harts c.requires.atoms)

pub returns : goal.returns
returns c =
    let t = record c.args.test.now { codes = c.args.codes.now } in
    let locations = c.as_slice-locations.ensures in
    assembled t (string_bytes c.in_ok-text.text) (string_bytes c.write_locations.new.text) (string_bytes c.write_starts.new.text) (string_bytes c.write.new.self) (string_bytes c.write_rows.new.text) (string_bytes c.write-2.new.self) (string_bytes c.write_condition.new.text) (string_bytes c.push_str.new.self)
    (rw (← c.as_str.ensures) c.in_ok-text.ensures.ok)
    (rw (← locations) c.in_ok-write_locations.ensures)
    (rw (← locations, ← c.as_slice.ensures) c.in_ok-write_starts.ensures)
    (rw (← c.in_ok-header.ensures) c.in_ok-write.ensures.bytes)
    (rw (← c.in_ok-columns.ensures, ← c.deref.ensures.value) c.in_ok-write_rows.ensures)
    (rw (← c.quantifier_text.ensures) c.in_ok-write-2.ensures.bytes)
    (rw (← locations) c.in_ok-write_condition.ensures)
    c.in_ok-push_str.ensures.bytes
