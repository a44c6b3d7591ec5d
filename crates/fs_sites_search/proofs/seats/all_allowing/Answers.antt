use Rattle.std.proofs.Common.{List, ℕ, ◌+◌, sym, subst, ◌∙◌}
use Rattle.fs_sites_search.specs.Seats.{FailsAt}
use Rattle.fs_sites_search.proofs.Asked.{KnownBelow, forbids-here, shows-here, known-again, known-failed, known-forbidden, known-shown}
use Rattle.fs_sites_search.proofs.seats.all_allowing.Goals as goal
use Rattle.fs_sites_search.proofs.seats.all_allowing.Goals.{in-Ok-None, in-Ok-Some+in_ok-push-in-Ok-Some, in-Err+then-is_none, in-Err+else-is_none}

pub loop-number-preserved : goal.loop-number-preserved
loop-number-preserved c =
    let seats = c.args.seats.now in
    let now = c.loop-number.seats in
    let number = c.loop-number.number in
    let found = c.loop-number.found.items in
    let failed = c.loop-number.failed in
    let before = c.loop-number.invariant in
    let told : KnownBelow seats number found failed = record { shown = before.shown; fails = before.fails; none = before.none } in
    let after : KnownBelow seats (number + 1) c.match-said_of.found.items c.match-said_of.failed = elim c.match-said_of.branch [
      | in-Ok-None w ↦ rw (w.found-is, w.failed-is)
          (known-forbidden seats number found failed told
          (forbids-here seats now number before.same w.in-Ok-None.field-0 w.in-Ok-None.field-0-is w.in-Ok-None.ensures.ok))
      | in-Ok-Some+in_ok-push-in-Ok-Some w ↦ rw (w.found-is, w.failed-is, w.in_ok-push-in-Ok-Some.ensures.items)
          (known-shown seats number found failed told w.in-Ok-Some.witness
          (shows-here seats now number before.same w.in-Ok-Some.field-0 w.in-Ok-Some.witness w.in-Ok-Some.field-0-is w.in-Ok-Some.ensures.ok))
      | in-Err+then-is_none w ↦ rw (w.found-is, w.failed-is)
          (known-failed seats number found failed told w.in-Err.fault
          (λ other. subst (λ xs. FailsAt xs w.in-Err.fault) before.same (w.in-Err.ensures.err other)))
      | in-Err+else-is_none w ↦ rw (w.found-is, w.failed-is) (known-again seats number found failed told w.if-is_none.ensures)
    ] in
    record {
      same = c.said_of.ensures.same ∙ before.same;
      shown = after.shown;
      fails = after.fails;
      none = after.none;
    }
