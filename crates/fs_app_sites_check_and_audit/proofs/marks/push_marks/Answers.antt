use Rattle.std.proofs.Common.{drop}
use Rattle.fs_app_sites_check_and_audit.proofs.Marked.{all_marked}
use Rattle.fs_app_sites_check_and_audit.proofs.marks.push_marks.Goals as goal

pub returns-in-None : goal.returns-in-None
returns-in-None c =
    all_marked c.args.file (drop c.loop-place.place-index c.args.places.now) c.loop-place.written.now _ _ c.in-None.ensures.cases
    c.loop-place.invariant
