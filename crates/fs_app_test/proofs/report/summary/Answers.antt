use Rattle.std.proofs.Common.{append_assoc}
use Rattle.fs_app_test.proofs.report.summary.Goals as goal

pub returns : goal.returns
returns c =
    rw (← c.in_ok-tests.ensures, ← c.in_ok-pieces.ensures, ← c.in_ok-met.ensures, ← c.as_str.ensures.value, ← c.as_str-2.ensures.value, ← c.as_str-3.ensures.value)
    (simp append_assoc c.format.ensures.ok)
