use Rattle.fs_app_test.proofs.never.ending_text.Goals as goal

pub returns : goal.returns
returns c = rw (← c.in_ok-value.ensures, ← c.as_str.ensures.value, ← c.number.ensures) c.format.ensures.ok
