use Rattle.fs_values.proofs.Listed.{has_all, have_final}
use Rattle.fs_values.proofs.runs.all_runs.Goals as goal

pub returns-clause-ok : goal.returns-clause-ok
returns-clause-ok c =
    let listed = c.in_ok-runs.field-0 in
    has_all c.args.test.now listed.values c.in_ok-runs.ensures.values listed.runs.items c.in_ok-runs.ensures.harts c.in_ok-runs.ensures.runs

pub returns-clause-registers : goal.returns-clause-registers
returns-clause-registers c =
    let listed = c.in_ok-runs.field-0 in
    have_final c.args.test.now listed.values listed.runs.items c.in_ok-runs.ensures.runs
