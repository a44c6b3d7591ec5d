use Rattle.std.proofs.Common.{drop, string_bytes}
use Rattle.fs_app_sites.proofs.Values.{all-lines}
use Rattle.fs_app_sites.proofs.report.write_sites.Goals as goal

pub returns-in-None : goal.returns-in-None
returns-in-None c =
    all-lines string_bytes c.args.is_alone (drop c.loop-entry.entry-index c.args.entries.now) c.loop-entry.names.now _ _ c.in-None.ensures.cases
    c.loop-entry.invariant
