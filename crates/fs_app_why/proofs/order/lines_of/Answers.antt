use Rattle.fs_app_why.proofs.Faults.{memory_only}
use Rattle.fs_app_why.proofs.order.lines_of.Goals as goal

pub returns-clause-err : goal.returns-clause-err
returns-clause-err c = memory_only c.args.bytes.now c.requires.0 c.read_lines.result c.requires.1 c.read_lines.ensures.err
