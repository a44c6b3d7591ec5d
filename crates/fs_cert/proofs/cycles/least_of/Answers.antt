use Rattle.std.proofs.Common.{arith}
use Rattle.fs_cert.proofs.Least.{begins}
use Rattle.fs_cert.proofs.cycles.least_of.Goals as goal

pub returns-clause-there : goal.returns-clause-there
returns-clause-there c = c.loop-i.invariant.within

pub returns-clause-least : goal.returns-clause-least
returns-clause-least c = begins c.args.links.now c.loop-i.i c.loop-i.least (omega arith) c.loop-i.invariant
