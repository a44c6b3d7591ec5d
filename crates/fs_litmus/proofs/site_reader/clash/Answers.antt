use Rattle.std.proofs.Common.{sym, ◌∙◌, arith}
use Rattle.fs_litmus.proofs.Clashes.{no_clash}
use Rattle.fs_litmus.proofs.site_reader.clash.Goals as goal

pub returns : goal.returns
returns c = sym (no_clash c.loop-rest.rest.now (omega arith)) ∙ c.loop-rest.invariant
