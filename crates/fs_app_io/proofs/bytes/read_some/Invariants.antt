use Rattle.std.specs.Io.KnownBytes.{Keeps}
use Rattle.fs_app_io.proofs.bytes.read_some.Given as goal

abbrev pub invariant-loop : goal.invariant-loop
invariant-loop g l = Keeps (g.R.Read.remaining l.initial.reader) (g.R.Read.remaining l.reader)
