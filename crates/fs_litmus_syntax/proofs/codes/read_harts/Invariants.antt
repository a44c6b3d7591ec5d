use Rattle.fs_litmus_syntax.specs.Columns.{cells_of}
use Rattle.fs_litmus_syntax.proofs.HartLemmas.{HartsRead}
use Rattle.fs_litmus_syntax.proofs.codes.read_harts.Given as goal

abbrev pub invariant-loop-hart : goal.invariant-loop-hart
invariant-loop-hart l = HartsRead l.columns l.hart (cells_of l.cells) l.codes.items l.first
