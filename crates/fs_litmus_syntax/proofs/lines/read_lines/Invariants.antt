use Rattle.fs_litmus_syntax.specs.Columns.{cells_of}
use Rattle.fs_litmus_syntax.proofs.LineLemmas.{AreFirstLines}
use Rattle.fs_litmus_syntax.proofs.lines.read_lines.Given as goal

-- the lines of the first harts
abbrev pub invariant-loop-hart : goal.invariant-loop-hart
invariant-loop-hart l = AreFirstLines l.columns l.hart (cells_of l.cells) l.lines.items
