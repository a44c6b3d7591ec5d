use Rattle.std.proofs.Common.{◌∙◌}
use Rattle.fs_litmus_syntax.specs.Columns.{column, cells_of}
use Rattle.fs_litmus_syntax.proofs.LineLemmas.{lines_if}
use Rattle.fs_litmus_syntax.proofs.lines.hart_lines.Goals as goal

pub returns : goal.returns
returns c = λ items are.
    let cells = column c.args.columns 0 (cells_of c.args.cells.now) in
    c.new.ensures ∙ c.in_ok-lines_of.ensures ∙ lines_if cells _ items _ c.in_ok-listing.ensures are
