use Rattle.std.proofs.Common.{◌≡◌, ◌+◌, List, sym, subst, arith}
use Rattle.fs_litmus_syntax.specs.Cells.{Item, AreCells}
use Rattle.fs_litmus_syntax.specs.Columns.{column, cells_of}
use Rattle.fs_litmus_syntax.specs.Lines.{lines_of}
use Rattle.fs_litmus_syntax.proofs.HartLemmas.{at_column}
use Rattle.fs_litmus_syntax.proofs.LineLemmas.{AreFirstLines, no_lines, lines_more, all_lines}
use Rattle.fs_litmus_syntax.proofs.lines.read_lines.Goals as goal

pub loop-hart-init : goal.loop-hart-init
loop-hart-init c = subst (AreFirstLines c.args.columns 0 (cells_of c.args.cells.now)) (sym c.new-lines.ensures.items) (no_lines c.args.columns (cells_of c.args.cells.now))

pub loop-hart-preserved : goal.loop-hart-preserved
loop-hart-preserved c =
    let columns = c.args.columns in
    let cells = cells_of c.args.cells.now in
    let n = c.loop-hart.hart in
    let line = c.in_ok-hart_lines.field-0 in
    let is : (items : List Item) → AreCells (column columns n cells) items → line ≡ lines_of items =
    subst (λ own. (items : List Item) → AreCells own items → line ≡ lines_of items)
    (at_column columns n c.args.cells.now c.skip.result.now c.skip.ensures) c.in_ok-hart_lines.ensures in
    subst (AreFirstLines columns (n + 1) cells) (sym c.in_ok-push.ensures.items)
    (lines_more columns n cells c.loop-hart.lines.items line c.loop-hart.invariant is)

pub returns : goal.returns
returns c = all_lines c.args.columns c.loop-hart.hart (cells_of c.args.cells.now) _ (omega arith) c.loop-hart.invariant
