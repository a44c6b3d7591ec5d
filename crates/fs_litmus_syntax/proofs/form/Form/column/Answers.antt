use Rattle.std.proofs.Common.{arith}
use Rattle.fs_litmus_syntax.proofs.Columns.{row_fits, rest_fits, cells_on}
use Rattle.fs_litmus_syntax.proofs.form.Form.column.Goals as goal

pub overflow_add-row : goal.overflow_add-row
overflow_add-row c =
    let fits = row_fits c.args.self.now.cells.items c.args.self.now.columns c.loop-row.row (omega arith) (omega arith) c.loop-row.invariant.whole in
    omega (arith, fits)

pub index-requires : goal.index-requires
index-requires c =
    let fits = row_fits c.args.self.now.cells.items c.args.self.now.columns c.loop-row.row (omega arith) (omega arith) c.loop-row.invariant.whole in
    omega (arith, fits)

pub overflow_add-row-in-loop-row : goal.overflow_add-row-in-loop-row
overflow_add-row-in-loop-row c =
    let fits = row_fits c.args.self.now.cells.items c.args.self.now.columns c.loop-row.row (omega arith) (omega arith) c.loop-row.invariant.whole in
    omega (arith, fits)

pub loop-row-preserved : goal.loop-row-preserved
loop-row-preserved c =
    let items = c.args.self.now.cells.items in
    let columns = c.args.self.now.columns in
    record {
      room = row_fits items columns c.loop-row.row (omega arith) (omega arith) c.loop-row.invariant.whole;
      whole = rest_fits items columns c.loop-row.row (omega arith) (omega arith) c.loop-row.invariant.whole;
      seen = cells_on items columns c.loop-row.row (omega arith) _ _ _ c.args.number _ c.requires.within (omega arith) c.loop-row.invariant.whole c.loop-row.invariant.seen c.index.ensures c.in_ok-push.ensures.items;
    }
