use Rattle.std.proofs.Common.{[], ◌∷◌, ◌++◌, ◌∙◌, ap, sym, subst, refl}
use Rattle.fs_litmus_tokens.specs.Tokens.{views}
use Rattle.fs_litmus_syntax.specs.Columns.{column, cells_of}
use Rattle.fs_litmus_syntax.proofs.ColumnLemmas.{ColumnRead, none_read, column_more, split_more, column_end}
use Rattle.fs_litmus_syntax.proofs.column.read_column.Goals as goal

pub loop-cell-init : goal.loop-cell-init
loop-cell-init c = record {
  seen = [];
  split = refl;
  read = none_read _ c.new-listing.ensures;
}

pub loop-cell-preserved : goal.loop-cell-preserved
loop-cell-preserved c =
    let seen = c.loop-cell.invariant.seen in
    let cell = c.in-Some.cell.now in
    record {
      seen = seen ++ views cell.now ∷ [];
      split = split_more c.args.columns (column c.args.columns 0 (cells_of c.args.cells.now)) seen c.loop-cell.rest.now cell c.in-Some.after.now c.loop-cell.invariant.split c.in-Some.ensures.cases.0 ∙ ap (λ l. (seen ++ views cell.now ∷ []) ++ column c.args.columns 0 (cells_of l)) (sym c.skip-rest.ensures);
      read = subst (λ o. ColumnRead (seen ++ views cell.now ∷ []) c.read_cell.new.listing o) (sym c.earliest-fault.ensures) (column_more seen (views cell.now) _ _ _ _ c.loop-cell.invariant.read c.in_ok-found.ensures);
    }

pub returns : goal.returns
returns c = column_end c.args.columns _ c.loop-cell.invariant.seen c.loop-cell.rest.now _ _ c.loop-cell.invariant.split c.in_default.ensures.cases c.loop-cell.invariant.read
