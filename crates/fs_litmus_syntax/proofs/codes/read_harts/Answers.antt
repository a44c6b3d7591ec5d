use Rattle.std.proofs.Common.{[], ◌∷◌, ◌++◌, ◌+◌, Some, ◌∙◌, ap, subst, arith}
use Rattle.fs_litmus_syntax.specs.Columns.{column, cells_of}
use Rattle.fs_litmus_syntax.specs.Codes.{ReadsHart}
use Rattle.fs_kinds.specs.FaultOrder.{earliest}
use Rattle.fs_litmus_syntax.proofs.HartLemmas.{at_column, hart_right, hart_wrong, harts_same, harts_end}
use Rattle.fs_litmus_syntax.proofs.codes.read_harts.Goals as goal
use Rattle.fs_litmus_syntax.proofs.codes.read_harts.Goals.{in-Ok+in_ok-push-in-Ok, in-Err}

pub loop-hart-preserved : goal.loop-hart-preserved
loop-hart-preserved c =
    let columns = c.args.columns in
    let cells = cells_of c.args.cells.now in
    let n = c.loop-hart.hart in
    let kept = c.loop-hart.codes.items in
    let first = c.loop-hart.first in
    let here = column columns n cells in
    let read = subst (λ l. ReadsHart l c.in_ok-code.field-0) (at_column columns n c.args.cells.now c.skip.result.now c.skip.ensures) c.in_ok-code.ensures in
    elim c.match-branch-2.branch [
      | in-Ok+in_ok-push-in-Ok w ↦ harts_same columns (n + 1) cells (kept ++ w.in-Ok.code ∷ []) _ first _ (ap (λ v. v.items) w.codes-is ∙ w.in_ok-push-in-Ok.ensures.items) w.first-is (hart_right columns n cells kept first w.in-Ok.code c.loop-hart.invariant (subst (λ r. ReadsHart here r) w.in-Ok.is read))
      | in-Err w ↦ harts_same columns (n + 1) cells kept _ (earliest first (Some w.in-Err.fault)) _ (ap (λ v. v.items) w.codes-is) (w.first-is ∙ w.earliest-first.ensures) (hart_wrong columns n cells kept first w.in-Err.fault c.loop-hart.invariant (subst (λ r. ReadsHart here r) w.in-Err.is read))
    ]

pub returns : goal.returns
returns c = harts_end c.args.columns c.loop-hart.hart (cells_of c.args.cells.now) _ _ (omega arith) c.loop-hart.invariant
