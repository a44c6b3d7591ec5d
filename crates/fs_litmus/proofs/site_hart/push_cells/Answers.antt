use Rattle.std.proofs.Common.{[], List, get_or, refl}
use Rattle.std.specs.Borrow.{Bor}
use Rattle.fs_litmus_tokens.specs.declared.token.Token.{Token}
use Rattle.fs_litmus_tokens.specs.Tokens.{views}
use Rattle.fs_litmus.specs.inner.Fronts.{words_of}
use Rattle.fs_litmus.proofs.Harts.{position_small, sites_next}
use Rattle.fs_litmus.proofs.site_hart.push_cells.Goals as goal

pub loop-cell-preserved : goal.loop-cell-preserved
loop-cell-preserved c =
    let none : Bor (List Token) = record { ref_ptr = (0, 0); now = [] } in
    let cells = c.args.cells.now in
    let cell = (get_or cells c.loop-cell.cell-index none).now in
    record {
      small = position_small c.loop-cell.at c.in_ok-at.at c.loop-cell.cell-index (views cell) c.in_ok-at.ensures.position c.loop-cell.invariant.small;
      sites = sites_next (words_of c.args.ends.now) c.args.hart c.loop-cell.at c.in_ok-at.at c.loop-cell.cell-index cells none cell _ _ _ c.loop-cell-test.true refl c.in_ok-at.ensures.position c.in_ok-at.ensures.sites c.loop-cell.invariant.sites;
    }
