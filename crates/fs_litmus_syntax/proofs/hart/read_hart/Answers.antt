use Rattle.std.proofs.Common.{refl, subst}
use Rattle.fs_litmus_syntax.specs.Cells.{IsListing}
use Rattle.fs_litmus_syntax.specs.Columns.{column, cells_of}
use Rattle.fs_litmus_syntax.proofs.HartLemmas.{cell_fault, hart_if}
use Rattle.fs_litmus_syntax.proofs.hart.read_hart.Goals as goal

pub returns-in-Some : goal.returns-in-Some
returns-in-Some c =
    let cells = column c.args.columns 0 (cells_of c.args.cells.now) in
    cell_fault cells c.in-Some.fault (subst (λ o. IsListing cells c.in_ok-listing.listing o) c.in-Some.is c.in_ok-listing.ensures)

pub returns : goal.returns
returns c =
    let cells = column c.args.columns 0 (cells_of c.args.cells.now) in
    hart_if cells _ c.in_ok-listing.listing _ (subst (λ o. IsListing cells c.in_ok-listing.listing o) c.in-None.is c.in_ok-listing.ensures) refl c.read_listing.ensures
