use Rattle.std.proofs.Common.{◌≡◌, ◌≤◌, ◌++◌, drop}
use Rattle.fs_litmus_syntax.specs.Body.{cells_of}
use Rattle.fs_litmus.specs.SiteLabels.{sites_from, all_of}
use Rattle.fs_litmus.specs.inner.Fronts.{words_of}
use Rattle.fs_litmus.proofs.site_hart.push_cells.Given as goal

abbrev pub invariant-loop-cell : goal.invariant-loop-cell
invariant-loop-cell l = record {
  small : l.at ≤ l.cell-index;
  sites : all_of l.sites.items ++ sites_from (words_of l.ends) l.hart l.at (cells_of (drop l.cell-index l.cells)) ≡ all_of l.initial.sites.items ++ sites_from (words_of l.ends) l.hart 0 (cells_of l.cells);
}
