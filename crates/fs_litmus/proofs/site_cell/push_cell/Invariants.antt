use Rattle.std.proofs.Common.{◌≡◌, ◌++◌, length}
use Rattle.fs_litmus_tokens.specs.Tokens.{views}
use Rattle.fs_litmus.specs.SiteLabels.{cell_sites, has_instruction, all_of}
use Rattle.fs_litmus.specs.inner.Fronts.{words_of}
use Rattle.fs_litmus.proofs.site_cell.push_cell.Given as goal

abbrev pub invariant-loop-label : goal.invariant-loop-label
invariant-loop-label l = record {
  sites : all_of l.sites.items ++ cell_sites (words_of l.ends) l.hart l.at (views l.rest) ≡ all_of l.initial.sites.items ++ cell_sites (words_of l.ends) l.hart l.at (views l.cell);
  instruction : has_instruction (views l.rest) ≡ has_instruction (views l.cell);
}

abbrev pub decreases-loop-label : goal.decreases-loop-label
decreases-loop-label l = length l.rest
