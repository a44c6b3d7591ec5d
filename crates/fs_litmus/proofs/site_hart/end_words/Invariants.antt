use Rattle.std.proofs.Common.{◌≡◌, ◌++◌, drop}
use Rattle.fs_litmus_syntax.specs.Body.{cells_of}
use Rattle.fs_litmus.specs.SiteLabels.{end_words}
use Rattle.fs_litmus.specs.inner.Fronts.{words_of}
use Rattle.fs_litmus.proofs.site_hart.end_words.Given as goal

abbrev pub invariant-loop-cell : goal.invariant-loop-cell
invariant-loop-cell l = words_of l.words.items ++ end_words (cells_of (drop l.cell-index l.cells)) ≡ end_words (cells_of l.cells)
