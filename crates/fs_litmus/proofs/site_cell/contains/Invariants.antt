use Rattle.std.proofs.Common.{◌≡◌, drop}
use Rattle.std.specs.List.{list_any}
use Rattle.std.specs.Str.{bytes_eq}
use Rattle.fs_litmus.specs.inner.Fronts.{words_of}
use Rattle.fs_litmus.proofs.site_cell.contains.Given as goal

abbrev pub invariant-loop-other : goal.invariant-loop-other
invariant-loop-other l = list_any (λ v. bytes_eq v l.word) (words_of (drop l.other-index l.words)) ≡ list_any (λ v. bytes_eq v l.word) (words_of l.words)
