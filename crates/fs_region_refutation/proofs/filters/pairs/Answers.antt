use Rattle.std.proofs.Common.{◌∙◌, sym, ap, subst}
use Rattle.std.specs.Borrow.{Bor}
use Rattle.std.specs.List.Sorted.{IsSorted}
use Rattle.std.proofs.lemmas.List.Filters.{dedup_is}
use Rattle.fs_region_refutation.specs.Alone.{RunOf}
use Rattle.fs_region_refutation.specs.inner.Pairs.{is_among, pair_at, by_pair}
use Rattle.fs_region_refutation.proofs.Pairs.{among_once, among_dedup, sorted_once, pairs_seen}
use Rattle.fs_region_refutation.proofs.filters.pairs.Goals as goal

pub returns : goal.returns
returns c = record {
  has = λ pair.
      ap (λ pairs. is_among pairs pair) (dedup_is _ c.sort.new.self.items _ c.dedup-2.ensures.filtered)
      ∙ among_once c.dedup.new.self.items c.sort.new.self.items c.in_ok-sort.ensures.permutation pair
      ∙ ap (λ pairs. is_among pairs pair) (dedup_is _ c.in_ok-pairs.pairs.items _ c.dedup.ensures.filtered)
      ∙ among_dedup c.in_ok-pairs.pairs.items pair
      ∙ ap (λ pairs. is_among pairs pair)
      (c.in_ok-pairs.ensures ∙ pairs_seen (λ (run : Bor RunOf). run.now.steps) (pair_at c.args.access c.args.at) c.args.runs.now);
  sorted =
      subst (IsSorted by_pair) (sym (dedup_is _ c.sort.new.self.items _ c.dedup-2.ensures.filtered))
      (sorted_once c.sort.new.self.items c.in_ok-sort.ensures.sorted);
}
