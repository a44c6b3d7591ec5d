use Rattle.std.proofs.Common.{◌∙◌}
use Rattle.fs_cand_listing.proofs.Numbered.{all_sources_are, all_stores_are}
use Rattle.fs_cand_listing.proofs.choices.Choices.of.Goals as goal

pub returns : goal.returns
returns c = λ x e. record {
  sources = c.in_ok-all_sources.ensures ∙ all_sources_are x c.args.operations.now c.count_accesses-count.result e (c.count_accesses-count.ensures.count x e);
  stores = c.in_ok-all_stores.ensures ∙ all_stores_are x c.args.operations.now c.count_accesses-count.result c.args.locations e (c.count_accesses-count.ensures.count x e);
  count = c.count_accesses-count.ensures.count x e;
}
