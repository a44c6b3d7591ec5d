use Rattle.std.proofs.Common.{◌∙◌, ap, sym}
use Rattle.std.specs.Borrow.{Bor}
use Rattle.std.proofs.lemmas.List.Filters.{dedup_is}
use Rattle.fs_cert_evidence.specs.Splits.{chosen_at, rising}
use Rattle.fs_region_refutation.specs.Alone.{RunOf}
use Rattle.fs_region_refutation.proofs.Lists.{map_seen}
use Rattle.fs_region_refutation.proofs.Rises.{rising_is}
use Rattle.fs_region_refutation.proofs.splits.choices.Goals as goal

pub returns : goal.returns
returns c =
    let made = c.in_ok-numbers.numbers.items in
    dedup_is _ c.sort.new.self.items _ c.dedup.ensures.filtered
    ∙ rising_is made c.sort.new.self.items c.in_ok-sort.ensures.permutation c.in_ok-sort.ensures.sorted
    ∙ ap rising (c.in_ok-numbers.ensures ∙ sym (map_seen (λ (run : Bor RunOf). run.now.steps) (chosen_at c.args.at) c.args.runs.now))
