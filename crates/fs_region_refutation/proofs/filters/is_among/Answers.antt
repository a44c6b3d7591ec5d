use Rattle.std.proofs.Common.{◌∙◌, sym, ap}
use Rattle.fs_region_refutation.specs.inner.Pairs.{is_among}
use Rattle.fs_region_refutation.proofs.Pairs.{searched}
use Rattle.fs_region_refutation.proofs.filters.is_among.Goals as goal

pub returns-in-Some : goal.returns-in-Some
returns-in-Some c up =
    c.is_ok.ensures.value
    ∙ searched c.args.pairs.now c.in-Some.pair c.binary_search.result c.binary_search.ensures.bound c.binary_search.ensures.position up
    ∙ ap (is_among c.args.pairs.now) (sym c.in-Some.is)
