use Rattle.std.proofs.Common.{◌∙◌, ap}
use Rattle.std.specs.Prelude.{◌==◌}
use Rattle.std.proofs.lemmas.Bool.{eq-eqb}
use Rattle.fs_cert_evidence.specs.Regions.{From}
use Rattle.fs_cert_evidence.specs.Splits.{with_source}
use Rattle.fs_region_refutation.proofs.Lists.{first_if}
use Rattle.fs_region_refutation.proofs.splits.keep_agreeing.Goals as goal

pub returns-in_ok-smaller-clause-some : goal.returns-in_ok-smaller-clause-some
returns-in_ok-smaller-clause-some c =
    ap (with_source c.args.load (From c.args.store))
    (c.in_ok-smaller.ensures.region ∙ first_if (c.args.store.hart == c.args.load.hart) _ _ (eq-eqb c.args.store.hart c.args.load.hart c.if-store-load.true))

pub returns-in_ok-smaller-clause-of : goal.returns-in_ok-smaller-clause-of
returns-in_ok-smaller-clause-of c = c.in_ok-smaller.ensures.of
