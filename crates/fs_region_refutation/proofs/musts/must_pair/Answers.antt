use Rattle.std.proofs.Common.{◌∙◌, [], ap, sym, refl, subst}
use Rattle.std.specs.List.{list_all}
use Rattle.std.proofs.lemmas.Bool.{eq-eqb}
use Rattle.fs_model.specs.Preserved.{Rule8}
use Rattle.fs_cert_evidence.specs.Musts.{alone, is_rule}
use Rattle.fs_region_refutation.specs.Views.{region_of, runs_of, AreRunsOf}
use Rattle.fs_region_refutation.proofs.Lists.{last_of_four}
use Rattle.fs_region_refutation.proofs.musts.must_pair.Goals as goal

pub returns-then-is_hart : goal.returns-then-is_hart
returns-then-is_hart c =
    let t = c.args.basis.now in
    let region = region_of c.args.region.now in
    let hart = c.args.load.hart in
    let are : AreRunsOf t hart c.runs.result.now = subst (AreRunsOf t hart) (sym c.runs.ensures) (c.requires hart) in
    last_of_four _ _ _ _ _ (eq-eqb c.args.load.hart c.args.store.hart c.if-load-store.true) refl (sym c.is_hart.ensures ∙ c.if-is_hart.true)
    (c.all_pair.ensures t region are
    ∙ ap (λ runs. list_all (λ run. is_rule t region [] Rule8 c.args.load c.args.store (alone t hart run)) (runs_of runs)) c.runs.ensures)
