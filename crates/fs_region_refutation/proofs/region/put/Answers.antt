use Rattle.std.proofs.Common.{◌≡◌, ◌∙◌, ap, refl, filter, [], ◌∷◌, ◌++◌, rules}
use Rattle.std.specs.Prelude.{not}
use Rattle.fs_cert_evidence.specs.Regions.{same_name}
use Rattle.fs_region_refutation.specs.declared.region.Sourced.{Sourced}
use Rattle.fs_region_refutation.specs.Views.{source_in}
use Rattle.fs_region_refutation.proofs.Regions.{put_is}
use Rattle.fs_region_refutation.proofs.region.put.Goals as goal

pub returns : goal.returns
returns c =
    let new : Sourced = record { load = c.args.load; source = c.args.source } in
    let kept : c.in_ok-others.others.items ≡ filter (λ known. not (same_name known.load c.args.load)) c.args.sources.now = search rules in
    let whole : c.new.result ≡ (new ∷ []) ++ c.in_ok-others.others.items = search rules in
    λ name.
    ap (λ all. source_in all name) (whole ∙ ap (λ others. new ∷ others) kept)
    ∙ put_is c.args.load new c.args.sources.now refl name
