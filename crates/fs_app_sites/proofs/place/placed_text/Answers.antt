use Rattle.std.proofs.Common.{subst}
use Rattle.fs_litmus.specs.Fence.{IsShort}
use Rattle.fs_model.specs.Fenced.{fenced}
use Rattle.fs_app_place_and_order.proofs.Faults.{IfErr-handed}
use Rattle.fs_app_sites.proofs.place.placed_text.Goals as goal

pub returns-in_err-text-clause-err : goal.returns-in_err-text-clause-err
returns-in_err-text-clause-err c =
    IfErr-handed c.from_residual-in_err-text.result _ _ c.from_residual-in_err-text.ensures.1
    (λ n.
    let long = c.in_err-text.ensures.err n in
    (long.0, subst (λ p. IsShort (fenced c.args.test p) → ⊥) c.in_ok-fences.ensures.ok long.1))

pub returns-clause-short : goal.returns-clause-short
returns-clause-short c =
    subst (λ p. IsShort (fenced c.args.test p)) c.in_ok-fences.ensures.ok c.in_ok-text.ensures.short
