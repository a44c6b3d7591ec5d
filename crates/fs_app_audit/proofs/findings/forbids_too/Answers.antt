use Rattle.std.proofs.Common.{◌≡◌, ◌∙◌, ap, sym, subst}
use Rattle.fs_cert_evidence.specs.Evidence.{Refuted}
use Rattle.fs_model.specs.Allows.{Allows}
use Rattle.fs_app_audit.proofs.findings.forbids_too.Goals as goal

pub returns-then-is_same-clause-yes : goal.returns-then-is_same-clause-yes
returns-then-is_same-clause-yes c is allows =
    let same : c.args.own.now ≡ c.args.first.now.placement =
    sym c.as_slice.ensures.entries ∙ c.is_same.ensures.yes c.if-is_same.true ∙ c.as_slice-2.ensures.entries
    ∙ ap (λ (f : Refuted). f.placement) c.first.view_is in
    c.requires.first (subst (Allows c.args.problem.now) same allows)
