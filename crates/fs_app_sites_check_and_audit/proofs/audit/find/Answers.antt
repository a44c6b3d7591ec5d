use Rattle.std.proofs.Common.{ap, subst, sym, ◌∙◌}
use Rattle.serde_json.specs.View.{view}
use Rattle.fs_app_place_and_order.proofs.Faults.{IfErr-handed}
use Rattle.fs_sites.specs.Answers.{IsAnswer}
use Rattle.fs_app_sites_check_and_audit.specs.Audited.{AreFound, together}
use Rattle.fs_app_sites_check_and_audit.proofs.Faults.{not_said, not_searched, too_many}
use Rattle.fs_app_sites_check_and_audit.proofs.audit.find.Goals as goal

pub returns-in_err-asked-clause-err : goal.returns-in_err-asked-clause-err
returns-in_err-asked-clause-err c =
    IfErr-handed c.from_residual.result _ _ c.from_residual.ensures.1
    (λ n. too_many _ _ _ _ (c.in_err-asked.ensures.err n).0)

pub returns-in_err-found-clause-err : goal.returns-in_err-found-clause-err
returns-in_err-found-clause-err c =
    IfErr-handed c.from_residual-in_err-found.result _ _ c.from_residual-in_err-found.ensures.1
    (λ n. not_searched _ _ _ _ _ c.in_ok-asked.ensures.value (c.in_err-found.ensures.err n))

pub returns-in_err-kinds-clause-err : goal.returns-in_err-kinds-clause-err
returns-in_err-kinds-clause-err c =
    IfErr-handed c.from_residual-in_err-kinds.result _ _ c.from_residual-in_err-kinds.ensures.1
    (λ n. not_said _ _ _ _ _ _ c.in_ok-asked.ensures.value c.in_ok-found.ensures.ok (c.in_err-kinds.ensures.err n))

pub returns-clause-ok : goal.returns-clause-ok
returns-clause-ok c =
    subst (AreFound c.args.files.now (view c.args.prices.now) c.args.held.now) (sym c.findings_of.ensures)
    (record {
      names = c.in_ok-asked.ensures.names;
      marks = c.in_ok-asked.ensures.marks;
      written = c.in_ok-asked.ensures.written;
      all_cost = c.in_ok-asked.ensures.all_cost;
      kinds = c.in_ok-kinds.kinds.items;
      said = c.in_ok-kinds.ensures.ok;
      kind = c.together.ensures ∙ ap together c.deref.ensures.value;
      answer = subst (λ q. IsAnswer q c.in_ok-found.found) c.in_ok-asked.ensures.value c.in_ok-found.ensures.ok;
    })
