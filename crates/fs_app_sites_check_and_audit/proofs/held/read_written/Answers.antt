use Rattle.std.proofs.Common.{subst, sym, ◌∙◌}
use Rattle.fs_app_place_and_order.proofs.Faults.{IfErr-handed}
use Rattle.fs_litmus.specs.Lines.{StandIn}
use Rattle.fs_litmus.specs.Sited.{broken}
use Rattle.fs_app_sites_check_and_audit.specs.Copies.{LabelsStandIn}
use Rattle.fs_app_sites_check_and_audit.proofs.held.read_written.Goals as goal

pub returns-in_err-lines-clause-err : goal.returns-in_err-lines-clause-err
returns-in_err-lines-clause-err c =
    IfErr-handed c.from_residual.result _ _ c.from_residual.ensures.1 (λ n. broken (c.in_err-lines.ensures.err n).1)

pub returns-clause-ok : goal.returns-clause-ok
returns-clause-ok c = record {
  lines = c.deref.result.now;
  stand = subst (StandIn c.args.bytes.now) (sym c.deref.ensures.value) c.in_ok-lines.ensures.ok;
  labels = c.deref-2.result.now;
  labels_stand = subst (LabelsStandIn c.args.bytes.now) (sym c.deref-2.ensures.value) c.in_ok-labels.ensures.ok;
  shown = c.new.ensures ∙ c.in_ok-written.ensures;
}
