use Rattle.std.proofs.Common.{subst, sym}
use Rattle.std.specs.List.{All}
use Rattle.serde_json.specs.View.{view}
use Rattle.fs_app_place_and_order.proofs.Faults.{IfErr-handed}
use Rattle.fs_app_sites.specs.Sites.{IsSound}
use Rattle.fs_app_sites_check_and_audit.specs.Audited.{AreFound, of_memory}
use Rattle.fs_app_sites_check_and_audit.specs.Copies.{Held}
use Rattle.fs_app_sites_check_and_audit.proofs.Faults.{first_files, first_findings, first_prices}
use Rattle.fs_app_sites_check_and_audit.proofs.audit.run_audit_sites.Goals as goal

pub find-requires-clause-sound : goal.find-requires-clause-sound
find-requires-clause-sound c =
    subst (All (λ (h : Held). IsSound h.asked)) (sym c.deref.ensures.value) c.in_ok-held.ensures.sound

pub find-requires-clause-top : goal.find-requires-clause-top
find-requires-clause-top c = c.in_ok-table.ensures.ok.top

pub returns-in_err-table-clause-fault : goal.returns-in_err-table-clause-fault
returns-in_err-table-clause-fault c =
    IfErr-handed c.from_residual.result _ _ c.from_residual.ensures.1 (first_prices _ _ _ c.in_err-table.ensures.err)

pub returns-in_err-held-clause-fault : goal.returns-in_err-held-clause-fault
returns-in_err-held-clause-fault c =
    IfErr-handed c.from_residual-in_err-held.result _ _ c.from_residual-in_err-held.ensures.1
    (first_files _ _ _ _ c.in_ok-table.ensures.ok c.in_err-held.ensures.err)

pub returns-in_err-findings-clause-fault : goal.returns-in_err-findings-clause-fault
returns-in_err-findings-clause-fault c =
    IfErr-handed c.from_residual-in_err-findings.result _ _ c.from_residual-in_err-findings.ensures.1
    (first_findings _ _ _ _ _ _ c.in_ok-table.ensures.ok c.in_ok-held.ensures.ok c.deref.ensures.value c.in_err-findings.ensures.err)

pub returns-in_err-printed-clause-fault : goal.returns-in_err-printed-clause-fault
returns-in_err-printed-clause-fault c =
    IfErr-handed c.from_residual-in_err-printed.result _ _ c.from_residual-in_err-printed.ensures.1 of_memory

pub returns-clause-answer : goal.returns-clause-answer
returns-clause-answer c = record {
  table = view c.in_ok-table.table;
  held = c.in_ok-held.held.items;
  findings = c.in_ok-findings.findings;
  priced = c.in_ok-table.ensures.ok;
  read = c.in_ok-held.ensures.ok;
  found = subst (λ held. AreFound c.args.files.now (view c.in_ok-table.table) held c.in_ok-findings.findings) c.deref.ensures.value c.in_ok-findings.ensures.ok;
  shown = c.in_ok-printed.ensures.text;
  ends = c.in_ok-printed.ensures.status;
}
