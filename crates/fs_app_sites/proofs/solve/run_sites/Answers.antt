use Rattle.std.proofs.Common.{map, string_bytes}
use Rattle.std.proofs.lemmas.Result.{IfErr-weaker}
use Rattle.fs_app_place_and_order.proofs.Faults.{IfErr-handed}
use Rattle.fs_app_sites.proofs.Combined.{if-both}
use Rattle.fs_app_sites.proofs.Faults.{first-asked, first-memory, first-search}
use Rattle.fs_app_sites.proofs.Reading.{asked-again, is-solved}
use Rattle.fs_app_sites.proofs.solve.run_sites.Goals as goal

pub returns-in_err-asked-clause-fault : goal.returns-in_err-asked-clause-fault
returns-in_err-asked-clause-fault g c =
    IfErr-handed c.from_residual.result _ _ c.from_residual.ensures.1 (first-asked _ _ _ c.in_err-asked.ensures.fault)

pub returns-in_err-answer-clause-fault : goal.returns-in_err-answer-clause-fault
returns-in_err-answer-clause-fault g c =
    IfErr-handed c.from_residual-in_err-answer.result _ _ c.from_residual-in_err-answer.ensures.1
    (first-search _ _ _ _ _ c.in_ok-asked.ensures.ok c.in_err-answer.ensures.err)

pub returns-clause-fault : goal.returns-clause-fault
returns-clause-fault g c = IfErr-weaker c.solved_of.result _ _ (λ f. first-memory _ _ f) c.solved_of.ensures.err

pub returns-clause-ok : goal.returns-clause-ok
returns-clause-ok g c =
    let asked = asked-again _ _ _ string_bytes _ _ c.as_slice-names.ensures c.in_ok-asked.ensures.ok in
    if-both _ _ _ c.solved_of.result c.solved_of.ensures.text c.solved_of.ensures.status
    (λ solved shown ends. is-solved _ _ _ (map string_bytes c.as_slice-names.result.now) _ _ _ _ asked
    c.in_ok-answer.ensures.ok shown ends)
