use Rattle.std.proofs.Common.{map, string_bytes}
use Rattle.std.proofs.lemmas.Result.{IfErr-weaker}
use Rattle.fs_app_place_and_order.proofs.Faults.{IfErr-handed}
use Rattle.fs_app_sites.proofs.Combined.{if-both}
use Rattle.fs_app_sites.proofs.Faults.{asked-files, asked-prices, asked-sites}
use Rattle.fs_app_sites.proofs.Reading.{is-asked}
use Rattle.fs_app_sites.proofs.ask.read_question.Goals as goal

pub asked_of-requires-clause-top : goal.asked_of-requires-clause-top
asked_of-requires-clause-top c = c.in_ok-table.ensures.ok.top

pub returns-in_err-table-clause-fault : goal.returns-in_err-table-clause-fault
returns-in_err-table-clause-fault c =
    IfErr-handed c.from_residual.result _ _ c.from_residual.ensures.1 (asked-prices _ _ _ c.in_err-table.ensures.err)

pub returns-in_err-contents-clause-fault : goal.returns-in_err-contents-clause-fault
returns-in_err-contents-clause-fault c =
    IfErr-handed c.from_residual-in_err-contents.result _ _ c.from_residual-in_err-contents.ensures.1
    (asked-files _ _ _ _ c.in_ok-table.ensures.ok c.in_err-contents.ensures.err)

pub returns-clause-fault : goal.returns-clause-fault
returns-clause-fault c =
    IfErr-weaker c.asked_of.result _ _
    (λ f. asked-sites _ _ f _ _ _ c.in_ok-table.ensures.ok c.in_ok-contents.ensures.ok c.deref.ensures.value) c.asked_of.ensures.err

pub returns-clause-ok : goal.returns-clause-ok
returns-clause-ok c =
    if-both _ _ _ c.asked_of.result c.asked_of.ensures.names c.asked_of.ensures.value
    (λ asked named asks. is-asked _ _ asked.question (map string_bytes asked.names) _ _ _ c.in_ok-contents.ensures.ok
    c.in_ok-table.ensures.ok c.deref.ensures.value named asks)
