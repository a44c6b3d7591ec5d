use Rattle.std.proofs.Common.{◌≢◌, IfOk, IfErr, List, ap, subst, ◌∙◌}
use Rattle.fs_kinds.specs.declared.fault.Fault.TheVariants.{Memory}
use Rattle.fs_kinds.specs.declared.placement.Entry.{Entry}
use Rattle.fs_model.specs.declared.test.Test.{Test}
use Rattle.fs_cert_evidence.specs.CandidateFaults.{IsCandidateFault}
use Rattle.fs_judge.specs.Verdicts.{IsVerdict}
use Rattle.fs_sites_search.specs.Seats.{Asked}
use Rattle.fs_sites_search.proofs.seats.Seat.asked.Goals as goal

pub returns-clause-said : goal.returns-clause-said
returns-clause-said c =
    let r = c.verdict-verdict.result in
    let test = c.in-Ok.ensures.ok in
    let fences = ap (λ (a : Asked). a.fences) (c.self.view_is ∙ c.called.ensures.same) in
    c.said_by.ensures c.args.self.now.test c.args.self.now.fences
    (subst (λ (t : Test). IfOk r (IsVerdict t c.args.self.now.fences)) test
    (subst (λ (p : List Entry). IfOk r (IsVerdict c.in-Ok.judge p)) fences c.verdict-verdict.ensures.ok))
    (subst (λ (t : Test). IfErr r (λ f. f ≢ Memory → IsCandidateFault t f)) test c.verdict-verdict.ensures.err)
