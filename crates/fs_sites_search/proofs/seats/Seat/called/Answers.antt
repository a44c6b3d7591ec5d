use Rattle.std.proofs.Common.{◌≢◌, Result, IfErr, sym, subst}
use Rattle.fs_kinds.specs.declared.fault.Fault.{Fault}
use Rattle.fs_kinds.specs.declared.fault.Fault.TheVariants.{Memory}
use Rattle.fs_model.specs.declared.test.Test.{Test}
use Rattle.fs_cert_evidence.specs.CandidateFaults.{IsCandidateFault}
use Rattle.fs_sites_search.specs.Seats.{Asked}
use Rattle.fs_sites_search.proofs.seats.Seat.called.Goals as goal
use Rattle.fs_sites_search.proofs.seats.Seat.called.Goals.{in-Some, in-None}

pub returns-clause-err : goal.returns-clause-err
returns-clause-err c =
    let P : Result Test Fault → Type 0 = λ r. IfErr r (λ f. f ≢ Memory → IsCandidateFault c.args.self.now.test f) in
    elim c.match-take.branch [
      | in-Some w ↦ subst P (sym w.result-is) tt
      | in-None w ↦ subst P (sym w.result-is)
          (subst (λ (a : Asked). IfErr w.judge_of.result (λ f. f ≢ Memory → IsCandidateFault a.test f)) c.self.view_is w.judge_of.ensures.err)
    ]
