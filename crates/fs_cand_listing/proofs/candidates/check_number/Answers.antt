use Rattle.std.proofs.Common.{◌≡◌, ◌≢◌}
use Rattle.std.proofs.lemmas.Result.{IfErr-weaker}
use Rattle.fs_kinds.specs.declared.fault.Fault.{Fault}
use Rattle.fs_kinds.specs.declared.fault.Fault.TheVariants.{Memory, TooManyCandidates}
use Rattle.fs_cert_evidence.specs.CandidateFaults.{HasTooMany, IsCandidateFault}
use Rattle.fs_cand_listing.proofs.Faults.{on_ok_from, no_fault, of_candidates}
use Rattle.fs_cand_listing.proofs.candidates.check_number.Goals as goal

pub returns-clause-clean : goal.returns-clause-clean
returns-clause-clean c =
    let t = c.args.test.now in
    on_ok_from c.check_over.result (HasTooMany t → ⊥) ((f : Fault) → IsCandidateFault t f → ⊥)
    (no_fault t c.in_ok-values.ensures.clean) c.check_over.ensures.clean

pub returns-clause-err : goal.returns-clause-err
returns-clause-err c =
    let t = c.args.test.now in
    IfErr-weaker c.check_over.result (λ f. f ≢ Memory → (f ≡ TooManyCandidates) × HasTooMany t) (λ f. f ≢ Memory → IsCandidateFault t f)
    (λ f many other. of_candidates t c.in_ok-values.ensures.clean f (many other)) c.check_over.ensures.err
