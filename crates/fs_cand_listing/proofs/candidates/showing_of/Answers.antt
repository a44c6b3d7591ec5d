use Rattle.std.proofs.Common.{◌≡◌, ◌≢◌, subst}
use Rattle.std.proofs.lemmas.Result.{IfErr-weaker}
use Rattle.fs_kinds.specs.declared.fault.Fault.{Fault}
use Rattle.fs_kinds.specs.declared.fault.Fault.TheVariants.{Memory, TooManyCandidates}
use Rattle.fs_model.specs.declared.test.Test.{Test}
use Rattle.fs_model.specs.TooMany.{IsRunFault}
use Rattle.fs_cert_evidence.specs.CandidateFaults.{HasTooMany, IsCandidateFault}
use Rattle.fs_values.specs.ThinAir.{CanBeListed}
use Rattle.fs_cand_listing.proofs.Faults.{on_ok, on_ok_from, no_fault, of_candidates}
use Rattle.fs_cand_listing.proofs.candidates.showing_of.Goals as goal

pub returns-clause-listable : goal.returns-clause-listable
returns-clause-listable c =
    let t = c.args.test.value in
    on_ok c.of-2.result (CanBeListed t) (subst CanBeListed c.deref.ensures c.in_ok-values.ensures.listable)

pub returns-clause-clean : goal.returns-clause-clean
returns-clause-clean c =
    let t = c.args.test.value in
    let clean : (f : Fault) → IsRunFault t f → ⊥ = subst (λ (u : Test). (f : Fault) → IsRunFault u f → ⊥) c.deref.ensures c.in_ok-values.ensures.clean in
    on_ok_from c.of-2.result (HasTooMany t → ⊥) ((f : Fault) → IsCandidateFault t f → ⊥) (no_fault t clean) c.of-2.ensures.clean

pub returns-clause-err : goal.returns-clause-err
returns-clause-err c =
    let t = c.args.test.value in
    let clean : (f : Fault) → IsRunFault t f → ⊥ = subst (λ (u : Test). (f : Fault) → IsRunFault u f → ⊥) c.deref.ensures c.in_ok-values.ensures.clean in
    IfErr-weaker c.of-2.result (λ f. f ≢ Memory → (f ≡ TooManyCandidates) × HasTooMany t) (λ f. f ≢ Memory → IsCandidateFault t f)
    (λ f many other. of_candidates t clean f (many other)) c.of-2.ensures.err
