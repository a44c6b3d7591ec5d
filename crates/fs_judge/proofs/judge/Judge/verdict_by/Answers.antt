use Rattle.std.proofs.Common.{◌≢◌, ◌∙◌, All, List, IfErr, sym, subst}
use Rattle.std.proofs.lemmas.List.Elements.{All-push}
use Rattle.fs_kinds.specs.declared.fault.Fault.TheVariants.{Memory}
use Rattle.fs_model.specs.declared.test.Test.{Test}
use Rattle.fs_cert_evidence.specs.CandidateFaults.{IsCandidateFault}
use Rattle.fs_cand_listing.proofs.Faults.{handed}
use Rattle.fs_judge.specs.declared.known.Known.{Known}
use Rattle.fs_judge.specs.inner.Bases.{IsKnown}
use Rattle.fs_judge.specs.inner.Findings.{IsSought}
use Rattle.fs_judge.proofs.judge.Judge.verdict_by.Goals as goal

pub returns-in_err-verdict-in-Shown-clause-err : goal.returns-in_err-verdict-in-Shown-clause-err
returns-in_err-verdict-in-Shown-clause-err g c =
    let fault = c.in_err-verdict-in-Shown.field-0.0 in
    let same = c.deref-in-Shown.ensures ∙ (c.self.view_is ∙ c.look.ensures.value) in
    handed c.from_residual-in_err-verdict-in-Shown.result _ (λ f. f ≢ Memory → IsCandidateFault c.args.self.now f)
    c.from_residual-in_err-verdict-in-Shown.ensures.1
    (subst (λ (t : Test). fault ≢ Memory → IsCandidateFault t fault) same c.in_err-verdict-in-Shown.ensures.err)

pub invariant_of-self-in-Shown : goal.invariant_of-self-in-Shown
invariant_of-self-in-Shown g c =
    let t = c.self.inside.problem.value in
    let known : IsKnown t c.in-Shown.known =
    subst (λ (u : Test). IsKnown u c.in-Shown.known) c.deref.ensures
    (subst (λ s. IsSought c.deref.result.now c.args.placement.now s) c.in-Shown.is c.in_ok-inferences.ensures.ok) in
    subst (λ (ks : List Known). All (IsKnown t) ks) (sym c.in_ok-push-in-Shown.ensures.items)
    (All-push (IsKnown t) c.self.inside.known.items c.in-Shown.known c.self.invariant known)

pub returns-in-Nothing-clause-err : goal.returns-in-Nothing-clause-err
returns-in-Nothing-clause-err g c =
    subst (λ (t : Test). IfErr c.by_list.result (λ f. f ≢ Memory → IsCandidateFault t f))
    (c.deref-in-Nothing.ensures ∙ (c.self.view_is ∙ c.look.ensures.value)) c.by_list.ensures.err
