use Rattle.std.proofs.Common.{◌≡◌, ◌≢◌, ◌∙◌, true, IfErr, ap, sym, subst}
use Rattle.std.specs.Arc.{arc_value}
use Rattle.std.proofs.lemmas.Result.{IfOk-weaker}
use Rattle.fs_kinds.specs.declared.fault.Fault.TheVariants.{Memory}
use Rattle.fs_kinds.specs.PriceTable.{cost}
use Rattle.fs_model.specs.declared.test.Test.{Test}
use Rattle.fs_model.specs.Allows.{Allows}
use Rattle.fs_model.specs.Slots.{slots}
use Rattle.fs_cert_evidence.specs.CandidateFaults.{IsCandidateFault}
use Rattle.fs_app_audit.specs.Priced.{Priced}
use Rattle.fs_app_audit.specs.Audit.{costs_everywhere}
use Rattle.fs_app_audit.proofs.Chosen.{is-kept}
use Rattle.fs_app_audit.proofs.findings.is_kept.Goals as goal

pub forbids_too-requires-clause-slots : goal.forbids_too-requires-clause-slots
forbids_too-requires-clause-slots c = c.requires.slots ∙ ap slots (sym c.requires.same)

pub forbids_too-requires-clause-first : goal.forbids_too-requires-clause-first
forbids_too-requires-clause-first c =
    subst (λ (t : Test). Allows t c.args.first.now.placement → ⊥) (sym c.requires.same) c.requires.first.forbids

pub returns-then-cost-clause-yes : goal.returns-then-cost-clause-yes
returns-then-cost-clause-yes c =
    let prices = (arc_value c.args.question.now).prices in
    let behind : c.behind-question.inside.prices ≡ prices = ap (λ (q : Priced). q.prices) (c.behind-question.view_is ∙ c.deref.ensures) in
    let each : costs_everywhere prices c.args.own.now ≡ true =
    ap (λ t. costs_everywhere t c.args.own.now) (sym behind) ∙ sym c.costs_everywhere.ensures ∙ c.if-costs_everywhere.true in
    let same : cost prices c.args.first.now.placement ≡ cost prices c.args.own.now =
    sym c.requires.cost ∙ sym c.if-cost.true ∙ c.cost.ensures ∙ ap (λ t. cost t c.args.own.now) behind in
    IfOk-weaker c.forbids_too.result _ _
    (λ is h yes. is-kept _ _ _ _ each c.requires.first c.requires.slots c.requires.offered same
    (subst (λ (t : Test). Allows t c.args.own.now → ⊥) c.requires.same (h yes))) c.forbids_too.ensures.yes

pub returns-then-cost-clause-err : goal.returns-then-cost-clause-err
returns-then-cost-clause-err c =
    subst (λ (t : Test). IfErr c.forbids_too.result (λ f. f ≢ Memory → IsCandidateFault t f)) c.requires.same c.forbids_too.ensures.err

pub returns-then-cost-clause-no : goal.returns-then-cost-clause-no
returns-then-cost-clause-no c =
    IfOk-weaker c.forbids_too.result _ _
    (λ is h no kept. kept.1.forbids (subst (λ (t : Test). Allows t c.args.own.now) c.requires.same (h no))) c.forbids_too.ensures.no
