use Rattle.std.proofs.Common.{ℕ, List, string_bytes, sym, subst}
use Rattle.std.specs.Arc.{arc_value}
use Rattle.std.proofs.lemmas.Result.{IfErr-weaker}
use Rattle.fs_model.specs.declared.test.Test.{Test}
use Rattle.fs_app_place_and_order.proofs.Faults.{IfErr-handed}
use Rattle.fs_app_test.specs.declared.said.Kind.{Kind}
use Rattle.fs_app_test.specs.declared.said.Kind.TheVariants.{Vacuous}
use Rattle.fs_app_test.specs.SaidVerdicts.{IsTestedAs, witness_in}
use Rattle.fs_app_audit.specs.Audit.{of_anew}
use Rattle.fs_app_audit.specs.declared.asked.Purpose.TheVariants.{Advise}
use Rattle.fs_app_audit.proofs.Answered.{never_faulty}
use Rattle.fs_app_audit.proofs.FirstFaults.{audit-written}
use Rattle.fs_app_audit_json_and_why.proofs.answered.answer.Goals as goal

pub returns-in_err-said-clause-fault : goal.returns-in_err-said-clause-fault
returns-in_err-said-clause-fault c =
    IfErr-handed c.from_residual.result _ _ c.from_residual.ensures.1
    (λ given priced. of_anew (audit-written Advise _ given c.args.limits.nodes c.args.prices priced _ c.requires.reads _ c.in_err-said.ensures.err))

pub answer_in_place-requires-clause-tested : goal.answer_in_place-requires-clause-tested
answer_in_place-requires-clause-tested c = (
  string_bytes c.in_ok-said.said.why,
  witness_in c.in_ok-said.said.witness,
  subst (λ (k : Kind). IsTestedAs (arc_value c.args.own) k (string_bytes c.in_ok-said.said.why) (witness_in c.in_ok-said.said.witness)) c.in-Forbidden.is
      c.in_ok-said.ensures.ok,
)

pub answer_anew-requires-clause-tested : goal.answer_anew-requires-clause-tested
answer_anew-requires-clause-tested c = (
  string_bytes c.in_ok-said.said.why,
  witness_in c.in_ok-said.said.witness,
  subst (λ (k : Kind). IsTestedAs (arc_value c.args.own) k (string_bytes c.in_ok-said.said.why) (witness_in c.in_ok-said.said.witness)) c.in-Allowed.is
      c.in_ok-said.ensures.ok,
)

pub answer_vacuous-requires-clause-tested : goal.answer_vacuous-requires-clause-tested
answer_vacuous-requires-clause-tested c = (
  witness_in c.in_ok-said.said.witness,
  subst (λ (t : Test). IsTestedAs t Vacuous c.as_str.result.now (witness_in c.in_ok-said.said.witness)) (sym c.deref.ensures)
      (subst (λ (why : List ℕ). IsTestedAs (arc_value c.args.own) Vacuous why (witness_in c.in_ok-said.said.witness)) (sym c.as_str.ensures.value)
      (subst (λ (k : Kind). IsTestedAs (arc_value c.args.own) k (string_bytes c.in_ok-said.said.why) (witness_in c.in_ok-said.said.witness)) c.in-Vacuous.is
      c.in_ok-said.ensures.ok)),
)

pub returns-in-Allowed-clause-fault : goal.returns-in-Allowed-clause-fault
returns-in-Allowed-clause-fault c =
    IfErr-weaker c.answer_anew.result _ _ (λ f h given priced. of_anew (h given priced)) c.answer_anew.ensures.fault

pub unreachable-requires : goal.unreachable-requires
unreachable-requires c = absurd (never_faulty _ _ _ _ c.in-Faulty.is c.in_ok-said.ensures.ok)

pub returns-in-Vacuous-clause-fault : goal.returns-in-Vacuous-clause-fault
returns-in-Vacuous-clause-fault c =
    IfErr-weaker c.answer_vacuous.result _ _ (λ f h given priced. h given priced c.args.limits.nodes) c.answer_vacuous.ensures.fault
