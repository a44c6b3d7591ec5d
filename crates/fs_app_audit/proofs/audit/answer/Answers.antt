use Rattle.std.proofs.Common.{string_bytes, subst}
use Rattle.std.specs.Arc.{arc_value}
use Rattle.std.proofs.lemmas.Result.{IfErr-weaker}
use Rattle.fs_app_test.specs.declared.said.Kind.{Kind}
use Rattle.fs_app_test.specs.SaidVerdicts.{IsTestedAs, witness_in}
use Rattle.fs_app_audit.specs.Audit.{of_anew}
use Rattle.fs_app_audit.proofs.Answered.{memory-audited, never_faulty}
use Rattle.fs_app_audit.proofs.audit.answer.Goals as goal

pub answer_in_place-requires-clause-tested : goal.answer_in_place-requires-clause-tested
answer_in_place-requires-clause-tested c = (
  string_bytes c.args.said.why,
  witness_in c.args.said.witness,
  subst (λ (k : Kind). IsTestedAs (arc_value c.args.own) k (string_bytes c.args.said.why) (witness_in c.args.said.witness)) c.in-Forbidden.is
      c.requires.tested,
)

pub answer_anew-requires-clause-tested : goal.answer_anew-requires-clause-tested
answer_anew-requires-clause-tested c = (
  string_bytes c.args.said.why,
  witness_in c.args.said.witness,
  subst (λ (k : Kind). IsTestedAs (arc_value c.args.own) k (string_bytes c.args.said.why) (witness_in c.args.said.witness)) c.in-Allowed.is
      c.requires.tested,
)

pub returns-in-Allowed-clause-fault : goal.returns-in-Allowed-clause-fault
returns-in-Allowed-clause-fault c =
    IfErr-weaker c.answer_anew.result _ _ (λ f h file priced. of_anew (h file priced)) c.answer_anew.ensures.fault

pub unreachable-requires : goal.unreachable-requires
unreachable-requires c = absurd (never_faulty _ _ _ _ c.in-Faulty.is c.requires.tested)

pub returns-in-Vacuous-clause-fault : goal.returns-in-Vacuous-clause-fault
returns-in-Vacuous-clause-fault c =
    memory-audited c.args.bytes.now c.args.limits.nodes c.args.prices c.answer_vacuous.result c.answer_vacuous.ensures.err
