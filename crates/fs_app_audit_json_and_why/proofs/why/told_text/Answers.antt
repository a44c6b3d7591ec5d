use Rattle.std.proofs.Common.{IfOk, string_bytes, subst, sym}
use Rattle.fs_app_test.specs.declared.said.Kind.{Kind}
use Rattle.fs_app_test.specs.SaidVerdicts.{IsTestedAs, witness_in}
use Rattle.fs_app_audit.proofs.Answered.{never_faulty}
use Rattle.fs_app_audit_json_and_why.specs.Why.{TellsAs}
use Rattle.fs_app_audit_json_and_why.proofs.AnsweredWhy.{why-memory-only}
use Rattle.fs_app_audit_json_and_why.proofs.why.told_text.Goals as goal

pub forbidden_text-requires-clause-tested : goal.forbidden_text-requires-clause-tested
forbidden_text-requires-clause-tested c = (
  string_bytes c.args.said.now.why,
  witness_in c.args.said.now.witness,
  subst (λ (k : Kind). IsTestedAs c.args.page.test.now k (string_bytes c.args.said.now.why) (witness_in c.args.said.now.witness)) c.in-Forbidden.is
      c.requires.tested,
)

pub unreachable-requires : goal.unreachable-requires
unreachable-requires c = absurd (never_faulty _ _ _ _ c.in-Faulty.is c.requires.tested)

pub returns-in-Allowed-clause-fault : goal.returns-in-Allowed-clause-fault
returns-in-Allowed-clause-fault c =
    why-memory-only c.args.page.bytes.now c.args.limits.nodes c.args.prices.now c.allowed_text.result c.allowed_text.ensures.err

pub returns-in-Forbidden-clause-told : goal.returns-in-Forbidden-clause-told
returns-in-Forbidden-clause-told c =
    let page = c.args.page in
    subst (λ (k : Kind). IfOk c.forbidden_text.result (λ text.
    TellsAs k page.test.now c.args.prices.now page.lines.now page.telling (string_bytes text))) (sym c.in-Forbidden.is) c.forbidden_text.ensures.told

pub returns-in-Allowed-clause-told : goal.returns-in-Allowed-clause-told
returns-in-Allowed-clause-told c =
    let page = c.args.page in
    subst (λ (k : Kind). IfOk c.allowed_text.result (λ text.
    TellsAs k page.test.now c.args.prices.now page.lines.now page.telling (string_bytes text))) (sym c.in-Allowed.is) c.allowed_text.ensures.told
