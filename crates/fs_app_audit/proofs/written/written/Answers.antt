use Rattle.std.proofs.Common.{string_bytes, subst}
use Rattle.std.specs.Arc.{arc_value}
use Rattle.fs_app_test.specs.declared.said.Kind.{Kind}
use Rattle.fs_app_test.specs.SaidVerdicts.{IsTestedAs, witness_in}
use Rattle.fs_app_audit.proofs.written.written.Goals as goal

pub written_in_place-requires-clause-tested : goal.written_in_place-requires-clause-tested
written_in_place-requires-clause-tested c = (
  string_bytes c.args.said.why,
  witness_in c.args.said.witness,
  subst (λ (k : Kind). IsTestedAs (arc_value c.args.own) k (string_bytes c.args.said.why) (witness_in c.args.said.witness)) c.in-Forbidden.is
      c.requires.tested,
)
