use Rattle.std.proofs.Common.{◌≡◌, ◌⊎◌, ◌≤◌, Bool, true, false, inl, inr}
use Rattle.std.proofs.lemmas.Bool.{false≢true}
use Rattle.fs_model.specs.declared.test.Test.{Test}
use Rattle.fs_cert_evidence.specs.Inferences.{cycles_of}
use Rattle.fs_cert_evidence.specs.Certificate.{Cycles}
use Rattle.fs_judge_outcomes.specs.Vacuous.{IsVacuous, HasManyRuns}
use Rattle.fs_app_test.specs.SaidVerdicts.{IsSettled}
use Rattle.fs_app_test.specs.Words.{contradictions_in}
use Rattle.fs_app_test.proofs.said_of_verdict.said_forbidden.Goals as goal

serious : (t : Test) (cycles : Cycles) (settled : Bool) → IsSettled t settled → (settled ≡ true) ⊎ (1 ≤ contradictions_in cycles)
    → (IsVacuous t → ⊥) ⊎ (HasManyRuns t × (1 ≤ contradictions_in cycles))
serious t cycles true known either = inl known
serious t cycles false known either = elim either [ inl e ↦ absurd (false≢true e) | inr some ↦ inr (known, some) ]

pub returns-clause-ok : goal.returns-clause-ok
returns-clause-ok c = λ t forbidden shows settled. record {
  forbidden = forbidden;
  cycles = cycles_of c.args.cycles.now;
  shows = shows;
  serious = serious t (cycles_of c.args.cycles.now) c.args.is_settled settled (c.is_left_open.ensures.no c.if-is_left_open.false);
  shown = c.in_ok-forbidden_words.ensures;
}
