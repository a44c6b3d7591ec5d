use Rattle.std.proofs.Common.{◌≡◌, ℕ, List, Some, refl, string_bytes, subst, ap, ◌∙◌}
use Rattle.std.specs.Arc.{arc_value}
use Rattle.fs_model.specs.declared.test.Test.{Test}
use Rattle.fs_model.specs.declared.step.Step.{Step}
use Rattle.fs_cert_evidence.specs.Trees.{AreItsRuns}
use Rattle.fs_judge_outcomes.specs.Vacuous.{IsVacuous, HasManyRuns}
use Rattle.fs_judge_outcomes.proofs.Forbidden.{vacuous_forbids}
use Rattle.fs_app_test.specs.Words.{never_in_outcome, never_words}
use Rattle.fs_app_test.proofs.vacuous.vacuous.Goals as goal

pub returns-in_ok-vacuous_text-in-Some-true-clause-ok : goal.returns-in_ok-vacuous_text-in-Some-true-clause-ok
returns-in_ok-vacuous_text-in-Some-true-clause-ok c =
    let t = arc_value c.args.test.now in
    let text = string_bytes c.in_ok-vacuous_text-in-Some-true.field-0 in
    let same = c.requires.same in
    let found = c.in-Some-true.is ∙ ap (λ b. Some b) c.in-Some-true.field-0-test in
    let vacuous : IsVacuous t = subst IsVacuous same (c.in_ok-is_vacuous.ensures.yes found) in
    let said : (runs : ℕ → List (List Step)) × AreItsRuns t runs × (text ≡ never_words t (never_in_outcome t runs)) =
    subst (λ (u : Test). (runs : ℕ → List (List Step)) × AreItsRuns u runs
    × (text ≡ never_words u (never_in_outcome u runs))) same c.in_ok-vacuous_text-in-Some-true.ensures in
    record {
      kind = refl;
      why = record {
        vacuous = vacuous;
        forbidden = vacuous_forbids t c.requires.listable vacuous;
        runs = said.0;
        all = said.1;
        shown = said.2;
      };
      alone = refl;
    }

pub returns-in-Some-false-clause-ok : goal.returns-in-Some-false-clause-ok
returns-in-Some-false-clause-ok c =
    let found = c.in-Some-false.is ∙ ap (λ b. Some b) c.in-Some-false.field-0-test in
    subst (λ (t : Test). IsVacuous t → ⊥) c.requires.same (c.in_ok-is_vacuous.ensures.no found)

pub returns-in-None-clause-ok : goal.returns-in-None-clause-ok
returns-in-None-clause-ok c = subst HasManyRuns c.requires.same (c.in_ok-is_vacuous.ensures.open c.in-None.is)
