-- Tests that are the same but for where the parts of their conditions lie have the same executions.
use Rattle.std.proofs.Common.{◌≡◌, ◌↔◌, List, ap, sym, subst, ◌∙◌}
use Rattle.fs_kinds.specs.declared.placement.Entry.{Entry}
use Rattle.fs_model.specs.declared.test.Test.{Test}
use Rattle.fs_model.specs.Test.{IsSame}
use Rattle.fs_model.specs.Fenced.{fenced}
use Rattle.fs_model.specs.Allows.{Allows, Shows, no_fences}
use Rattle.fs_model.specs.Execution.{Execution, pre_execution}
use Rattle.fs_model.specs.Shows.{holds, is_outcome, final_register, final_word, has_outcome}
use Rattle.fs_model_laws.specs.Fenced.{AllowsAsRead}
use Rattle.fs_model_laws.proofs.FencedLaw.{allows_alike}

-- the test u with the condition of t
abbrev with_condition_of : Test → Test → Test
with_condition_of t u = record u { condition = t.condition }

same_whole : (t u : Test) → IsSame t u → t ≡ with_condition_of t u
same_whole t u s =
    ap (λ x. record t { name = x }) s.name
    ∙ ap (λ x. record t { name = u.name; codes = x }) s.codes
    ∙ ap (λ x. record t { name = u.name; codes = u.codes; starts = x }) s.starts
    ∙ ap (λ x. record u { starts = u.starts; locations = x; quantifier = t.quantifier; condition = t.condition }) s.locations
    ∙ ap (λ x. record u { quantifier = x; condition = t.condition }) s.quantifier

turned : (t u : Test) → IsSame t u → IsSame u t
turned t u s =
    record {
      name = sym s.name;
      codes = sym s.codes;
      starts = sym s.starts;
      locations = sym s.locations;
      quantifier = sym s.quantifier;
      condition = sym s.condition;
    }

outcome_of : (t u : Test) (e : Execution) → IsSame t u → has_outcome (with_condition_of t u) e ≡ has_outcome u e
outcome_of t u e s =
    ap (λ c. is_outcome u.quantifier
    (holds (final_register u e.traces) (final_word (pre_execution u e.traces) e.order) c)) s.condition

shown_same : (t u : Test) (p : List Entry) (e : Execution) → IsSame t u → Shows t p e → Shows u p e
shown_same t u p e s h =
    let here = subst (λ v. Shows v p e) (same_whole t u s) h in
    let is = here.execution in
    record {
      execution = record { harts = is.harts; runs = is.runs; axioms = is.axioms };
      outcome = sym (outcome_of t u e s) ∙ here.outcome;
    }

pub shows_same : (t u : Test) (p : List Entry) (e : Execution) → IsSame t u → Shows t p e ↔ Shows u p e
shows_same t u p e s = (shown_same t u p e s, shown_same u t p e (turned t u s))

allowed_same : (t u : Test) → IsSame t u → Allows t (no_fences t) → Allows u (no_fences u)
allowed_same t u s h =
    let here = subst (λ q. Shows t q h.0) (ap no_fences (same_whole t u s)) h.1 in
    (h.0, shown_same t u (no_fences u) h.0 s here)

pub allows_as_read : (t : Test) (p : List Entry) → AllowsAsRead t p
allows_as_read t p u s = (
  λ h. (allows_alike t p).0 (allowed_same u (fenced t p) s h),
  λ h. allowed_same (fenced t p) u (turned u (fenced t p) s) ((allows_alike t p).1 h),
)
