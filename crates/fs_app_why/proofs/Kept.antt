-- An execution with some fences is one with others exactly where its order keeps what these order.
use Rattle.std.proofs.Common.{◌≡◌, ◌∙◌, ℕ, Bool, true, ◌||◌, not, List, length, ap, inl, inr, lit<, sym}
use Rattle.std.specs.Prelude.{Decides}
use Rattle.std.specs.List.{list_all}
use Rattle.std.proofs.lemmas.Bool.{and_from, and_parts, or_cases, or_left, or_right}
use Rattle.std.proofs.lemmas.List.Folds.{list_any_at}
use Rattle.fs_kinds.specs.declared.placement.Entry.{Entry}
use Rattle.fs_model.specs.declared.test.Test.{Test}
use Rattle.fs_model.specs.Allows.{Shows}
use Rattle.fs_model.specs.Execution.{Execution, pre_execution}
use Rattle.fs_model.specs.Fences.{fence_between, placed_between}
use Rattle.fs_model.specs.Numbers.{numbers_below, stands_before}
use Rattle.fs_model.specs.Operations.{PreExecution, operations, po}
use Rattle.fs_model.specs.Preserved.{Rule1, all_rules, ppo, rule}
use Rattle.fs_model.specs.Rules as unplaced
use Rattle.fs_model.specs.Source.{gmo, source_in}
use Rattle.fs_model.proofs.Ranges.{each_two_below, po_in_range}
use Rattle.fs_model_laws.proofs.NoPlacement.{joined}
use Rattle.fs_model_laws.proofs.PlacedPairs.{all_from, implied, implies_from}
use Rattle.fs_app_why.specs.Kept.{keeps_fence, keeps_fences}

module _ (t : Test) (e : Execution) (p q : List Entry) (shows : Shows t p e) where
  abbrev x : PreExecution
  x = pre_execution t e.traces

  abbrev before : ℕ → ℕ → Type 0
  before a b = stands_before (gmo x e.order) a b ≡ true

  kept : keeps_fences x q e.order ≡ true → (a b : ℕ) → ppo x q (source_in x e.order) a b ≡ true → before a b
  kept keeps a b h = elim (or_cases _ _ ((joined x q (source_in x e.order) a b).0 h)) [
    | inl own ↦ shows.execution.axioms.preserved a b ((joined x p (source_in x e.order) a b).1 (or_left _ _ own))
    | inr placed ↦ (
        let parts = and_parts (po x a b) (placed_between x q a b) placed in
        let there = po_in_range x a b parts.0 in
        implied _ _ (each_two_below (keeps_fence x q e.order) (length (operations x)) a b keeps there.0 there.1)
        (and_from (po x a b) (fence_between x q a b) parts.0
        (or_right (unplaced.fence_between x a b) (placed_between x q a b) parts.1)))
  ]

  shown : keeps_fences x q e.order ≡ true → Shows t q e
  shown keeps = record {
    execution = record {
      harts = shows.execution.harts;
      runs = shows.execution.runs;
      axioms = record {
        once = shows.execution.axioms.once;
        preserved = kept keeps;
        values = shows.execution.axioms.values;
        atomic = shows.execution.axioms.atomic;
      };
    };
    outcome = shows.outcome;
  }

  keeps : Shows t q e → keeps_fences x q e.order ≡ true
  keeps h =
      all_from (λ a. list_all (keeps_fence x q e.order a) (numbers_below (length (operations x)))) (λ a.
      all_from (keeps_fence x q e.order a) (λ b.
      implies_from _ _ (λ fenced. h.execution.axioms.preserved a b
      (list_any_at (rule x q (source_in x e.order) a b) all_rules 3 Rule1 (lit< tt) fenced)))
      (numbers_below (length (operations x)))) (numbers_below (length (operations x)))

  pub kept_where_shown : Decides (keeps_fences x q e.order) (Shows t q e)
  kept_where_shown = (shown, keeps)

-- where a fence orders two operations, the order is asked
pub asked_order : (ruled fenced said stands : Bool) → ruled ≡ true → ruled ≡ fenced → said ≡ stands
    → said ≡ (not fenced || stands)
asked_order ruled fenced said stands h is e = e ∙ ap (λ f. not f || stands) (sym h ∙ is)
