-- What a rule preserves is in preserved program order.
use Rattle.std.proofs.Common.{◌≡◌, ℕ, Bool, true, Option, List, lit<}
use Rattle.std.specs.List.{list_any}
use Rattle.std.proofs.lemmas.Bool.{and_from}
use Rattle.std.proofs.lemmas.List.Folds.{list_any_at}
use Rattle.fs_kinds.specs.declared.placement.Entry.{Entry}
use Rattle.fs_model.specs.Operations.{PreExecution, po}
use Rattle.fs_model.specs.Preserved.{Rule, Rule1, Rule2, Rule3, Rule4, Rule5, Rule6, Rule7, Rule8, Rule9, Rule10, Rule11, Rule12, Rule13, all_rules, case_of, rule, ppo}

-- what holds of a rule holds of some rule
pub any_there : (f : Rule → Bool) (r : Rule) → f r ≡ true → list_any f all_rules ≡ true
any_there f Rule1 e = list_any_at f all_rules 0 Rule1 (lit< tt) e
any_there f Rule2 e = list_any_at f all_rules 1 Rule1 (lit< tt) e
any_there f Rule3 e = list_any_at f all_rules 2 Rule1 (lit< tt) e
any_there f Rule4 e = list_any_at f all_rules 3 Rule1 (lit< tt) e
any_there f Rule5 e = list_any_at f all_rules 4 Rule1 (lit< tt) e
any_there f Rule6 e = list_any_at f all_rules 5 Rule1 (lit< tt) e
any_there f Rule7 e = list_any_at f all_rules 6 Rule1 (lit< tt) e
any_there f Rule8 e = list_any_at f all_rules 7 Rule1 (lit< tt) e
any_there f Rule9 e = list_any_at f all_rules 8 Rule1 (lit< tt) e
any_there f Rule10 e = list_any_at f all_rules 9 Rule1 (lit< tt) e
any_there f Rule11 e = list_any_at f all_rules 10 Rule1 (lit< tt) e
any_there f Rule12 e = list_any_at f all_rules 11 Rule1 (lit< tt) e
any_there f Rule13 e = list_any_at f all_rules 12 Rule1 (lit< tt) e

-- a case of a rule, in program order
pub by_rule : (x : PreExecution) (p : List Entry) (src : ℕ → Option ℕ) (a b : ℕ) (r : Rule) → po x a b ≡ true → case_of x p src a b r ≡ true
    → ppo x p src a b ≡ true
by_rule x p src a b r before holds = any_there (rule x p src a b) r (and_from _ _ before holds)
