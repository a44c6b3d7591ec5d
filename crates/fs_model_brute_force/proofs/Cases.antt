-- The rules said of lists of operations and runs are those of an execution.
use Rattle.std.proofs.Common.{◌≡◌, ◌∙◌, ℕ, ◌-◌, ◌≤◌, Bool, true, false, ◌&&◌, Option, None, Some, List, [], ◌∷◌, refl, sym, ap}
use Rattle.std.specs.List.{list_any, range_with_len}
use Rattle.std.specs.Prelude.{option_map, unwrap_or, slice_get}
use Rattle.std.proofs.lemmas.Option.{slice_get_past}
use Rattle.fs_kinds.specs.declared.placement.Entry.{Entry}
use Rattle.fs_model.specs.declared.operation.Operation.{Operation}
use Rattle.fs_model.specs.declared.step.Step.{Step}
use Rattle.fs_model.specs.Operations.{PreExecution, operations, precedes}
use Rattle.fs_model.specs.Preserved.{Rule, Rule1, Rule2, Rule3, Rule4, Rule5, Rule6, Rule7, Rule8, Rule9, Rule10}
use Rattle.fs_model.specs.Preserved.{Rule11, Rule12, Rule13, rule, case_of, ppo, all_rules}
use Rattle.fs_model_axioms.specs.Among.{at}
use Rattle.fs_model_axioms.specs.Ordered.{source_at}
use Rattle.fs_model_axioms.proofs.Counted.{count_accesses}
use Rattle.fs_model_brute_force.specs.Among.{case_among, rule_among, is_rule}

case_same : (x : PreExecution) (p : List Entry) (sources : List (Option ℕ)) (a b : ℕ) (r : Rule)
    → case_among (operations x) x.traces p sources a b r ≡ case_of x p (source_at sources) a b r
case_same x p sources a b Rule1 = refl
case_same x p sources a b Rule2 = rw (count_accesses x) refl
case_same x p sources a b Rule3 = refl
case_same x p sources a b Rule4 = refl
case_same x p sources a b Rule5 = refl
case_same x p sources a b Rule6 = refl
case_same x p sources a b Rule7 = refl
case_same x p sources a b Rule8 = refl
case_same x p sources a b Rule9 = refl
case_same x p sources a b Rule10 = refl
case_same x p sources a b Rule11 = refl
case_same x p sources a b Rule12 = rw (count_accesses x) refl
case_same x p sources a b Rule13 = refl

case_found : (x : PreExecution) (p : List Entry) (sources : List (Option ℕ)) (a b : ℕ) (found : Option Rule)
    → (precedes (at (operations x) a) (at (operations x) b)
    && unwrap_or (option_map (case_among (operations x) x.traces p sources a b) found) false)
    ≡ unwrap_or (option_map (rule x p (source_at sources) a b) found) false
case_found x p sources a b None = and-false (precedes (at (operations x) a) (at (operations x) b))
  where
    and-false : (c : Bool) → (c && false) ≡ false
    and-false true = refl
    and-false false = refl
case_found x p sources a b (Some r) =
    ap (λ c. precedes (at (operations x) a) (at (operations x) b) && c) (case_same x p sources a b r)

pub among_is_rule : (x : PreExecution) (listed : List Operation) (runs : List (List Step)) (p : List Entry)
    (sources : List (Option ℕ)) (a b n : ℕ) → listed ≡ operations x → x.traces ≡ runs
    → rule_among listed runs p sources a b n ≡ is_rule x p (source_at sources) a b n
among_is_rule x listed runs p sources a b n same of =
    ap (λ l. rule_among l runs p sources a b n) same
    ∙ (ap (λ u. rule_among (operations x) u p sources a b n) (sym of) ∙ case_found x p sources a b (slice_get all_rules (n - 1)))

same_any : {X : Type 0} (f g : X → Bool) → ((z : X) → f z ≡ g z) → (zs : List X) → list_any f zs ≡ list_any g zs
same_any f g same [] = refl
same_any f g same (z ∷ zs) = rw (same z, same_any f g same zs) refl

-- and so is their sum
pub any_among : (x : PreExecution) (listed : List Operation) (runs : List (List Step)) (p : List Entry)
    (sources : List (Option ℕ)) (a b : ℕ) → listed ≡ operations x → x.traces ≡ runs
    → list_any (rule_among listed runs p sources a b) (range_with_len 1 13) ≡ ppo x p (source_at sources) a b
any_among x listed runs p sources a b same of =
    same_any (rule_among listed runs p sources a b) (is_rule x p (source_at sources) a b)
    (λ n. among_is_rule x listed runs p sources a b n same of) (range_with_len 1 13)

-- there are 13 rules
pub no_rule : (n : ℕ) → 13 ≤ n → slice_get all_rules n ≡ None
no_rule n past = slice_get_past all_rules n past
