-- Where an order breaks an axiom first.
use Rattle.std.specs.Prelude.{ℕ, zero, suc, Bool, false, Option, option_map, unwrap_or, is_some, List, length, slice_get}
use Rattle.std.specs.List.{find}
use Rattle.fs_kinds.specs.declared.placement.Entry.{Entry}
use Rattle.fs_model.specs.Numbers.{numbers_below}
use Rattle.fs_model.specs.Operations.{PreExecution, accesses}
use Rattle.fs_model.specs.Preserved.{all_rules, rule}
use Rattle.fs_model.specs.Reasons.{is_against_rule, is_against_atomicity}

-- a comes before b by the rule of this number
abbrev pub is_before : PreExecution → List Entry → (ℕ → Option ℕ) → (n a b : ℕ) → Bool
is_before x p rf zero a b = false
is_before x p rf (suc n) a b = unwrap_or (option_map (rule x p rf a b) (slice_get all_rules n)) false

module _ (x : PreExecution) (p : List Entry) (order : List ℕ) where
  -- the least b that rule n puts after a, but not the order
  abbrev pub rule_broken_by : (n a : ℕ) → Option ℕ
  rule_broken_by n a = find (is_against_rule x p order n a) (numbers_below (length (accesses x)))

  -- the least a with such a b
  abbrev pub rule_broken_after : (n : ℕ) → Option ℕ
  rule_broken_after n = find (λ a. is_some (rule_broken_by n a)) (numbers_below (length (accesses x)))

-- the least w that is paired with r against atomicity
abbrev pub atomicity_broken_by : PreExecution → List ℕ → ℕ → Option ℕ
atomicity_broken_by x order r = find (is_against_atomicity x order r) (numbers_below (length (accesses x)))
