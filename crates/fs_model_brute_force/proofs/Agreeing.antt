-- The rules ask for the sources of their two operations alone.
use Rattle.std.proofs.Common.{◌≡◌, ℕ, Option, List, [], ◌∷◌, length, map, refl}
use Rattle.std.specs.List.{list_any}
use Rattle.fs_kinds.specs.declared.placement.Entry.{Entry}
use Rattle.fs_model.specs.Numbers.{numbers_below}
use Rattle.fs_model.specs.Operations.{PreExecution, operations}
use Rattle.fs_model.specs.Source.{source_in}
use Rattle.fs_model.specs.Preserved.{Rule, Rule1, Rule2, Rule3, Rule4, Rule5, Rule6, Rule7, Rule8, Rule9, Rule10}
use Rattle.fs_model.specs.Preserved.{Rule11, Rule12, Rule13, rule, case_of, ppo, all_rules}
use Rattle.fs_model_axioms.specs.Ordered.{source_at}
use Rattle.fs_model_axioms.proofs.Sources.{source_of}

module _ (x : PreExecution) (p : List Entry) (rf other : ℕ → Option ℕ) (a b : ℕ) (first : rf a ≡ other a) (second : rf b ≡ other b) where
  case_agrees : (r : Rule) → case_of x p rf a b r ≡ case_of x p other a b r
  case_agrees Rule1 = refl
  case_agrees Rule2 = rw (first, second) refl
  case_agrees Rule3 = rw second refl
  case_agrees Rule4 = refl
  case_agrees Rule5 = refl
  case_agrees Rule6 = refl
  case_agrees Rule7 = refl
  case_agrees Rule8 = refl
  case_agrees Rule9 = refl
  case_agrees Rule10 = refl
  case_agrees Rule11 = refl
  case_agrees Rule12 = rw second refl
  case_agrees Rule13 = refl

  some_agree : (rs : List Rule) → list_any (rule x p rf a b) rs ≡ list_any (rule x p other a b) rs
  some_agree [] = refl
  some_agree (r ∷ rs) = rw (case_agrees r, some_agree rs) refl

  pub ppo_agrees : ppo x p rf a b ≡ ppo x p other a b
  ppo_agrees = some_agree all_rules

-- those of an order, from the list of its sources
pub ppo_at : (x : PreExecution) (p : List Entry) (listed : List ℕ) (sources : List (Option ℕ)) (n a b : ℕ)
    → n ≡ length (operations x) → sources ≡ map (source_in x listed) (numbers_below n)
    → ppo x p (source_at sources) a b ≡ ppo x p (source_in x listed) a b
ppo_at x p listed sources n a b many e =
    ppo_agrees x p (source_at sources) (source_in x listed) a b (source_of x listed sources n a many e)
    (source_of x listed sources n b many e)
