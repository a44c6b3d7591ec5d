-- The manual's groups of rules, without placed fences.
use Rattle.std.specs.Prelude.{ℕ, Bool, ◌||◌, Option, []}
use Rattle.fs_model.specs.Operations.{PreExecution}
use Rattle.fs_model.specs.Preserved.{rule, Rule1, Rule2, Rule3, Rule4, Rule5, Rule6, Rule7, Rule8, Rule9, Rule10, Rule11, Rule12, Rule13}

module _ (x : PreExecution) (rf : ℕ → Option ℕ) (a b : ℕ) where
  -- overlapping addresses
  abbrev pub by_address : Bool
  by_address = rule x [] rf a b Rule1 || (rule x [] rf a b Rule2 || rule x [] rf a b Rule3)

  -- explicit synchronization
  abbrev pub by_synchronization : Bool
  by_synchronization =
      rule x [] rf a b Rule4 || (rule x [] rf a b Rule5 || (rule x [] rf a b Rule6 || (rule x [] rf a b Rule7 || rule x [] rf a b Rule8)))

  -- syntactic dependencies
  abbrev pub by_dependency : Bool
  by_dependency = rule x [] rf a b Rule9 || (rule x [] rf a b Rule10 || rule x [] rf a b Rule11)

  -- pipeline dependencies
  abbrev pub by_pipeline : Bool
  by_pipeline = rule x [] rf a b Rule12 || rule x [] rf a b Rule13
