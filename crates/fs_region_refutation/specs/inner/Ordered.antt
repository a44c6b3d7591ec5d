-- What the rules ask of sources.
use Rattle.std.specs.Prelude.{◌≡◌, ℕ, Bool, false, ◌&&◌, ◌||◌, not, Option, None, Some, is_some, option_map}
use Rattle.fs_model.specs.Numbers.{is_same}
use Rattle.fs_model.specs.Operations.{PreExecution, operation, po, is_load, is_store, is_amo_or_sc}
use Rattle.fs_ppo.specs.Rules.{numbered_rule}
use Rattle.fs_cert_evidence.specs.Regions.{Region, same_source}
use Rattle.fs_cert_evidence.specs.Musts.{number_of, source_number}
use Rattle.fs_cert_evidence.specs.Trees.{is_name}
use Rattle.fs_region_refutation.specs.declared.source.Source.{Source}
use Rattle.fs_region_refutation.specs.declared.source.Source.TheVariants.{Initial, From}
use Rattle.fs_region_refutation.specs.declared.rules.Returned.{Returned}
use Rattle.fs_region_refutation.specs.Alone.{RunOf, execution_of, source_of}

-- the number that rules see of what is known of a source
abbrev pub number_from : RunOf → Region → Option Source → Option ℕ
number_from run region source =
    option_map (source_number run.test region (execution_of run)) (option_map source_of source)

-- a name that neither the run nor the test has
abbrev pub is_unnamed : RunOf → Source → Bool
is_unnamed run Initial = false
is_unnamed run (From name) = not (is_some (number_of (execution_of run) name)) && not (is_name run.test name)

-- the numbers of both are the same
abbrev pub count_as_one : RunOf → Source → Source → Bool
count_as_one run first second =
    same_source (source_of first) (source_of second) || is_unnamed run first && is_unnamed run second

-- the source is an operation of this number; or it isn't known, or is none of a hart
abbrev pub IsOwn : PreExecution → Option ℕ → Option ℕ → Type 0
IsOwn x source None = (m : ℕ) → source ≡ Some m → (operation x m).hart ≡ None
IsOwn x source (Some m) = source ≡ Some m

-- what a and b return from, as far as rules look at it
pub record Returns (x : PreExecution) (rf : ℕ → Option ℕ) (a b : ℕ) (returned : Returned) : Type 0 where
  pub same : is_same (rf a) (rf b) ≡ returned.are_same
  pub store : IsOwn x (rf b) returned.store

-- what rule 3 asks besides the source of b
abbrev pub loads_after_amo_or_sc : PreExecution → ℕ → ℕ → Bool
loads_after_amo_or_sc x a b = po x a b && (is_amo_or_sc x a && is_load x b)

-- what rule 12 asks besides that b returns from m; rules 9 and 10 are dependencies
abbrev pub passes_through : PreExecution → (ℕ → Option ℕ) → ℕ → ℕ → ℕ → Bool
passes_through x rf a m b =
    po x m b && (is_store x m && (is_load x b && (numbered_rule 9 x rf a m || numbered_rule 10 x rf a m)))
