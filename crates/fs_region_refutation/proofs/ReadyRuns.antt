-- A run made ready, and what rules find in it.
use Rattle.std.proofs.Common.{◌≡◌, ℕ, ◌≤◌, Bool, Option, Some, option_and_then, option_map, List, [], map, length, refl, sym, ◌∙◌, ap, subst, arith}
use Rattle.std.specs.List.{position}
use Rattle.fs_kinds.specs.declared.placement.Entry.{Entry}
use Rattle.fs_kinds.specs.declared.reason.OperationName.{OperationName as Name}
use Rattle.fs_instr.specs.declared.instr.Instr.{Instr}
use Rattle.fs_model.specs.declared.operation.Operation.{Operation}
use Rattle.fs_model.specs.declared.step.Step.{Step}
use Rattle.fs_model.specs.declared.test.Test.{Test}
use Rattle.fs_model.specs.Test.{IsBounded}
use Rattle.fs_model.specs.Execution.{IsTrace, code_of, initial_words}
use Rattle.fs_model.specs.Numbers.{is_same, numbers_below}
use Rattle.fs_model.specs.Operations.{PreExecution, operations, steps_of}
use Rattle.fs_model.specs.Preserved.{Rule, Rule8, rule}
use Rattle.fs_hart.specs.Steps.{steps_in}
use Rattle.fs_hart.proofs.Forward.{traces_short}
use Rattle.fs_cand.specs.declared.candidate.Candidate.{Candidate}
use Rattle.fs_cand.specs.Candidates.{runs_of}
use Rattle.fs_ppo.specs.Rules.{numbered_rule}
use Rattle.fs_verdict_laws.specs.Local.{place_of}
use Rattle.fs_cert_evidence.specs.Regions.{Region}
use Rattle.fs_cert_evidence.specs.Musts.{alone, holds_of, is_rule, known_source, number_of, source_number, traces_of}
use Rattle.fs_verdict_laws.proofs.Alone.{own_steps, number_named}
use Rattle.fs_region_refutation.specs.declared.rules.Returned.{Returned}
use Rattle.fs_region_refutation.specs.declared.source.Sourced.{Sourced}
use Rattle.fs_region_refutation.specs.Alone.{RunOf, Knows, execution_of}
use Rattle.fs_region_refutation.specs.inner.Ordered.{IsOwn, Returns, number_from}
use Rattle.fs_region_refutation.specs.inner.Tables.{IsAlone, IsReady, is_at, listed_at, name_at, position_in}
use Rattle.fs_region_refutation.proofs.Accesses.{few_alone}
use Rattle.fs_region_refutation.proofs.AskedRuns.{plain}
use Rattle.fs_region_refutation.proofs.Positions.{listed, no_number, no_place, number_among, number_is}

module _ (t : Test) (hart : ℕ) (run : List Step) (c : Candidate) (is : IsAlone t hart run c) where
  pub runs_are : runs_of c (initial_words t) ≡ alone t hart run
  runs_are = ap {B = PreExecution} (λ traces. record { traces = traces; words = initial_words t }) is.traces

  pub own_run : steps_of (steps_in c.traces) hart ≡ run
  own_run = ap (λ traces. steps_of traces hart) is.traces ∙ own_steps t hart run is.low

  operations_are : c.operations ≡ operations (alone t hart run)
  operations_are = is.made.operations ∙ ap operations runs_are

  -- ---- making it ready

  module _ (bounded : IsBounded t) (whole : IsTrace t hart run) where
    pub short_run : length run ≤ 32
    short_run = traces_short t hart run bounded is.low whole

    pub few_operations : length c.operations ≤ 40
    few_operations =
        let same = ap (λ (os : List Operation). length os) operations_are in
        let few = few_alone t hart run short_run bounded.locations in
        omega (arith, same, few)

    pub ready : (code : List Instr) (steps : List Step) (os : List Operation) (places numbers : List (Option ℕ)) → code ≡ code_of t hart
        → steps ≡ run → os ≡ c.operations → places ≡ map (place_of steps) (numbers_below (length code))
        → numbers ≡ map (λ at. position (λ p. is_same p (Some at)) (map (position_in hart steps) os)) (numbers_below (length code))
        → IsReady t hart c places numbers
    ready code steps os places numbers coded stepped made placed numbered = record {
      alone = subst (λ (ss : List Step). IsAlone t hart ss c) (sym own_run) is;
      tables = record {
        placed = λ at.
            ap (λ (table : List (Option ℕ)). listed_at table at) placed
            ∙ listed (place_of steps) (length code) at (λ past. ap (λ (ss : List Step). place_of ss at) stepped ∙ no_place t hart run whole at (past_code past))
            ∙ ap (λ (ss : List Step). place_of ss at) (stepped ∙ sym own_run);
        numbered = λ at.
            ap (λ (table : List (Option ℕ)). listed_at table at) numbered
            ∙ listed (λ at. position (λ p. is_same p (Some at)) (map (position_in hart steps) os)) (length code) at (λ past.
            number_among hart at steps os ∙ ap (λ (ss : List Step). position (is_at hart ss at) os) stepped
            ∙ no_number t hart run whole at (past_code past) os)
            ∙ number_among hart at steps os
            ∙ ap (λ (ss : List Step). position (is_at hart ss at) os) (stepped ∙ sym (own_steps t hart run is.low))
            ∙ ap (λ (all : List Operation). position (is_at hart (steps_of (traces_of t hart run) hart) at) all) (made ∙ operations_are)
            ∙ number_is (alone t hart run) hart at
            ∙ ap (λ (ss : List Step). number_of (alone t hart ss) (name_at hart at)) (sym own_run);
      };
    }
      where
        past_code : {at : ℕ} → length code ≤ at → length (code_of t hart) ≤ at
        past_code past = let same = ap (λ (is : List Instr). length is) coded in omega (arith, past, same)

-- ---- rules

holds_at : (test : ℕ → ℕ → Bool) (o u : Option ℕ) (a b : ℕ) → o ≡ Some a → u ≡ Some b → test a b ≡ holds_of test o u
holds_at test o u a b e k = sym (ap (λ (z : Option ℕ). holds_of test z u) e ∙ ap (λ (z : Option ℕ). holds_of test (Some a) z) k)

module _ (run : RunOf) (c : Candidate) (is : IsAlone run.test run.hart run.steps c) (region : Region) where
  abbrev x : PreExecution
  x = execution_of run

  abbrev rf : ℕ → Option ℕ
  rf = known_source run.test region x

  pub is_pair : (n m : Name) (a b : ℕ) → number_of x n ≡ Some a → number_of x m ≡ Some b → (src : ℕ → Option ℕ)
      → numbered_rule 8 (runs_of c (initial_words run.test)) src a b ≡ is_rule run.test region [] Rule8 n m x
  is_pair n m a b en em src =
      ap (λ (y : PreExecution). numbered_rule 8 y src a b) (runs_are run.test run.hart run.steps c is)
      ∙ plain x [] rf src a b Rule8 refl
      ∙ holds_at (λ i j. rule x [] rf i j Rule8) (number_of x n) (number_of x m) a b en em

  known_at : (sourced : Sourced) (a : ℕ) → number_of x sourced.name ≡ Some a → Knows region sourced → rf a ≡ number_from run region sourced.source
  known_at sourced a e knows =
      ap (λ (o : Option Name). option_map (source_number run.test region x) (option_and_then region.source o)) (number_named x sourced.name a e)
      ∙ ap (option_map (source_number run.test region x)) knows

  pub returned : (first second : Sourced) (a b : ℕ) → number_of x first.name ≡ Some a → number_of x second.name ≡ Some b
      → Knows region first → Knows region second → (r : Returned)
      → r.are_same ≡ is_same (number_from run region first.source) (number_from run region second.source)
      → IsOwn x (number_from run region second.source) r.store → Returns (runs_of c (initial_words run.test)) rf a b r
  returned first second a b ea eb one two r same own =
      let from = known_at first a ea one in
      let from' = known_at second b eb two in
      subst (λ (y : PreExecution). Returns y rf a b r) (sym (runs_are run.test run.hart run.steps c is)) (record {
        same = ap (λ (o : Option ℕ). is_same o (rf b)) from ∙ ap (λ (o : Option ℕ). is_same (number_from run region first.source) o) from' ∙ sym same;
        store = subst (λ (o : Option ℕ). IsOwn x o r.store) (sym from') own;
      })

  pub is_rule_at : (p : List Entry) (r : Rule) (n m : Name) (a b : ℕ) → number_of x n ≡ Some a → number_of x m ≡ Some b
      → rule (runs_of c (initial_words run.test)) p rf a b r ≡ is_rule run.test region p r n m x
  is_rule_at p r n m a b en em =
      ap (λ (y : PreExecution). rule y p rf a b r) (runs_are run.test run.hart run.steps c is)
      ∙ holds_at (λ i j. rule x p rf i j r) (number_of x n) (number_of x m) a b en em
