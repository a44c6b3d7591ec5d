-- What the choices and the names that are read off a candidate say.
use Rattle.std.proofs.Common.{◌≡◌, ℕ, ◌≤◌, ◌++◌, nat_lt, inl, inr, Option, None, Some, option_map, option_and_then, filter, List, [], ◌∷◌, map, length, refl, ap}
use Rattle.std.specs.Prelude.{slice_get}
use Rattle.std.specs.List.{cons_option, filter_map}
use Rattle.std.specs.Option.{option_to_list}
use Rattle.std.proofs.lemmas.Bool.{cases_lt, lt-ltb, le-ltb}
use Rattle.fs_model.specs.declared.step.Step.{Step}
use Rattle.fs_model.specs.declared.step.Choice.{Choice}
use Rattle.fs_model.specs.Choices.{choice_by, choices_of}
use Rattle.fs_model.specs.Operations.{PreExecution, accesses, place, trace_of}
use Rattle.fs_model.specs.Witness.{name_of, step_name}
use Rattle.fs_model.proofs.HartOperations.{has_name}
use Rattle.fs_model.proofs.WhichOperation.{no_hart_past}
use Rattle.fs_cand.specs.declared.candidate.Candidate.{Candidate}
use Rattle.fs_cand.specs.Candidates.{IsMade, runs_of}
use Rattle.fs_cand_witness.specs.Naming.{name_at}
use Rattle.fs_cand_witness.specs.inner.Reading.{chosen}

-- ---- choices

pub chosen_is : (steps : List Step) → chosen steps ≡ choices_of steps
chosen_is [] = refl
chosen_is (s ∷ ss) = by_choice (choice_by s.instr s) (chosen_is ss)
  where
    by_choice : (o : Option Choice) → chosen ss ≡ choices_of ss → ◌≡◌ {A = List Choice} (cons_option o (chosen ss)) (option_to_list o ++ choices_of ss)
    by_choice None rest = rest
    by_choice (Some choice) rest = ap (λ choices. choice ∷ choices) rest

-- ---- names

pub name_is : (c : Candidate) (words : List ℕ) (a : ℕ) → IsMade words c → name_at c a ≡ name_of (runs_of c words) a
name_is c words a made = rw made.operations refl

-- an initial store has no name
no_name : (x : PreExecution) (a : ℕ) → length (accesses x) ≤ a → name_of x a ≡ None
no_name x a past =
    ap (λ (o : Option ℕ). option_and_then (λ hart. option_map (step_name hart) (slice_get (trace_of x a) (place x a))) o) (no_hart_past x a past)

-- the names are those of the harts' operations
pub names_are : (x : PreExecution) (numbers : List ℕ)
    → map (name_of x) (filter (λ a. nat_lt a (length (accesses x))) numbers) ≡ map (λ name. Some name) (filter_map (name_of x) numbers)
names_are x [] = refl
names_are x (a ∷ numbers) = elim (cases_lt a (length (accesses x))) [
  | inl low ↦ (let found = has_name x a low in rw (lt-ltb a (length (accesses x)) low, found.1) (ap (λ rest. Some found.0 ∷ rest) (names_are x numbers)))
  | inr past ↦ rw (le-ltb a (length (accesses x)) past, no_name x a past) (names_are x numbers)
]
