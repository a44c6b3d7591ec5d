-- What counts of runs where only the outcome counts.
use Rattle.std.specs.Prelude.{◌≡◌, ◌⊎◌, ℕ, ◌<◌, ◌==◌, Bool, not, Option, None, Some, List, [], ◌∷◌, ◌++◌, length, map, if◌then◌else◌}
use Rattle.std.specs.List.{Contains, filter_map, list_any, slice_index_or}
use Rattle.fs_model.specs.declared.step.Step.{Step}
use Rattle.fs_model.specs.Condition.{Condition, Always, Never, RegisterIs, LocationIs, Deny, Both, Either}
use Rattle.fs_model.specs.Shows.{final_register}
use Rattle.fs_region_refutation.specs.Alone.{RunOf}
use Rattle.fs_cert_evidence.specs.Musts.{traces_of}
use Rattle.fs_judge_outcomes.specs.declared.end.End.{End}
use Rattle.fs_judge_outcomes.specs.declared.end.Known.{Known}
use Rattle.fs_judge_outcomes.specs.declared.end.Stored.{Stored}
use Rattle.fs_judge_outcomes.specs.inner.Settled.{truth_of}
use Rattle.fs_judge_outcomes.specs.inner.Ends.{with_hart}

-- the word that the register ends with
abbrev pub final : RunOf → ℕ → ℕ
final run = final_register run.test (traces_of run.test run.hart run.steps) run.hart

-- the register, unless it stands there
abbrev pub with_register : (register : ℕ) → List ℕ → List ℕ
with_register register registers =
    if list_any (λ known. known == register) registers then registers else registers ++ register ∷ []

-- these, and the registers of the hart that the condition names, each once
abbrev pub registers_in : ℕ → Condition → List ℕ → List ℕ
registers_in hart Always registers = registers
registers_in hart Never registers = registers
registers_in hart (RegisterIs other reg w) registers = if other == hart then with_register reg registers else registers
registers_in hart (LocationIs k w) registers = registers
registers_in hart (Deny c) registers = registers_in hart c registers
registers_in hart (Both c d) registers = registers_in hart d (registers_in hart c registers)
registers_in hart (Either c d) registers = registers_in hart d (registers_in hart c registers)

abbrev pub known_of : (ℕ → ℕ) → ℕ → Known
known_of word register = record { register = register; word = word register }

abbrev pub stored_as : Option ℕ → Option ℕ → Option Stored
stored_as (Some address) (Some word) = Some (record { address = address; word = word })
stored_as _ _ = None

abbrev pub stored_by : Step → Option Stored
stored_by s = stored_as s.address s.stored

-- what counts of a run where these registers do
abbrev pub end_with : List ℕ → RunOf → End
end_with registers run = record {
  registers = map (known_of (final run)) registers;
  stored = filter_map stored_by run.steps;
}

-- and where the registers of its hart do that the condition names
abbrev pub end_of : Condition → RunOf → End
end_of c run = end_with (registers_in run.hart c []) run

-- ---- the runs of a hart

-- The ends of a hart's runs: each is that of some run, and each run has its own among them but where the condition
-- can't be as wanted with it.
pub record AreEnds (wanted : Bool) (c : Condition) (hart : ℕ) (runs : List RunOf) (ends : List End) : Type 0 where
  pub sound : (end : End) → Contains ends end → (run : RunOf) × Contains runs run × (end ≡ end_of c run)
  pub complete :
      (run : RunOf) → Contains runs run → (with_hart hart (end_of c run).registers c ≡ truth_of (not wanted) → ⊥)
      → Contains ends (end_of c run)

-- what a further run adds to them
pub record Adds (wanted : Bool) (c : Condition) (hart : ℕ) (run : RunOf) (before after : List End) : Type 0 where
  pub kept : (end : End) → Contains before end → Contains after end
  pub sound : (end : End) → Contains after end → Contains before end ⊎ (end ≡ end_of c run)
  pub complete : (with_hart hart (end_of c run).registers c ≡ truth_of (not wanted) → ⊥) → Contains after (end_of c run)

-- the same of each of so many harts
pub record AreAllEnds (wanted : Bool) (c : Condition) (harts : ℕ) (runs : List (List RunOf)) (lists : List (List End)) : Type 0 where
  pub size : length lists ≡ harts
  pub each : (hart : ℕ) → hart < harts → AreEnds wanted c hart (slice_index_or runs hart []) (slice_index_or lists hart [])
