-- All candidate executions that show the outcome, in their order.
use Rattle.std.specs.Prelude.{◌≡◌, ℕ, ◌+◌, ◌==◌, ◌↔◌, ◌⊎◌, nat_lt, Bool, true, false, ◌&&◌, ◌||◌, Option, None, Some, List, [], ◌∷◌, ◌++◌, map, length, AllPairs, if◌then◌else◌}
use Rattle.std.specs.List.{Contains, flat_map}
use Rattle.fs_model.specs.declared.test.Test.{Test}
use Rattle.fs_model.specs.declared.step.Step.{Step}
use Rattle.fs_model.specs.Choices.{choices_of, ComesBefore}
use Rattle.fs_model.specs.Operations.{accesses}
use Rattle.fs_cert_evidence.specs.Candidates.{Candidate, runs_of, IsShowing}

-- at the first hart whose steps differ, its choices come before; there is a list of steps for each hart
abbrev pub AreEarlier : List (List Step) → List (List Step) → Type 0
AreEarlier (s ∷ ss) (u ∷ us) = ComesBefore (choices_of s) (choices_of u) ⊎ ((s ≡ u) × AreEarlier ss us)
AreEarlier _ _ = ⊥

-- lexicographic order
abbrev pub is_less : List ℕ → List ℕ → Bool
is_less [] [] = false
is_less [] (n ∷ ns) = true
is_less (m ∷ ms) [] = false
is_less (m ∷ ms) (n ∷ ns) = nat_lt m n || (m == n) && is_less ms ns

-- a load's source: the initial store first, and then by number, where the first n operations are the harts'
abbrev pub source_key : ℕ → Option ℕ → ℕ
source_key n None = 0
source_key n (Some s) = if nat_lt s n then s + 1 else 0

-- the sources, load by load; then the coherence orders, location by location; of candidates with the same steps
abbrev pub key : Test → Candidate → List ℕ
key t c = map (source_key (length (accesses (runs_of t c)))) c.source ++ flat_map (λ stores. stores) c.store_order

-- c is the earlier candidate: by the choices, hart by hart, and where the steps are the same by sources and coherence
-- orders
abbrev pub Precedes : Test → Candidate → Candidate → Type 0
Precedes t c d = AreEarlier c.traces d.traces ⊎ ((c.traces ≡ d.traces) × (is_less (key t c) (key t d) ≡ true))

-- all showing candidates, each once, in their order
pub record IsListing (t : Test) (cs : List Candidate) : Type 0 where
  pub rising : AllPairs (Precedes t) cs
  pub exact : (c : Candidate) → Contains cs c ↔ IsShowing t c
