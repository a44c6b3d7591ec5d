-- What refutes a test covers its showing candidates, and so forbids the outcome.
use Rattle.std.proofs.Common.{◌≡◌, ℕ, ◌≤◌, Bool, true, None, Some, List, [], ◌∷◌, length, inl, inr, refl, subst}
use Rattle.std.specs.List.{AllZip, Contains}
use Rattle.std.proofs.lemmas.Bool.{false≢true, not-true}
use Rattle.fs_kinds.specs.declared.placement.Entry.{Entry}
use Rattle.fs_model.specs.declared.test.Test.{Test}
use Rattle.fs_model.specs.declared.test.Quantifier.{Quantifier}
use Rattle.fs_model.specs.declared.test.Quantifier.TheVariants.{Exists, NotExists, Forall}
use Rattle.fs_model.specs.Condition.{Condition, SpeaksOf, condition_of}
use Rattle.fs_model.specs.Test.{IsBounded}
use Rattle.fs_model.specs.declared.step.Step.{Step}
use Rattle.fs_model.specs.Operations.{operations, steps_of}
use Rattle.fs_model.specs.Allows.{Allows, no_fences}
use Rattle.fs_model.specs.Fenced.{fenced}
use Rattle.fs_model.specs.Shows.{is_outcome}
use Rattle.fs_cert_evidence.specs.Candidates.{Candidate, IsShowing, runs_of}
use Rattle.fs_cert_evidence.specs.Certificate.{Link}
use Rattle.fs_cert_evidence.specs.Cycles.{IsCycle, HasCycles, most_links}
use Rattle.fs_cert_evidence.specs.Listings.{IsListing}
use Rattle.fs_values.specs.ThinAir.{CanBeListed}
use Rattle.fs_model_laws.proofs.FencedLaw.{allows_alike}
use Rattle.fs_verdict_laws.specs.Decide.{candidate_of}
use Rattle.fs_verdict_laws.proofs.Back.{showing, ordered}
use Rattle.fs_verdict_laws.proofs.JudgedEdges.{cycle_excludes}
use Rattle.fs_verdict_laws.proofs.JudgedCycles.{cycles_exist}
use Rattle.fs_values.proofs.Contained.{none_in, later_in}
use Rattle.fs_cert_evidence.specs.Regions.{truth}
use Rattle.fs_model.specs.Values.{HasAllRuns}
use Rattle.fs_cert_evidence.specs.Certificate.{Inference}
use Rattle.fs_cert_evidence.specs.Trees.{IsRefuted, Covers, cycles_in, is_open, root}
use Rattle.fs_verdict_laws.proofs.Lists.{first_in, in_cases, in_filter}
use Rattle.fs_verdict_laws.proofs.Splits.{IsMember}
use Rattle.fs_verdict_laws.proofs.Walk.{walked, open_there}

outcome_is : (q : Quantifier) (b : Bool) → is_outcome q b ≡ true → b ≡ is_outcome q true
outcome_is Exists b e = e
outcome_is NotExists b e = e
outcome_is Forall b e = not-true b e

-- each showing candidate is in the root
in_root : (t : Test) (runs : ℕ → List (List Step)) (bounded : IsBounded t) → HasAllRuns t runs → (c : Candidate) → IsShowing t c → IsMember t c (root t runs)
in_root t runs bounded all c shows = record {
  inside = record {
    runs = λ hart low. ((all hart low).exact (steps_of c.traces hart)).1 (shows.raw.runs.runs hart low, shows.raw.runs.values hart low);
    sources = λ load source e. absurd (let none : None ≡ Some source = e in cc);
    orders = λ first second before. absurd (false≢true before);
    wanted = λ condition v has. elim (in_cases (condition_of t.condition, is_outcome t.quantifier true) [] (condition, v) has) [
      | inl same ↦ subst (λ (w : Condition × Bool). truth t c w.0 ≡ w.1) same (outcome_is t.quantifier (truth t c (condition_of t.condition)) shows.outcome)
      | inr none ↦ absurd (none_in (condition, v) none)
    ];
  };
  spoken = λ condition v has. elim (in_cases (condition_of t.condition, is_outcome t.quantifier true) [] (condition, v) has) [
    | inl same ↦ subst (λ (w : Condition × Bool). SpeaksOf (length t.codes) (length t.locations) w.0) same bounded.atoms
    | inr none ↦ absurd (none_in (condition, v) none)
  ];
}

pub covers : (t : Test) (p : List Entry) (inferences : List Inference) → IsBounded t → IsRefuted t p inferences → Covers t p (cycles_in inferences)
covers t p inferences bounded is c shows =
    let member = in_root t is.runs bounded is.all.all c shows in
    walked t p c bounded.forward shows _ inferences is.refuted (root t is.runs)
    (in_filter (is_open t) (root t is.runs ∷ []) (root t is.runs) (first_in (root t is.runs) (root t is.runs) [] refl) (open_there t p c bounded.forward shows (root t is.runs) member)) member

-- what stands beside a value of the first list is in the second
beside : {A B : Type 0} (R : A → B → Type 0) (xs : List A) (ys : List B) (x : A) → AllZip R xs ys → Contains xs x → (y : B) × Contains ys y × R x y
beside R [] ys x all has = absurd (none_in x has)
beside R (v ∷ vs) [] x all has = absurd all
beside R (v ∷ vs) (w ∷ ws) x all has = elim (in_cases v vs x has) [
  | inl same ↦ (w, first_in w w ws refl, subst (λ z. R z w) same all.0)
  | inr rest ↦ (let found = beside R vs ws x all.1 rest in (found.0, later_in w ws found.0 found.1, found.2))
]

pub listed_covers : (t : Test) (p : List Entry) (cycles : List (List Link)) → HasCycles t p cycles → Covers t p cycles
listed_covers t p cycles (cs, listing, each) c shows = beside (IsCycle t p) cs cycles c each ((listing.exact c).1 shows)

pub covers_exist : (t : Test) (p : List Entry) (cs : List Candidate) → IsListing t cs
    → ((c : Candidate) → IsShowing t c → length (operations (runs_of t c)) ≤ most_links) → (Allows t p → ⊥)
    → (cycles : List (List Link)) × Covers t p cycles
covers_exist t p cs listing few forbidden =
    let found = cycles_exist t p cs listing few forbidden in (found.0, listed_covers t p found.0 found.1)

pub covered_forbids : (t : Test) → CanBeListed t → (p : List Entry) (cycles : List (List Link)) → Covers t p cycles → Allows t p → ⊥
covered_forbids t listed p cycles all (e, shows) =
    let has = all (candidate_of t e) (showing t listed p e shows) in
    cycle_excludes t p (candidate_of t e) has.0 e.order has.2 (ordered t p e shows.execution)

pub forbids : (t : Test) → CanBeListed t → (p : List Entry) (inferences : List Inference) → IsRefuted t p inferences → Allows t p → ⊥
forbids t listed p inferences is = covered_forbids t listed p (cycles_in inferences) (covers t p inferences listed.bounded is)

-- the fenced test allows what the test does under the placement
pub fenced_forbids : (t : Test) → CanBeListed t → (p : List Entry) (inferences : List Inference) → IsRefuted t p inferences
    → Allows (fenced t p) (no_fences (fenced t p)) → ⊥
fenced_forbids t listed p inferences is allowed = forbids t listed p inferences is ((allows_alike t p).0 allowed)
