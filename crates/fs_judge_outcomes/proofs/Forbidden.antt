-- An execution that shows the outcome gives a way to it.
use Rattle.std.proofs.Common.{◌≡◌, ℕ, zero, suc, ◌<◌, ◌≤◌, true, Option, None, Some, is_some, option_and_then, unwrap_or, List, [], ◌∷◌, length, inl, inr, refl, sym, ◌∙◌, ap, arith}
use Rattle.std.specs.Prelude.{slice_get}
use Rattle.std.specs.List.{last_or}
use Rattle.std.proofs.lemmas.Option.{slice_get-get_or}
use Rattle.fs_kinds.specs.declared.placement.Entry.{Entry}
use Rattle.fs_model.specs.declared.test.Test.{Test}
use Rattle.fs_model.specs.declared.step.Step.{Step}
use Rattle.fs_model.specs.Test.{address_of}
use Rattle.fs_model.specs.Operations.{accesses, operation, place, steps_of}
use Rattle.fs_model.specs.Execution.{initial_words}
use Rattle.fs_model.specs.Shows.{is_store_to}
use Rattle.fs_model.specs.Allows.{Allows, no_fences}
use Rattle.fs_model.specs.Values.{StoresWord}
use Rattle.fs_model.proofs.HartOperations.{access_is}
use Rattle.fs_model.proofs.LastNumber.{last_in, last_some}
use Rattle.fs_model.proofs.ListedNumbers.{has-here}
use Rattle.fs_model.proofs.OptionalNumbers.{some_parts}
use Rattle.fs_model.proofs.WhichOperation.{Access, Initial, Past, which}
use Rattle.fs_cert_evidence.specs.Candidates.{Candidate, IsRaw, IsShowing, runs_of, stores_to, last_word}
use Rattle.fs_values.specs.ThinAir.{CanBeListed}
use Rattle.fs_verdict_laws.specs.Decide.{candidate_of}
use Rattle.fs_verdict_laws.proofs.Back.{showing}
use Rattle.fs_verdict_laws.proofs.JudgedEdges.{edge_low}
use Rattle.fs_verdict_laws.proofs.Rules.{judged_co}
use Rattle.fs_verdict_laws.proofs.Sourced.{stores_first, stores_in, store_to_parts, store_to_from, same_location}
use Rattle.fs_verdict_laws.proofs.Steps.{operation_there}
use Rattle.fs_verdict_laws.proofs.Coherent.{up_to_last}
use Rattle.fs_judge_outcomes.specs.Vacuous.{MayEnd, IsWay, IsVacuous}

-- ---- what a run stores is what one of its steps does

word_there : (steps : List Step) (j : ℕ) (s : Step) (k word : ℕ) → slice_get steps j ≡ Some s → s.address ≡ Some (address_of k)
    → s.stored ≡ Some word → StoresWord steps k word
word_there [] j s k word e address stored = absurd (let none : None ≡ Some s = e in cc)
word_there (u ∷ us) zero s k word e address stored =
    let whole : Some u ≡ Some s = e in
    let same : u ≡ s = cc in
    inl (ap (λ (v : Step). v.address) same ∙ address, ap (λ (v : Step). v.stored) same ∙ stored)
word_there (u ∷ us) (suc j) s k word e address stored = inr (word_there us j s k word e address stored)

step_there : (steps : List Step) (k word : ℕ) → StoresWord steps k word
    → (j : ℕ) × (s : Step) × (slice_get steps j ≡ Some s) × (s.address ≡ Some (address_of k)) × (s.stored ≡ Some word)
step_there [] k word none = absurd none
step_there (s ∷ ss) k word (inl here) = (0, s, refl, here.0, here.1)
step_there (s ∷ ss) k word (inr later) = let rest = step_there ss k word later in (suc rest.0, rest.1, rest.2, rest.3, rest.4)

-- ---- last words

last_there : (xs : List ℕ) (a : ℕ) → slice_get xs 0 ≡ Some a → (b : ℕ) × (last_or None xs ≡ Some b)
last_there [] a e = absurd (let none : None ≡ Some a = e in cc)
last_there (x ∷ xs) a e = last_some (x ∷ xs) x (has-here x xs x refl)

module _ (t : Test) (c : Candidate) (raw : IsRaw t c) where
  -- where a run stores, a hart has a store to the location
  store_there : (k hart word : ℕ) → StoresWord (steps_of c.traces hart) k word
      → (a : ℕ) × (a < length (accesses (runs_of t c))) × (is_store_to (runs_of t c) k a ≡ true)
  store_there k hart word stores =
      let step = step_there (steps_of c.traces hart) k word stores in
      let found = operation_there (runs_of t c) hart step.0 step.1 step.2 (ap is_some step.3) in (
        found.0,
        found.1,
        store_to_from (runs_of t c) k found.0 (ap (λ o. is_some o.stored) found.2 ∙ ap is_some step.4) (ap (λ o. o.address) found.2 ∙ step.3),
      )

  module _ (k : ℕ) (low : k < length t.locations) (a : ℕ) (last : last_or None (stores_to c k) ≡ Some a) where
    stores : (is_some (operation (runs_of t c) a).stored ≡ true) × ((operation (runs_of t c) a).address ≡ Some (address_of k))
    stores = store_to_parts (runs_of t c) k a (stores_in t c raw k a low (last_in (stores_to c k) a last))

    word_is : (word : ℕ) → (operation (runs_of t c) a).stored ≡ Some word → Some word ≡ Some (last_word t c k)
    word_is word stored =
        sym (ap (λ (o : Option ℕ). Some (unwrap_or (option_and_then (λ b. (operation (runs_of t c) b).stored) o) 0)) last
        ∙ ap (λ (o : Option ℕ). Some (unwrap_or o 0)) stored)

    -- of a hart, in whose run it is a step
    by_hart : a < length (accesses (runs_of t c)) → MayEnd t c.traces k (last_word t c k)
    by_hart few =
        let access = access_is (runs_of t c) a few in
        let word = some_parts (operation (runs_of t c) a).stored stores.0 in
        inl (
          access.hart,
          word_there (steps_of c.traces access.hart) (place (runs_of t c) a) access.step k (last_word t c k) access.there
              (ap (λ o. o.address) (sym access.is) ∙ stores.1) (ap (λ o. o.stored) (sym access.is) ∙ word.1 ∙ word_is word.0 word.1),
        )

    -- or the initial one, which is before each store of a hart
    none_stores : length (accesses (runs_of t c)) ≤ a → (hart other : ℕ) → StoresWord (steps_of c.traces hart) k other → ⊥
    none_stores past hart other there =
        let store = store_there k hart other there in
        let few = store.1 in
        elim (up_to_last t c raw k a store.0 low last store.2) [
          | inl one ↦ omega (arith, few, one, past)
          | inr before ↦ (let less = edge_low t [] c raw store.0 a (judged_co t [] c store.0 a before) in omega (arith, less, past))
        ]

  ends : (k : ℕ) → k < length t.locations → MayEnd t c.traces k (last_word t c k)
  ends k low =
      let last = last_there (stores_to c k) _ (stores_first t c raw k low) in
      elim (which (runs_of t c) last.0) [
        | Access few ↦ by_hart k low last.0 last.1 few
        | Initial j less at is ↦ (
            let same : j ≡ k = same_location j k (let both : Some (address_of j) ≡ Some (address_of k) = sym (ap (λ o. o.address) is) ∙ (stores k low last.0 last.1).1 in cc) in
            inr (
              ap (slice_get (initial_words t)) (sym same) ∙ slice_get-get_or (initial_words t) j 0 less ∙ word_is k low last.0 last.1 _ (ap (λ o. o.stored) is),
              none_stores k low last.0 last.1 (omega (arith, at)),
            ))
        | Past far is ↦ absurd (let none : None ≡ Some (address_of k) = sym (ap (λ o. o.address) is) ∙ (stores k low last.0 last.1).1 in cc)
      ]

-- ---- ways

pub way_of : (t : Test) (c : Candidate) → IsShowing t c → IsWay t c.traces (last_word t c)
way_of t c shows = record { runs = shows.raw.runs; ends = ends t c shows.raw; outcome = shows.outcome }

pub never_shown : (t : Test) → CanBeListed t → IsVacuous t → (p : List Entry) → Allows t p → ⊥
never_shown t listable vacuous p (e, shows) =
    let c = candidate_of t e in vacuous c.traces (last_word t c) (way_of t c (showing t listable p e shows))

pub vacuous_forbids : (t : Test) → CanBeListed t → IsVacuous t → Allows t (no_fences t) → ⊥
vacuous_forbids t listable vacuous = never_shown t listable vacuous (no_fences t)
