-- A test has one listing of its showing candidates: their order is asymmetric, so two rising lists with the same
-- members are one.
use Rattle.std.proofs.Common.{◌≡◌, ℕ, ◌==◌, ◌&&◌, true, List, [], ◌∷◌, sym, subst, arith, inl, inr}
use Rattle.std.specs.Prelude.{nat_lt}
use Rattle.std.proofs.lemmas.Bool.{false≢true, and_parts, or_cases, ltb-true, eqb-true}
use Rattle.fs_model.specs.declared.test.Test.{Test}
use Rattle.fs_model.specs.declared.step.Step.{Step}
use Rattle.fs_model.specs.Choices.{choices_of, ComesBefore}
use Rattle.fs_model.proofs.ChoiceOrder.{comes_not_itself, not_both}
use Rattle.fs_cert_evidence.specs.Candidates.{Candidate}
use Rattle.fs_cert_evidence.specs.Listings.{AreEarlier, is_less, key, Precedes, IsListing}
use Rattle.fs_app_guarantees.proofs.Families.{same_list}

-- ---- the order of candidates

less_once : (ms ns : List ℕ) → is_less ms ns ≡ true → is_less ns ms ≡ true → ⊥
less_once [] [] h k = false≢true h
less_once [] (n ∷ ns) h k = false≢true k
less_once (m ∷ ms) [] h k = false≢true h
less_once (m ∷ ms) (n ∷ ns) h k = elim (or_cases (nat_lt m n) ((m == n) && is_less ms ns) h) [
  | inl low ↦ elim (or_cases (nat_lt n m) ((n == m) && is_less ns ms) k) [
    | inl high ↦ (let a = ltb-true m n low in let b = ltb-true n m high in absurd (omega (arith, a, b)))
    | inr later ↦ (let a = ltb-true m n low in let b = eqb-true n m (and_parts (n == m) (is_less ns ms) later).0 in absurd (omega (arith, a, b)))
  ]
  | inr rest ↦ elim (or_cases (nat_lt n m) ((n == m) && is_less ns ms) k) [
    | inl high ↦ (let a = eqb-true m n (and_parts (m == n) (is_less ms ns) rest).0 in let b = ltb-true n m high in absurd (omega (arith, a, b)))
    | inr later ↦ less_once ms ns (and_parts (m == n) (is_less ms ns) rest).1 (and_parts (n == m) (is_less ns ms) later).1
  ]
]

earlier_once : (ss us : List (List Step)) → AreEarlier ss us → AreEarlier us ss → ⊥
earlier_once [] [] h k = h
earlier_once [] (u ∷ us) h k = h
earlier_once (s ∷ ss) [] h k = h
earlier_once (s ∷ ss) (u ∷ us) h k = elim h [
  | inl first ↦ elim k [
    | inl other ↦ not_both (choices_of s) (choices_of u) first other
    | inr same ↦ comes_not_itself (choices_of s) (subst (λ steps. ComesBefore (choices_of s) (choices_of steps)) same.0 first)
  ]
  | inr same ↦ elim k [
    | inl other ↦ comes_not_itself (choices_of u) (subst (λ steps. ComesBefore (choices_of u) (choices_of steps)) same.0 other)
    | inr again ↦ earlier_once ss us same.1 again.1
  ]
]

not_earlier : (ss us : List (List Step)) → ss ≡ us → AreEarlier ss us → ⊥
not_earlier ss us same h = let alike = subst (AreEarlier ss) (sym same) h in earlier_once ss ss alike alike

precedes_once : (t : Test) (c d : Candidate) → Precedes t c d → Precedes t d c → ⊥
precedes_once t c d h k = elim h [
  | inl runs ↦ elim k [
    | inl others ↦ earlier_once c.traces d.traces runs others
    | inr same ↦ not_earlier c.traces d.traces (sym same.0) runs
  ]
  | inr same ↦ elim k [
    | inl others ↦ not_earlier d.traces c.traces (sym same.0) others
    | inr again ↦ less_once (key t c) (key t d) same.1 again.1
  ]
]

pub one_listing : (t : Test) (cs ds : List Candidate) → IsListing t cs → IsListing t ds → cs ≡ ds
one_listing t cs ds left right =
    same_list (Precedes t) (precedes_once t) cs ds left.rising right.rising
    (λ c there. (right.exact c).1 ((left.exact c).0 there))
    (λ c there. (left.exact c).1 ((right.exact c).0 there))
