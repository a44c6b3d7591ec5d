-- The last number of a list that has each once.
use Rattle.std.proofs.Common.{◌≡◌, ℕ, ◌⊎◌, inl, inr, true, Option, None, Some, List, [], ◌∷◌, refl, sym, ap, subst, ◌∙◌}
use Rattle.std.specs.List.{last_or}
use Rattle.std.proofs.lemmas.Bool.{false≢true, cases_eq}
use Rattle.fs_model.specs.Numbers.{has_number, stands_before}
use Rattle.fs_model.proofs.ListedNumbers.{AreOnce, has-here, has-later, has-cases}
use Rattle.fs_model.proofs.NumberOrders.{before-here, before-later, before-second}

pub last_is : (ns : List ℕ) (o : Option ℕ) (s : ℕ) → AreOnce ns → has_number ns s ≡ true
    → ((m : ℕ) → has_number ns m ≡ true → (m ≡ s) ⊎ (stands_before ns m s ≡ true)) → last_or o ns ≡ Some s
last_is [] o s once there latest = absurd (false≢true there)
last_is (n ∷ []) o s once there latest = elim (has-cases n [] s there) [
  | inl same ↦ ap Some same
  | inr later ↦ absurd (false≢true later)
]
last_is (n ∷ k ∷ ns) o s once there latest = elim (cases_eq n s) [
  | inl same ↦ absurd (elim (latest k (has-later n (k ∷ ns) k (has-here k ns k refl))) [
    | inl e ↦ once.0 (has-here k ns n (e ∙ sym same))
    | inr before ↦ once.0 (subst (λ (z : ℕ). has_number (k ∷ ns) z ≡ true) (sym same)
        (elim (cases_eq n k) [
          | inl e ↦ sym (before-here n (k ∷ ns) k s e) ∙ before
          | inr e ↦ before-second (k ∷ ns) k s (sym (before-later n (k ∷ ns) k s e) ∙ before)
        ]))
  ])
  | inr other ↦ (elim (has-cases n (k ∷ ns) s there) [
    | inl same ↦ absurd (other same)
    | inr later ↦ last_is (k ∷ ns) (Some n) s once.1 later (λ m has. elim (latest m (has-later n (k ∷ ns) m has)) [
      | inl e ↦ inl e
      | inr before ↦ inr (elim (cases_eq n m) [
        | inl e ↦ absurd (once.0 (subst (λ (z : ℕ). has_number (k ∷ ns) z ≡ true) (sym e) has))
        | inr e ↦ sym (before-later n (k ∷ ns) m s e) ∙ before
      ])
    ])
  ])
]

pub last_there : (ns : List ℕ) (k : ℕ) (s : ℕ) → last_or (Some k) ns ≡ Some s → (k ≡ s) ⊎ (has_number ns s ≡ true)
last_there [] k s e = inl (let f : Some k ≡ Some s = e in cc)
last_there (n ∷ ns) k s e = inr (elim (last_there ns n s e) [
  | inl same ↦ has-here n ns s same
  | inr later ↦ has-later n ns s later
])

pub last_in : (ns : List ℕ) (s : ℕ) → last_or None ns ≡ Some s → has_number ns s ≡ true
last_in [] s e = absurd (let f : None ≡ Some s = e in cc)
last_in (n ∷ ns) s e = elim (last_there ns n s e) [
  | inl same ↦ has-here n ns s same
  | inr later ↦ has-later n ns s later
]

pub last_latest : (ns : List ℕ) (o : Option ℕ) (s m : ℕ) → AreOnce ns → last_or o ns ≡ Some s → has_number ns m ≡ true
    → (m ≡ s) ⊎ (stands_before ns m s ≡ true)
last_latest [] o s m once e there = absurd (false≢true there)
last_latest (n ∷ ns) o s m once e there = elim (cases_eq n m) [
  | inl here ↦ (elim (last_there ns n s e) [
    | inl same ↦ inl (sym here ∙ same)
    | inr later ↦ inr (before-here n ns m s here ∙ later)
  ])
  | inr other ↦ (elim (has-cases n ns m there) [
    | inl same ↦ absurd (other same)
    | inr later ↦ (elim (last_latest ns (Some n) s m once.1 e later) [
      | inl same ↦ inl same
      | inr before ↦ inr (before-later n ns m s other ∙ before)
    ])
  ])
]

some-or : (ns : List ℕ) (k : ℕ) → (s : ℕ) × (last_or (Some k) ns ≡ Some s)
some-or [] k = (k, refl)
some-or (n ∷ ns) k = some-or ns n

pub last_some : (ns : List ℕ) (m : ℕ) → has_number ns m ≡ true → (s : ℕ) × (last_or None ns ≡ Some s)
last_some [] m there = absurd (false≢true there)
last_some (n ∷ ns) m there = some-or ns n
