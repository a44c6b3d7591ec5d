-- Stores of runs, and the words among them of an address.
use Rattle.std.proofs.Common.{◌≡◌, ◌↔◌, ◌⊎◌, ◌==◌, ℕ, zero, suc, Bool, if◌then◌else◌, Option, None, Some, List, [], ◌∷◌, ◌++◌, flat_map, refl, ap, subst, sym, inl, inr, arith}
use Rattle.std.specs.List.{Contains}
use Rattle.std.specs.Option.{option_to_list}
use Rattle.std.proofs.lemmas.Bool.{cases_eq, eq-eqb, ne_eqb}
use Rattle.std.proofs.lemmas.List.Elements.{Contains-append_left, Contains-append_right, Contains-append_cases}
use Rattle.fs_model.specs.Test.{address_of}
use Rattle.fs_model.specs.declared.step.Step.{Step}
use Rattle.fs_model.specs.Values.{StoresWord}
use Rattle.fs_values.specs.declared.stores.Store.{Store}
use Rattle.fs_values.specs.inner.Stores.{store_with, store_of, stores_of, HasStore}
use Rattle.fs_values.proofs.Contained.{none_in, one_in, first_in, later_in}

abbrev pub store : ℕ → ℕ → Store
store address word = record { address = address; word = word }

one : (a v : Option ℕ) (address word : ℕ) → Contains (option_to_list (store_with a v)) (store address word) → (a ≡ Some address) × (v ≡ Some word)
one (Some a) (Some v) address word has =
    let same = one_in (store a v) (store address word) has in
    (ap (λ (s : Store). Some s.address) same, ap (λ (s : Store). Some s.word) same)
one (Some a) None address word has = absurd (none_in (store address word) has)
one None v address word has = absurd (none_in (store address word) has)

one_back : (a v : Option ℕ) (address word : ℕ) → a ≡ Some address → v ≡ Some word → Contains (option_to_list (store_with a v)) (store address word)
one_back a v address word there stored =
    subst (λ x. Contains (option_to_list (store_with x v)) (store address word)) (sym there)
    (subst (λ y. Contains (option_to_list (store_with (Some address) y)) (store address word)) (sym stored) (first_in (store address word) []))

pub stores_word : (steps : List Step) (k word : ℕ) → HasStore (stores_of steps) k word → StoresWord steps k word
stores_word [] k word has = none_in (store (address_of k) word) has
stores_word (s ∷ ss) k word has =
    elim (Contains-append_cases (option_to_list (store_of s)) (stores_of ss) (store (address_of k) word) has) [
      | inl here ↦ inl (one s.address s.stored (address_of k) word here)
      | inr later ↦ inr (stores_word ss k word later)
    ]

pub word_stored : (steps : List Step) (k word : ℕ) → StoresWord steps k word → HasStore (stores_of steps) k word
word_stored [] k word none = absurd none
word_stored (s ∷ ss) k word (inl here) =
    Contains-append_left (option_to_list (store_of s)) (stores_of ss) (store (address_of k) word)
    (one_back s.address s.stored (address_of k) word here.0 here.1)
word_stored (s ∷ ss) k word (inr later) =
    Contains-append_right (option_to_list (store_of s)) (stores_of ss) (store (address_of k) word) (word_stored ss k word later)

-- ---- the words that are stored at an address

abbrev pub word_at : ℕ → Store → List ℕ
word_at address s = if s.address == address then s.word ∷ [] else []

abbrev pub words_at : ℕ → List Store → List ℕ
words_at address stores = flat_map (word_at address) stores

both : (s : Store) (address word : ℕ) → s.address ≡ address → s.word ≡ word → s ≡ store address word
both s address word a w = let whole : store s.address s.word ≡ store address word = cc in whole

one_word : (address : ℕ) (s : Store) (word : ℕ) → Contains (word_at address s) word → s ≡ store address word
one_word address s word has = elim (cases_eq s.address address) [
  | inl e ↦ (
      let w : s.word ≡ word = one_in s.word word (subst (λ (b : Bool). Contains (if b then s.word ∷ [] else []) word) (eq-eqb s.address address e) has) in
      both s address word e w)
  | inr ne ↦ absurd (none_in word (subst (λ (b : Bool). Contains (if b then s.word ∷ [] else []) word) (ne_eqb s.address address ne) has))
]

pub at_address : (address : ℕ) (stores : List Store) (word : ℕ) → Contains (words_at address stores) word → Contains stores (store address word)
at_address address [] word has = absurd (none_in word has)
at_address address (s ∷ ss) word has = elim (Contains-append_cases (word_at address s) (words_at address ss) word has) [
  | inl here ↦ subst (λ (u : Store). Contains (s ∷ ss) u) (one_word address s word here) (first_in s ss)
  | inr later ↦ later_in s ss (store address word) (at_address address ss word later)
]

here_at : (address word : ℕ) (s : Store) → s ≡ store address word → Contains (word_at address s) word
here_at address word s same =
    subst (λ (u : Store). Contains (word_at address u) word) (sym same)
    (subst (λ (b : Bool). Contains (if b then word ∷ [] else []) word) (sym (eq-eqb address address refl)) (first_in word []))

pub of_address : (address : ℕ) (stores : List Store) (word : ℕ) → Contains stores (store address word) → Contains (words_at address stores) word
of_address address [] word has = absurd (none_in (store address word) has)
of_address address (s ∷ ss) word (zero, low, same) =
    Contains-append_left (word_at address s) (words_at address ss) word (here_at address word s same)
of_address address (s ∷ ss) word (suc k, low, same) =
    Contains-append_right (word_at address s) (words_at address ss) word (of_address address ss word (k, omega (arith, low), same))

-- a set with the words that are stored at the address
pub with_words : (address : ℕ) (stores : List Store) (set words : List ℕ) → words ≡ set ++ words_at address stores → (word : ℕ)
    → Contains words word ↔ (Contains set word ⊎ Contains stores (store address word))
with_words address stores set words is word = (
  (λ has. elim (Contains-append_cases set (words_at address stores) word (subst (λ xs. Contains xs word) is has)) [
    | inl old ↦ inl old
    | inr new ↦ inr (at_address address stores word new)
  ]),
  (λ either. subst (λ xs. Contains xs word) (sym is) (elim either [
    | inl old ↦ Contains-append_left set (words_at address stores) word old
    | inr new ↦ Contains-append_right set (words_at address stores) word (of_address address stores word new)
  ])),
)
