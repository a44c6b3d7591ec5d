-- The sets of the next round, as they are made location by location.
use Rattle.std.proofs.Common.{◌≡◌, ◌↔◌, ◌⊎◌, ℕ, zero, suc, ◌+◌, ◌<◌, ◌≤◌, None, Some, List, [], ◌∷◌, ◌++◌, map, length, All, refl, ap, subst, sym, ◌∙◌, inl, inr, arith}
use Rattle.std.specs.Prelude.{slice_get}
use Rattle.std.specs.List.{Contains, slice_index_or}
use Rattle.std.specs.List.Sorted.{IsStrictlyIncreasing}
use Rattle.std.proofs.lemmas.Bool.{cases_lt}
use Rattle.std.proofs.lemmas.List.{length_push, get_or_push, get_or_past, get_or_append_left, length-map}
use Rattle.std.proofs.lemmas.List.Elements.{All-nil, All-cons, All-push}
use Rattle.fs_model.specs.declared.test.Test.{Test}
use Rattle.fs_model.specs.declared.test.Location.{Location}
use Rattle.fs_model.specs.Test.{address_of}
use Rattle.fs_model.specs.Values.{IsValueAfter}
use Rattle.fs_hart.specs.Listing.{IsOffered}
use Rattle.fs_values.specs.declared.stores.Store.{Store}
use Rattle.fs_values.specs.Sets.{AreSets}
use Rattle.fs_values.specs.Rounds.{IsInNext}
use Rattle.fs_values.specs.inner.Stores.{HasStore, AreStoresBelow}
use Rattle.fs_values.proofs.Contained.{none_in, one_in, first_in}
use Rattle.fs_values.proofs.Declared.{stored_declared}
use Rattle.fs_values.proofs.Stored.{store}

-- the sets of the first n locations, with the stores to them
pub record AreMade (old : List (List ℕ)) (stores : List Store) (n : ℕ) (sets : List (List ℕ)) : Type 0 where
  pub long : length sets ≡ n
  pub rising : All IsStrictlyIncreasing sets
  pub words : (k word : ℕ) → k < n → Contains (slice_index_or sets k []) word ↔ (Contains (slice_index_or old k []) word ⊎ HasStore stores k word)

pub none_made : (old : List (List ℕ)) (stores : List Store) → AreMade old stores 0 []
none_made old stores = record {
  long = refl;
  rising = All-nil IsStrictlyIncreasing;
  words = λ k word low. absurd (omega (arith, low));
}

pub one_made : (old : List (List ℕ)) (stores : List Store) (n : ℕ) (sets more : List (List ℕ)) (set here : List ℕ) → AreMade old stores n sets
    → more ≡ sets ++ set ∷ [] → IsStrictlyIncreasing set → here ≡ slice_index_or old n []
    → ((word : ℕ) → Contains set word ↔ (Contains here word ⊎ HasStore stores n word))
    → AreMade old stores (n + 1) more
one_made old stores n sets more set here made is rises same are =
    let long = made.long in
    subst (AreMade old stores (n + 1)) (sym is) (record {
      long = length_push sets set ∙ ap (λ m. m + 1) made.long;
      rising = All-push IsStrictlyIncreasing sets set made.rising rises;
      words = λ k word low. elim (cases_lt k n) [
        | inl less ↦ subst (λ xs. Contains xs word ↔ (Contains (slice_index_or old k []) word ⊎ HasStore stores k word))
            (sym (get_or_append_left sets (set ∷ []) [] k (omega (arith, less, long)))) (made.words k word less)
        | inr not_less ↦ (
            let e : n ≡ k = omega (arith, low, not_less) in
            let there : slice_index_or (sets ++ set ∷ []) n [] ≡ set = get_or_push sets set [] n long in
            subst (λ j. Contains (slice_index_or (sets ++ set ∷ []) j []) word ↔ (Contains (slice_index_or old j []) word ⊎ HasStore stores j word)) e
            (subst (λ xs. Contains xs word ↔ (Contains (slice_index_or old n []) word ⊎ HasStore stores n word)) (sym there)
            (subst (λ xs. Contains set word ↔ (Contains xs word ⊎ HasStore stores n word)) same (are word))))
      ];
    })

-- the words of a set with the stores to a location
pub same_words : (stores ss : List Store) (set xs here : List ℕ) (a n : ℕ) → xs ≡ here → ss ≡ stores → a ≡ address_of n
    → ((word : ℕ) → Contains set word ↔ (Contains xs word ⊎ Contains ss (store a word)))
    → (word : ℕ) → Contains set word ↔ (Contains here word ⊎ HasStore stores n word)
same_words stores ss set xs here a n same all at are word =
    subst (λ b. Contains set word ↔ (Contains here word ⊎ Contains stores (store b word))) at
    (subst (λ us. Contains set word ↔ (Contains here word ⊎ Contains us (store a word))) all
    (subst (λ ys. Contains set word ↔ (Contains ys word ⊎ Contains ss (store a word))) same (are word)))

-- ---- the sets of the next round

module _ (t : Test) (old : List (List ℕ)) (stores : List Store) (sets : List (List ℕ)) (made : AreMade old stores (length old) sets)
    (stored : AreStoresBelow t (IsOffered old) (length t.codes) stores) (long : length old ≡ length t.locations) where
  abbrev Next : ℕ → ℕ → Type 0
  Next = IsInNext t (IsOffered old)

  within : (k word : ℕ) → k < length old → IsOffered sets k word ↔ Next k word
  within k word low = (
    (λ has. elim ((made.words k word low).0 has) [ inl there ↦ inl there | inr new ↦ inr ((stored k word).0 new) ]),
    (λ next. (made.words k word low).1 (elim next [ inl there ↦ inl there | inr new ↦ inr ((stored k word).1 new) ])),
  )

  past_in : (xs : List (List ℕ)) (k word : ℕ) → length xs ≤ k → IsOffered xs k word → ⊥
  past_in xs k word high has = none_in word (subst (λ set. Contains set word) (get_or_past xs k [] high) has)

  past : (k word : ℕ) → length old ≤ k → IsOffered sets k word ↔ Next k word
  past k word high = (
    (λ has. let size = made.long in absurd (past_in sets k word (omega (arith, high, size)) has)),
    (λ next. absurd (no_next next)),
  )
    where
      no_next : Next k word → ⊥
      no_next (inl there) = past_in old k word high there
      no_next (inr (hart, steps, low, run, loads, stores)) =
          let inside = stored_declared t hart steps k word run stores in omega (arith, high, inside, long)

  pub next_sets : AreSets t Next sets
  next_sets = record {
    locations = made.long ∙ long;
    rising = made.rising;
    words = λ k word. elim (cases_lt k (length old)) [ inl low ↦ within k word low | inr high ↦ past k word high ];
  }

-- ---- the initial sets

abbrev pub word_alone : Location → List ℕ
word_alone x = x.word ∷ []

same_word : {a b : ℕ} → Some a ≡ Some b → a ≡ b
same_word e = cc

one_rises : (word : ℕ) → IsStrictlyIncreasing (word ∷ [])
one_rises word k low = absurd (omega (arith, low))

alone_rise : (xs : List Location) → All IsStrictlyIncreasing (map word_alone xs)
alone_rise [] = All-nil IsStrictlyIncreasing
alone_rise (x ∷ xs) = All-cons IsStrictlyIncreasing (word_alone x) (map word_alone xs) (one_rises x.word) (alone_rise xs)

initial_offered : (xs : List Location) (k word : ℕ)
    → IsOffered (map word_alone xs) k word ↔ (slice_get (map (λ location. location.word) xs) k ≡ Some word)
initial_offered [] k word = ((λ has. absurd (none_in word has)), (λ e. absurd (let none : None ≡ Some word = e in cc)))
initial_offered (x ∷ xs) zero word =
    ((λ has. ap (λ w. Some w) (one_in x.word word has)), (λ e. subst (λ w. Contains (word_alone x) w) (same_word e) (first_in x.word [])))
initial_offered (x ∷ xs) (suc k) word = initial_offered xs k word

pub initial_sets : (t : Test) (sets : List (List ℕ)) → sets ≡ map word_alone t.locations → AreSets t (IsValueAfter t 0) sets
initial_sets t sets is = subst (AreSets t (IsValueAfter t 0)) (sym is) (record {
  locations = length-map t.locations word_alone;
  rising = alone_rise t.locations;
  words = initial_offered t.locations;
})
