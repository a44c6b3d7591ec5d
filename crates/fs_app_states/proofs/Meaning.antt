-- What the condition says of a state is what it says of each execution that ends in it.
use Rattle.std.proofs.Common.{◌≡◌, ◌∙◌, sym, subst, ap, refl, ℕ, zero, suc, ◌+◌, ◌<◌, ◌≤◌, ◌==◌, List, [], ◌∷◌, map, filter, flat_map, length, Bool, true, false, not, ◌||◌, if◌then◌else◌, inl, inr, arith}
use Rattle.std.specs.List.{list_any, range_with_len}
use Rattle.std.proofs.lemmas.Bool.{false≢true, and_parts, and_from, or_cases, or_left, or_right, eqb-true}
use Rattle.std.proofs.lemmas.List.Folds.{list_any-append}
use Rattle.std.proofs.lemmas.Map.Views.{any-filter_same}
use Rattle.std.proofs.lemmas.List.Concat.{flat_map-cons}
use Rattle.fs_model.specs.declared.test.Test.{Test}
use Rattle.fs_model.specs.Condition.{Condition, condition_of, Always, Never, RegisterIs, LocationIs, Deny, Both, Either, SpeaksOf}
use Rattle.fs_model.specs.Numbers.{numbers_below}
use Rattle.fs_model.specs.Shows.{holds}
use Rattle.fs_judge_outcomes.specs.declared.place.Place.{Place}
use Rattle.fs_judge_outcomes.specs.declared.place.Place.TheVariants.{Register, Location}
use Rattle.fs_app_states.specs.declared.columns.Column.{Column}
use Rattle.fs_app_states.specs.Places.{is_place, speaks_of, is_shown, all_places, shown_places, AreColumns}
use Rattle.fs_app_states.specs.Report.{word_in, is_true}
use Rattle.fs_app_states.specs.Shown.{places_of}
use Rattle.fs_app_states.proofs.Showing.{places_made}

same_number : (n : ℕ) → (n == n) ≡ true
same_number n = grind arith

pub same_place : (place : Place) → is_place place place ≡ true
same_place (Register hart reg) = and_from (hart == hart) (reg == reg) (same_number hart) (same_number reg)
same_place (Location k) = same_number k

pub place_is : (p q : Place) → is_place p q ≡ true → p ≡ q
place_is (Register h r) (Register i s) e =
    let parts = and_parts (h == i) (r == s) e in
    let hart : h ≡ i = eqb-true h i parts.0 in
    let reg : r ≡ s = eqb-true r s parts.1 in
    rw (hart, reg) refl
place_is (Location k) (Location l) e = ap Location (eqb-true k l e)
place_is (Register h r) (Location l) e = absurd (false≢true e)
place_is (Location k) (Register h r) e = absurd (false≢true e)

-- ---- the word at a place

-- the place is among those of the columns
abbrev pub HasPlace : List Column → Place → Type 0
HasPlace columns place = list_any (λ column. is_place column.place place) columns ≡ true

pub word_found : (f : Place → ℕ) (columns : List Column) (place : Place) → HasPlace columns place → word_in columns (map f (places_of columns)) place ≡ f place
word_found f [] place h = absurd (false≢true h)
word_found f (c ∷ cs) place h = at (is_place c.place place) refl (word_found f cs place)
  where
    at : (b : Bool) → is_place c.place place ≡ b → (HasPlace cs place → word_in cs (map f (places_of cs)) place ≡ f place)
        → word_in (c ∷ cs) (map f (places_of (c ∷ cs))) place ≡ f place
    at true e below = ap (λ b. if b then f c.place else word_in cs (map f (places_of cs)) place) e ∙ ap f (place_is c.place place e)
    at false e below =
        ap (λ b. if b then f c.place else word_in cs (map f (places_of cs)) place) e
        ∙ below
        (elim (or_cases (is_place c.place place) (list_any (λ column. is_place column.place place) cs) h) [
          | inl here ↦ absurd (false≢true (sym e ∙ here))
          | inr there ↦ there
        ])

-- ---- the condition

module _ (f : Place → ℕ) (columns : List Column) where
  pub true_as : (c : Condition) → ((place : Place) → speaks_of c place ≡ true → HasPlace columns place)
      → is_true columns c (map f (places_of columns)) ≡ holds (λ hart reg. f (Register hart reg)) (λ k. f (Location k)) c
  true_as Always has = refl
  true_as Never has = refl
  true_as (RegisterIs hart reg word) has =
      ap (λ w. w == word) (word_found f columns (Register hart reg) (has (Register hart reg) (same_place (Register hart reg))))
  true_as (LocationIs location word) has =
      ap (λ w. w == word) (word_found f columns (Location location) (has (Location location) (same_place (Location location))))
  true_as (Deny c) has = ap not (true_as c has)
  true_as (Both c d) has =
      let left = true_as c (λ place e. has place (or_left (speaks_of c place) (speaks_of d place) e)) in
      let right = true_as d (λ place e. has place (or_right (speaks_of c place) (speaks_of d place) e)) in
      rw (left, right) refl
  true_as (Either c d) has =
      let left = true_as c (λ place e. has place (or_left (speaks_of c place) (speaks_of d place) e)) in
      let right = true_as d (λ place e. has place (or_right (speaks_of c place) (speaks_of d place) e)) in
      rw (left, right) refl

-- ---- a place of which the condition speaks is shown

-- the list has the place
abbrev Has : List Place → Place → Type 0
Has places place = list_any (λ other. is_place other place) places ≡ true

has_mapped : (f : ℕ → Place) (place : Place) (a n k : ℕ) → a ≤ k → k < a + n → is_place (f k) place ≡ true → Has (map f (range_with_len a n)) place
has_mapped f place a zero k low high e = absurd (omega (arith, low, high))
has_mapped f place a (suc n) k low high e = at (a == k) refl (λ more. has_mapped f place (a + 1) n k more (omega (arith, high)) e)
  where
    at : (b : Bool) → (a == k) ≡ b → (a + 1 ≤ k → Has (map f (range_with_len (a + 1) n)) place) → Has (map f (range_with_len a (suc n))) place
    at true same below =
        or_left (is_place (f a) place) (list_any (λ other. is_place other place) (map f (range_with_len (a + 1) n)))
        (subst (λ n. is_place (f n) place ≡ true) (sym (eqb-true a k same)) e)
    at false other below =
        or_right (is_place (f a) place) (list_any (λ other. is_place other place) (map f (range_with_len (a + 1) n)))
        (below (grind (arith, low, other)))

has_flat : (f : ℕ → List Place) (place : Place) (a n k : ℕ) → a ≤ k → k < a + n → Has (f k) place → Has (flat_map f (range_with_len a n)) place
has_flat f place a zero k low high e = absurd (omega (arith, low, high))
has_flat f place a (suc n) k low high e = at (a == k) refl (λ more. has_flat f place (a + 1) n k more (omega (arith, high)) e)
  where
    split : list_any (λ other. is_place other place) (flat_map f (range_with_len a (suc n))) ≡ (list_any (λ other. is_place other place) (f a) || list_any (λ other. is_place other place) (flat_map f (range_with_len (a + 1) n)))
    split = ap (list_any (λ other. is_place other place)) (flat_map-cons f a (range_with_len (a + 1) n)) ∙ list_any-append (λ other. is_place other place) (f a) (flat_map f (range_with_len (a + 1) n))

    at : (b : Bool) → (a == k) ≡ b → (a + 1 ≤ k → Has (flat_map f (range_with_len (a + 1) n)) place) → Has (flat_map f (range_with_len a (suc n))) place
    at true same below =
        split ∙ or_left (list_any (λ other. is_place other place) (f a)) (list_any (λ other. is_place other place) (flat_map f (range_with_len (a + 1) n)))
        (subst (λ n. Has (f n) place) (sym (eqb-true a k same)) e)
    at false other below =
        split ∙ or_right (list_any (λ other. is_place other place) (f a)) (list_any (λ other. is_place other place) (flat_map f (range_with_len (a + 1) n)))
        (below (grind (arith, low, other)))

module _ (harts locations : ℕ) where
  abbrev registers : List Place
  registers = flat_map (λ hart. map (Register hart) (numbers_below 32)) (numbers_below harts)

  abbrev numbered : List Place
  numbered = map Location (numbers_below locations)

  abbrev is_there : (place : Place) → Bool
  is_there place = list_any (λ other. is_place other place) registers || list_any (λ other. is_place other place) numbered

  split_all : (place : Place) → list_any (λ other. is_place other place) (all_places harts locations) ≡ is_there place
  split_all place = list_any-append (λ other. is_place other place) registers numbered

  has_register : (hart reg : ℕ) → hart < harts → reg < 32 → Has (all_places harts locations) (Register hart reg)
  has_register hart reg low high =
      let place = Register hart reg in
      split_all place
      ∙ or_left (list_any (λ other. is_place other place) registers) (list_any (λ other. is_place other place) numbered)
      (has_flat (λ hart. map (Register hart) (numbers_below 32)) place 0 harts hart (omega arith) (omega (arith, low))
      (has_mapped (Register hart) place 0 32 reg (omega arith) high (same_place place)))

  has_location : (k : ℕ) → k < locations → Has (all_places harts locations) (Location k)
  has_location k low =
      let place = Location k in
      split_all place
      ∙ or_right (list_any (λ other. is_place other place) registers) (list_any (λ other. is_place other place) numbered)
      (has_mapped Location place 0 locations k (omega arith) (omega (arith, low)) (same_place place))

  spoken : (c : Condition) → SpeaksOf harts locations c → (place : Place) → speaks_of c place ≡ true → Has (all_places harts locations) place
  spoken Always s place e = absurd (false≢true e)
  spoken Never s place e = absurd (false≢true e)
  spoken (RegisterIs hart reg word) s place e =
      subst (Has (all_places harts locations)) (place_is (Register hart reg) place e) (has_register hart reg s.0 s.1)
  spoken (LocationIs location word) s place e =
      subst (Has (all_places harts locations)) (place_is (Location location) place e) (has_location location s.0)
  spoken (Deny c) s place e = spoken c s place e
  spoken (Both c d) s place e =
      elim (or_cases (speaks_of c place) (speaks_of d place) e) [ inl one ↦ spoken c s.0 place one | inr other ↦ spoken d s.1 place other ]
  spoken (Either c d) s place e =
      elim (or_cases (speaks_of c place) (speaks_of d place) e) [ inl one ↦ spoken c s.0 place one | inr other ↦ spoken d s.1 place other ]

has_shown : (t : Test) (listed : List Place) (all : Bool) (places : List Place) (place : Place) → speaks_of (condition_of t.condition) place ≡ true → Has places place → Has (filter (is_shown t listed all) places) place
has_shown t listed all places place e has =
    any-filter_same (λ other. is_place other place) (is_shown t listed all) true
    (λ other same. or_left (speaks_of (condition_of t.condition) other) _ (subst (λ p. speaks_of (condition_of t.condition) p ≡ true) (sym (place_is other place same)) e))
    places
    ∙ has

any_column : (place : Place) (columns : List Column) → list_any (λ column. is_place column.place place) columns ≡ list_any (λ other. is_place other place) (places_of columns)
any_column place [] = refl
any_column place (c ∷ cs) = ap (λ b. is_place c.place place || b) (any_column place cs)

-- of each execution, and of whatever gives each place a word
pub condition_meant : (bytes : List ℕ) (t : Test) (all : Bool) (columns : List Column) → AreColumns bytes t all columns
    → SpeaksOf (length t.codes) (length t.locations) (condition_of t.condition) → (f : Place → ℕ)
    → is_true columns (condition_of t.condition) (map f (places_of columns)) ≡ holds (λ hart reg. f (Register hart reg)) (λ k. f (Location k)) (condition_of t.condition)
condition_meant bytes t all columns h speaks f =
    let shown = h.3 in
    let places = shown_places t shown.listed all in
    let same : places_of columns ≡ places = ap places_of shown.are_columns ∙ places_made t h.0 places in
    true_as f columns (condition_of t.condition)
    (λ place e. any_column place columns
    ∙ ap (list_any (λ other. is_place other place)) same
    ∙ has_shown t shown.listed all (all_places (length t.codes) (length t.locations)) place e (spoken (length t.codes) (length t.locations) (condition_of t.condition) speaks place e))
