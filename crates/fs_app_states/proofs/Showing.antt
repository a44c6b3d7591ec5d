-- The places that are shown are places of the test.
use Rattle.std.proofs.Common.{◌≡◌, ◌∙◌, ap, refl, ℕ, zero, suc, ◌+◌, ◌<◌, ◌≤◌, List, [], ◌∷◌, ◌++◌, map, flat_map, length, Bool, arith}
use Rattle.std.specs.Prelude.{All}
use Rattle.std.specs.List.{range_with_len}
use Rattle.std.proofs.lemmas.List.Elements.{All-nil, All-cons, All-head, All-tail, All-append, All-map, All-filter, All-same}
use Rattle.std.proofs.lemmas.List.Concat.{flat_map-cons}
use Rattle.fs_model.specs.declared.test.Test.{Test}
use Rattle.fs_model.specs.Numbers.{numbers_below}
use Rattle.fs_judge_outcomes.specs.declared.place.Place.{Place}
use Rattle.fs_judge_outcomes.specs.declared.place.Place.TheVariants.{Register, Location}
use Rattle.fs_judge_outcomes.specs.States.{IsPlaceOf, ArePlacesOf}
use Rattle.fs_litmus_tokens.specs.Tokens.{Lined}
use Rattle.fs_app_states.specs.declared.columns.Column.{Column}
use Rattle.fs_app_states.specs.Places.{all_places, is_shown, shown_places, column_of, AreColumns}
use Rattle.fs_app_states.specs.Shown.{places_of}

-- what all numbers below its end have, all numbers of a range have
All-range : (P : ℕ → Type 0) (a n m : ℕ) → a + n ≤ m → ((k : ℕ) → k < m → P k) → All P (range_with_len a n)
All-range P a zero m h p = All-nil P
All-range P a (suc n) m h p =
    All-cons P a (range_with_len (a + 1) n) (p a (omega (arith, h))) (All-range P (a + 1) n m (omega (arith, h)) p)

All-flat_map : {X : Type 0} (P : X → Type 0) (f : ℕ → List X) (ns : List ℕ) → All (λ n. All P (f n)) ns → All P (flat_map f ns)
All-flat_map P f [] h = All-nil P
All-flat_map P f (n ∷ ns) h =
    All-same P (flat_map f (n ∷ ns)) (f n ++ flat_map f ns) (flat_map-cons f n ns)
    (All-append P (f n) (flat_map f ns) (All-head (λ n. All P (f n)) n ns h) (All-flat_map P f ns (All-tail (λ n. All P (f n)) n ns h)))

module _ (harts locations : ℕ) where
  abbrev is_place_of : Place → Type 0
  is_place_of = IsPlaceOf harts locations

  pub all_are_places : All (IsPlaceOf harts locations) (all_places harts locations)
  all_are_places =
      All-append is_place_of (flat_map (λ hart. map (Register hart) (numbers_below 32)) (numbers_below harts)) (map Location (numbers_below locations))
      (All-flat_map is_place_of (λ hart. map (Register hart) (numbers_below 32)) (numbers_below harts)
      (All-range (λ hart. All is_place_of (map (Register hart) (numbers_below 32))) 0 harts harts (omega arith)
      (λ hart low. All-map is_place_of (Register hart) (numbers_below 32)
      (All-range (λ reg. is_place_of (Register hart reg)) 0 32 32 (omega arith) (λ reg high. (low, high))))))
      (All-map is_place_of Location (numbers_below locations)
      (All-range (λ k. is_place_of (Location k)) 0 locations locations (omega arith) (λ k low. low)))

-- the places of the columns are those that they were made of
pub places_made : (t : Test) (tokens : List Lined) (places : List Place) → places_of (map (column_of t tokens) places) ≡ places
places_made t tokens [] = refl
places_made t tokens (place ∷ places) = ap (λ rest. place ∷ rest) (places_made t tokens places)

pub are_places : (bytes : List ℕ) (t : Test) (all : Bool) (columns : List Column) → AreColumns bytes t all columns → ArePlacesOf t (places_of columns)
are_places bytes t all columns h =
    let shown = h.3 in
    let places = shown_places t shown.listed all in
    let same : places_of columns ≡ places = ap places_of shown.are_columns ∙ places_made t h.0 places in
    All-same (IsPlaceOf (length t.codes) (length t.locations)) (places_of columns) places same
    (All-filter (is_shown t shown.listed all) (IsPlaceOf (length t.codes) (length t.locations)) (all_places (length t.codes) (length t.locations)) (all_are_places (length t.codes) (length t.locations)))
