-- The fences of sites put into a test, place by place.
use Rattle.std.proofs.Common.{◌≡◌, ℕ, zero, suc, ◌+◌, ◌<◌, ◌≤◌, true, false, ◌||◌, Option, None, List, [], ◌∷◌, length, drop, refl, ap, ap₂, ◌∙◌, arith}
use Rattle.std.specs.Prelude.{if◌then◌else◌, get_or}
use Rattle.std.specs.List.{list_all}
use Rattle.std.proofs.lemmas.Bool.{and_parts}
use Rattle.std.proofs.lemmas.Bool.Decides.{nat_tests}
use Rattle.fs_kinds.specs.declared.kind.Kind.{Kind}
use Rattle.fs_kinds.specs.declared.placement.Entry.{Entry}
use Rattle.fs_kinds.specs.declared.slot.Slot.{Slot}
use Rattle.fs_kinds.specs.Placement.{all_with, has_slot, with_kind}
use Rattle.fs_kinds.specs.Slot.{is_same_slot, is_before, is_rising}
use Rattle.fs_model_laws.proofs.PlacedPairs.{itself}
use Rattle.fs_sites.specs.Questions.{image, kind_of, slots_at}
use Rattle.fs_sites.specs.declared.question.Place.{Place}
use Rattle.fs_sites.specs.inner.Fills.{put_at, put_all}

-- ---- a slot that isn't there

pub put_nowhere : (s : Slot) (kind : Option Kind) (p : List Entry) → has_slot s p ≡ false → with_kind s kind p ≡ p
put_nowhere s kind [] none = refl
put_nowhere s kind (e ∷ p) none =
    elim (is_same_slot e.slot s) as (λ b. (b || has_slot s p) ≡ false → ((if b then record { slot = e.slot; kind = kind } else e) ∷ with_kind s kind p) ≡ e ∷ p) [
      | true ↦ λ h. absurd (cc)
      | false ↦ λ h. ap (λ q. e ∷ q) (put_nowhere s kind p h)
    ] none

-- ---- slots that rise

later : (s u : Slot) → is_before s u ≡ true → is_same_slot s u ≡ false
later s u before = grind (arith, nat_tests)

earlier : (s u : Slot) → is_before s u ≡ true → is_same_slot u s ≡ false
earlier s u before = grind (arith, nat_tests)

-- what is put at a slot isn't put at later ones
none_after : (s : Slot) (put : Option Kind) (ss : List Slot) → list_all (is_before s) ss ≡ true
    → with_kind s put (all_with None ss) ≡ all_with None ss
none_after s put [] after = refl
none_after s put (u ∷ ss) after =
    let parts = and_parts (is_before s u) _ after in
    ap₂ (λ b p. (if b then record { slot = u; kind = put } else record { slot = u; kind = None }) ∷ p) (earlier s u parts.0) (none_after s put ss parts.1)

module _ (p : List Entry) where
  -- ---- what is still to be put

  pub put_drop : (places : List Place) (i : ℕ) (d : Place) (fences : List Entry) → i < length places
      → put_all p (drop i places) fences ≡ put_all p (drop (i + 1) places) (put_at p (get_or places i d) fences)
  put_drop [] i d fences l = absurd (omega arith)
  put_drop (x ∷ xs) zero d fences l = refl
  put_drop (x ∷ xs) (suc i) d fences l = let e : suc i + 1 ≡ suc (i + 1) = omega arith in rw e (put_drop xs i d fences (omega arith))

  pub put_end : (places : List Place) (i : ℕ) (fences : List Entry) → length places ≤ i → put_all p (drop i places) fences ≡ fences
  put_end [] zero fences l = refl
  put_end [] (suc i) fences l = refl
  put_end (x ∷ xs) zero fences l = absurd (omega arith)
  put_end (x ∷ xs) (suc i) fences l = put_end xs i fences (omega arith)

  -- ---- all of it

  abbrev entry_at : Place → Entry
  entry_at place = record { slot = place.slot; kind = kind_of place.site p }

  -- putting something at later slots leaves the first one as it is
  put_after : (e : Entry) (places : List Place) (fences : List Entry) → list_all (is_before e.slot) (slots_at places) ≡ true
      → put_all p places (e ∷ fences) ≡ e ∷ put_all p places fences
  put_after e [] fences after = refl
  put_after e (x ∷ xs) fences after =
      let parts = and_parts (is_before e.slot x.slot) _ after in
      ap (λ b. put_all p xs ((if b then record { slot = e.slot; kind = kind_of x.site p } else e) ∷ put_at p x fences)) (later e.slot x.slot parts.0)
      ∙ put_after e xs (put_at p x fences) parts.1

  pub filled : (places : List Place) → is_rising (slots_at places) ≡ true
      → put_all p places (all_with None (slots_at places)) ≡ image places p
  filled [] rising = refl
  filled (x ∷ xs) rising =
      let parts = and_parts (list_all (is_before x.slot) (slots_at xs)) _ rising in
      ap (put_all p xs)
      (ap₂ (λ b fences. (if b then entry_at x else record { slot = x.slot; kind = None }) ∷ fences) (itself x.slot) (none_after x.slot (kind_of x.site p) (slots_at xs) parts.0))
      ∙ (put_after (entry_at x) xs (all_with None (slots_at xs)) parts.0
      ∙ ap (λ fences. entry_at x ∷ fences) (filled xs parts.1))
