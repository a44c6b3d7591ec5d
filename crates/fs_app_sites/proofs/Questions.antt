-- The question of files may be asked.
use Rattle.std.proofs.Common.{◌≡◌, ℕ, true, IsSome, List, [], ◌∷◌, refl, ap, ◌∙◌}
use Rattle.std.specs.List.{All}
use Rattle.std.proofs.lemmas.List.Elements.{All-map, All-weaker}
use Rattle.serde_json.specs.Data.{Data}
use Rattle.fs_kinds.specs.declared.kind.Kind.TheVariants.{RwRw}
use Rattle.fs_kinds.specs.declared.slot.Slot.{Slot}
use Rattle.fs_kinds.specs.Slot.{is_rising}
use Rattle.fs_sites.specs.Questions.{IsPart, IsQuestion, slots_at}
use Rattle.fs_app_sites.specs.SitePrices.{price_of}
use Rattle.fs_app_sites.specs.Sites.{Content, Copy, IsSound, part_of, places_of, question_of, slots_of}
use Rattle.fs_app_sites.proofs.Offered.{has-top, plain}

module _ (names : List (List ℕ)) where
  pub same-slots : (copies : List Copy) → slots_at (places_of names copies) ≡ slots_of copies
  same-slots [] = refl
  same-slots (copy ∷ copies) = ap (λ (ss : List Slot). copy.slot ∷ ss) (same-slots copies)

  is-part : (c : Content) → IsSound c → IsPart (part_of names c)
  is-part c sound = record {
    rising = ap is_rising (same-slots c.copies) ∙ sound.rising;
    bounded = sound.test.bounded;
    starts = sound.test.registers;
  }

  pub is-question : (prices : Data) (contents : List Content) → IsSome (price_of prices RwRw) → All IsSound contents
      → IsQuestion (question_of prices names contents)
  is-question prices contents top sound = record {
    parts = All-map IsPart (part_of names) contents (All-weaker IsSound (λ c. IsPart (part_of names c)) is-part contents sound);
    top = has-top prices top names;
    plain = plain prices names;
  }
