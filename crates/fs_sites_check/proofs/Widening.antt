-- The widths at places, one place more.
use Rattle.std.proofs.Common.{◌≡◌, ℕ, ◌<◌, ◌≤◌, ◌+◌, List, [], ◌∷◌, ◌++◌, length, take, get_or, refl, sym, ap, ◌∙◌}
use Rattle.std.proofs.lemmas.List.{take_more, take_all}
use Rattle.fs_cert_evidence.specs.declared.evidence.Pairs.{Pairs}
use Rattle.fs_cert_evidence.specs.Evidence.{pairs_at, widths_of}
use Rattle.fs_cert_evidence.specs.Widths.{Width}
use Rattle.fs_sites.specs.Questions.{slots_at}
use Rattle.fs_sites.specs.declared.question.Place.{Place}

module _ (w : Width) (places : List Place) where
  appended : (xs : List Place) (y : Place) → widths_of w (slots_at (xs ++ y ∷ [])) ≡ widths_of w (slots_at xs) ++ pairs_at w y.slot ∷ []
  appended [] y = refl
  appended (x ∷ xs) y = ap (λ (r : List Pairs). pairs_at w x.slot ∷ r) (appended xs y)

  pub more-widths : (i : ℕ) (place : Place) (items new : List Pairs) (x : Pairs) → i < length places → place ≡ get_or places i place
      → items ≡ widths_of w (slots_at (take i places)) → x ≡ pairs_at w place.slot → new ≡ items ++ x ∷ []
      → new ≡ widths_of w (slots_at (take (i + 1) places))
  more-widths i place items new x low at before one grown =
      let more : take (i + 1) places ≡ take i places ++ place ∷ [] = take_more places i place low ∙ ap (λ z. take i places ++ z ∷ []) (sym at) in
      grown
      ∙ (ap (λ xs. xs ++ x ∷ []) before
      ∙ (ap (λ z. widths_of w (slots_at (take i places)) ++ z ∷ []) one
      ∙ (sym (appended (take i places) place) ∙ ap (λ ps. widths_of w (slots_at ps)) (sym more))))

  pub all-widths : (i : ℕ) (items : List Pairs) → length places ≤ i → items ≡ widths_of w (slots_at (take i places))
      → items ≡ widths_of w (slots_at places)
  all-widths i items past before = before ∙ ap (λ ps. widths_of w (slots_at ps)) (take_all i places past)
