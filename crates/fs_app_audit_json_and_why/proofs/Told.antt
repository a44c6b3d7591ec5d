-- What is told of places, one by one.
use Rattle.std.proofs.Common.{◌≡◌, ◌∙◌, ℕ, List, [], ◌∷◌, ◌++◌, append_assoc, ap, refl, sym}
use Rattle.std.proofs.lemmas.List.{append-nil}
use Rattle.fs_kinds.specs.declared.placement.Entry.{Entry}
use Rattle.fs_model.specs.declared.test.Test.{Test}
use Rattle.fs_app_why.specs.Kinds.{ChainKind}
use Rattle.fs_app_why.specs.declared.telling.Telling.{Telling}
use Rattle.fs_app_why.specs.Why.{asked}
use Rattle.fs_app_audit_json_and_why.specs.Why.{TellsPlace, TellsPlaces}

module _ (t : Test) (lines : List (List ℕ)) (telling : Telling) (kinds : List ChainKind) (p : List Entry) where
  -- one more
  pub places_more : (entries : List Entry) (entry : Entry) (text told whole : List ℕ) → TellsPlaces t lines telling kinds p entries text
      → TellsPlace t lines telling kinds p entry.slot (asked telling entry).kind told → whole ≡ text ++ told
      → TellsPlaces t lines telling kinds p (entries ++ entry ∷ []) whole
  places_more [] entry text told whole none is e = (told, [], is, refl, e ∙ ap (λ before. before ++ told) none ∙ sym (append-nil told))
  places_more (x ∷ entries) entry text told whole (first, others, is_first, are, is_text) is e =
      (first, others ++ told, is_first, places_more entries entry others told (others ++ told) are is refl, rw (e, is_text) (append_assoc first others told))
