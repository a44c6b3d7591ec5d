-- Words of sites: none are left where no name is; and equal lists, one place more.
use Rattle.std.proofs.Common.{◌≡◌, ℕ, List, [], ◌∷◌, ◌++◌, map, length, refl, sym, ap, ◌∙◌, arith}
use Rattle.std.proofs.lemmas.List.{append-nil}
use Rattle.fs_kinds.specs.declared.placement.Entry.{Entry}
use Rattle.fs_sites_check.specs.Valid.{site_words}

module _ {S : Type 0} (f : S → List ℕ) where
  no-words : (p : List Entry) (names : List S) → length names ≡ 0 → site_words p (map f names) ≡ []
  no-words [] names none = refl
  no-words (e ∷ p) [] none = refl
  no-words (e ∷ p) (name ∷ names) none = absurd (omega (arith, none))

  -- where no name is left the words are all
  pub all-words : (p : List Entry) (names : List S) (words all : List (List ℕ)) → length names ≡ 0 → words ++ site_words p (map f names) ≡ all
      → words ≡ all
  all-words p names words all none is = sym (append-nil words) ∙ ap (λ xs. words ++ xs) (sym (no-words p names none)) ∙ is
