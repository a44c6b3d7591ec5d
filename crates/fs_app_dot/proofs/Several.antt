-- Pictures of several things.
use Rattle.std.proofs.Common.{◌≡◌, ◌∙◌, Option, List, [], ◌∷◌, ◌++◌, append_assoc, ap, refl, sym}
use Rattle.std.proofs.lemmas.List.{append-nil}
use Rattle.fs_app_why.specs.Traces.{as_list}
use Rattle.fs_app_dot.specs.declared.picture.Picture.{Picture}
use Rattle.fs_app_dot.specs.Kinds.{AreOf}

module _ {A : Type 0} (IsOf : A → Option Picture → Type 0) where
  -- of one more
  pub are_more : (xs : List A) (x : A) (before whole : List Picture) (found : Option Picture)
      → AreOf IsOf xs before → IsOf x found → whole ≡ before ++ as_list found → AreOf IsOf (xs ++ x ∷ []) whole
  are_more [] x before whole found none is e =
      (found, [], is, refl, e ∙ ap (λ those. those ++ as_list found) none ∙ sym (append-nil (as_list found)))
  are_more (y ∷ xs) x before whole found (first, others, is_first, are, is_before) is e = (
    first,
    others ++ as_list found,
    is_first,
    are_more xs x others (others ++ as_list found) found are is refl,
    rw (e, is_before) (append_assoc (as_list first) others (as_list found)),
  )
