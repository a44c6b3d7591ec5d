-- What files hold, one after the other.
use Rattle.std.proofs.Common.{◌≡◌, ◌<◌, ◌+◌, ℕ, List, [], ◌∷◌, ◌++◌, length, get_or, take, drop, inl, inr, sym, ap, subst, ◌∙◌}
use Rattle.std.specs.List.{AllZip}
use Rattle.std.proofs.lemmas.List.{drop_more, take_more}
use Rattle.fs_kinds.specs.declared.fault.Fault.{Fault}
use Rattle.fs_app_sites.specs.declared.content.File.{File}
use Rattle.fs_app_sites_check_and_audit.specs.Files.{IsFirstIn}

module _ {A : Type 0} (Holds : File → A → Type 0) (Has : File → Fault → Type 0) where
  one_more : (files : List File) (xs : List A) (file : File) (x : A) → AllZip Holds files xs → Holds file x
      → AllZip Holds (files ++ file ∷ []) (xs ++ x ∷ [])
  one_more [] [] file x are is = (is, tt)
  one_more [] (y ∷ xs) file x are is = absurd are
  one_more (f ∷ files) [] file x are is = absurd are
  one_more (f ∷ files) (y ∷ xs) file x are is = (are.0, one_more files xs file x are.1 is)

  module _ (files : List File) (i : ℕ) (file : File) (low : i < length files) (at : file ≡ get_or files i file) where
    pub read_more : (xs : List A) (x : A) → AllZip Holds (take i files) xs → Holds file x
        → AllZip Holds (take (i + 1) files) (xs ++ x ∷ [])
    read_more xs x are is =
        let more : take (i + 1) files ≡ take i files ++ file ∷ [] = take_more files i file low ∙ ap (λ y. take i files ++ y ∷ []) (sym at) in
        subst (λ fs. AllZip Holds fs (xs ++ x ∷ [])) (sym more) (one_more (take i files) xs file x are is)

    left : drop i files ≡ file ∷ drop (i + 1) files
    left = drop_more files i file low ∙ ap (λ y. y ∷ drop (i + 1) files) (sym at)

    pub later_fault : (x : A) (f : Fault) → Holds file x → IsFirstIn Holds Has (drop (i + 1) files) f
        → IsFirstIn Holds Has (drop i files) f
    later_fault x f is fault = subst (λ fs. IsFirstIn Holds Has fs f) (sym left) (inr ((x, is), fault))

    pub own_fault : (f : Fault) → Has file f → IsFirstIn Holds Has (drop i files) f
    own_fault f fault = subst (λ fs. IsFirstIn Holds Has fs f) (sym left) (inl fault)
