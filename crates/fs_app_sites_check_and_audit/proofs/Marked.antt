-- Copies of a file in turn: none are left where nothing more is written.
use Rattle.std.proofs.Common.{◌≡◌, ℕ, List, [], ◌∷◌, ◌++◌, length, refl, sym, ap, ◌∙◌, arith}
use Rattle.std.proofs.lemmas.List.{append-nil}
use Rattle.fs_sites.specs.declared.question.Place.{Place}
use Rattle.fs_app_sites_check_and_audit.specs.Marks.{marked}
use Rattle.fs_app_sites_check_and_audit.specs.declared.held.Written.{Written}
use Rattle.fs_app_sites_check_and_audit.specs.declared.marks.Mark.{Mark}

none_marked : (file : ℕ) (places : List Place) (written : List Written) → length written ≡ 0 → marked file places written ≡ []
none_marked file [] written none = refl
none_marked file (place ∷ places) [] none = refl
none_marked file (place ∷ places) (w ∷ written) none = absurd (omega (arith, none))

pub all_marked : (file : ℕ) (places : List Place) (written : List Written) (marks all : List Mark) → length written ≡ 0
    → marks ++ marked file places written ≡ all → marks ≡ all
all_marked file places written marks all none is =
    sym (append-nil marks) ∙ ap (λ xs. marks ++ xs) (sym (none_marked file places written none)) ∙ is
