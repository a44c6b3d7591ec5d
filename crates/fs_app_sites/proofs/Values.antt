-- Sites in print: none are left where no name is, and no object of an answer has a float.
use Rattle.std.proofs.Common.{◌≡◌, ℕ, Bool, Option, None, Some, List, [], ◌∷◌, ◌++◌, map, length, false, refl, sym, ap, ◌∙◌, arith}
use Rattle.std.proofs.lemmas.List.{append-nil}
use Rattle.serde_json.specs.Data.{Data}
use Rattle.serde_json.specs.Written.{has_float, items_have_float}
use Rattle.fs_kinds.specs.declared.kind.Kind.{Kind}
use Rattle.fs_kinds.specs.declared.placement.Entry.{Entry}
use Rattle.fs_cert_evidence.specs.Texts.{items_of}
use Rattle.fs_report.proofs.Depths.{no_float}
use Rattle.fs_sites.specs.declared.answer.Answer.{Answer}
use Rattle.fs_sites.specs.declared.answer.Answer.TheVariants as answer
use Rattle.fs_app_sites.specs.declared.content.Tests.{Tests}
use Rattle.fs_app_sites.specs.Printed.{site_values, sites_lines, sites_values, value_of}

module _ {S : Type 0} (f : S → List ℕ) where
  no-lines : (is_alone : Bool) (p : List Entry) (names : List S) → length names ≡ 0 → sites_lines is_alone p (map f names) ≡ []
  no-lines is_alone [] names none = refl
  no-lines is_alone (e ∷ p) [] none = refl
  no-lines is_alone (e ∷ p) (name ∷ names) none = absurd (omega (arith, none))

  no-values : (p : List Entry) (names : List S) → length names ≡ 0 → sites_values p (map f names) ≡ []
  no-values [] names none = refl
  no-values (e ∷ p) [] none = refl
  no-values (e ∷ p) (name ∷ names) none = absurd (omega (arith, none))

  -- where no name is left the text has all
  pub all-lines : (is_alone : Bool) (p : List Entry) (names : List S) (text all : List ℕ) → length names ≡ 0
      → text ++ sites_lines is_alone p (map f names) ≡ all → text ≡ all
  all-lines is_alone p names text all none is =
      sym (append-nil text) ∙ ap (λ xs. text ++ xs) (sym (no-lines is_alone p names none)) ∙ is

  pub all-values : (p : List Entry) (names : List S) (values all : List Data) → length names ≡ 0
      → values ++ sites_values p (map f names) ≡ all → values ≡ all
  all-values p names values all none is = sym (append-nil values) ∙ ap (λ xs. values ++ xs) (sym (no-values p names none)) ∙ is

one-more : (name : List ℕ) (kind : Option Kind) (rest : List Data) → items_have_float (items_of rest) ≡ false
    → items_have_float (items_of (site_values name kind ++ rest)) ≡ false
one-more name None rest whole = whole
one-more name (Some kind) rest whole = whole

sites-whole : (p : List Entry) (names : List (List ℕ)) → items_have_float (items_of (sites_values p names)) ≡ false
sites-whole [] names = refl
sites-whole (e ∷ p) [] = refl
sites-whole (e ∷ p) (name ∷ names) = one-more name e.kind (sites_values p names) (sites-whole p names)

pub whole-value : (tests : Tests) (names : List (List ℕ)) (a : Answer) → has_float (value_of tests names a) ≡ false
whole-value tests names (answer.Fenced p cost) = rw (sites-whole p names) refl
whole-value tests names (answer.None number w) = rw (no_float w.witness) refl
