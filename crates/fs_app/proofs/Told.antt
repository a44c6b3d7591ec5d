-- What is told below answers.
use Rattle.std.proofs.Common.{◌≡◌, ◌∙◌, ℕ, zero, suc, ◌+◌, ◌<◌, Bool, Option, None, Some, List, [], ◌∷◌, ◌++◌, append_assoc, arith, ap, length, refl, sym, subst, string_bytes}
use Rattle.std.specs.List.{AllZip, slice_index_or}
use Rattle.std.proofs.lemmas.List.{append-nil}
use Rattle.fs_app_io.specs.declared.status.Output.{Output}
use Rattle.fs_app_io.specs.declared.status.Status.{Status}
use Rattle.fs_app_solve_and_check.specs.Solve.{IsCertified}
use Rattle.fs_app_why.specs.Why.{IsCertifiedWhy}
use Rattle.fs_app.specs.Answers.{IsSolvedAndTold, IsSolvedIn}
use Rattle.fs_app_test.specs.declared.said.Line.{Line}
use Rattle.fs_app_why.specs.declared.telling.Telling.{Telling}
use Rattle.fs_app.specs.Telling.{AreToldFrom, IsSolveWhy, IsTestTold, IsToldBy}

-- where it isn't asked for nothing is told
pub untold : (asked : Option Telling) (P : Telling → List ℕ → Type 0) → asked ≡ None → IsToldBy asked P []
untold asked P e = subst (λ it. IsToldBy it P []) (sym e) refl

-- what is told of this is told of that
retold : (asked : Option Telling) (P Q : Telling → List ℕ → Type 0) (text : List ℕ)
    → ((telling : Telling) (text : List ℕ) → P telling text → Q telling text) → IsToldBy asked P text → IsToldBy asked Q text
retold (Some telling) P Q text f is = f telling text is
retold None P Q text f is = is

-- ---- of tests

pub one_more : (telling : Telling) (tests : List (List ℕ)) (k n : ℕ) (lines : List Line) (line : Line) (text told whole : List ℕ)
    → k + length lines ≡ n → AreToldFrom telling k lines tests text → IsTestTold telling line (slice_index_or tests n []) told
    → whole ≡ text ++ told → AreToldFrom telling k (lines ++ line ∷ []) tests whole
one_more telling tests k n [] line text told whole at none is e = (
  told,
  [],
  subst (λ (m : ℕ). IsTestTold telling line (slice_index_or tests m []) told) (sym (let here : k ≡ n = omega (arith, at) in here)) is,
  refl,
  e ∙ ap (λ before. before ++ told) none ∙ sym (append-nil told),
)
one_more telling tests k n (x ∷ lines) line text told whole at (first, others, is_first, are, is_text) is e = (
  first,
  others ++ told,
  is_first,
  one_more telling tests (k + 1) n lines line others told (others ++ told) (omega (arith, at)) are is refl,
  rw (e, is_text) (append_assoc first others told),
)

-- what is so place by place is so at this place
pub at_place : {A B : Type 0} (R : A → B → Type 0) (xs : List A) (ys : List B) (k : ℕ) (d : A) (e : B) → AllZip R xs ys → k < length xs
    → R (slice_index_or xs k d) (slice_index_or ys k e)
at_place R [] ys k d e each low = absurd (omega (arith, low))
at_place R (x ∷ xs) [] k d e each low = absurd each
at_place R (x ∷ xs) (y ∷ ys) zero d e each low = each.0
at_place R (x ∷ xs) (y ∷ ys) (suc k) d e each low = at_place R xs ys k d e each.1 (omega (arith, low))

-- ---- of `solve`

module _ (is_json : Bool) (asked : Option Telling) (test prices lines : List ℕ) where
  pub solved_alone : (output : Output) → asked ≡ None → IsSolvedIn is_json test prices lines (string_bytes output.text) output.status
      → IsSolvedAndTold is_json asked test prices output
  solved_alone output unasked answer = record {
    lines = lines;
    shown = string_bytes output.text;
    below = [];
    answer = answer;
    told = untold asked (λ telling. IsSolveWhy telling test prices lines output.status) unasked;
    text = sym (append-nil (string_bytes output.text));
  }

  pub solved_told : (output told : Output) (below certificate : List ℕ)
      → IsSolvedIn is_json test prices lines (string_bytes output.text) output.status
      → IsCertified test prices lines output.status certificate → IsToldBy asked (λ telling. IsCertifiedWhy telling test certificate) below
      → string_bytes told.text ≡ string_bytes output.text ++ below → told.status ≡ output.status
      → IsSolvedAndTold is_json asked test prices told
  solved_told output told below certificate answer certified is text status = record {
    lines = lines;
    shown = string_bytes output.text;
    below = below;
    answer = subst (IsSolvedIn is_json test prices lines (string_bytes output.text)) (sym status) answer;
    told = retold asked (λ telling. IsCertifiedWhy telling test certificate)
        (λ telling. IsSolveWhy telling test prices lines told.status) below
        (λ telling text of_certificate. record {
          certificate = certificate;
          certified = subst (λ (s : Status). IsCertified test prices lines s certificate) (sym status) certified;
          told = of_certificate;
        })
        is;
    text = text;
  }
