-- An answer with a certificate.
use Rattle.std.proofs.Common.{◌≡◌, Bool, ℕ, Option, None, Some, IfSome, List, ◌++◌, String, Global, string_bytes, false, ap, subst, ◌∙◌}
use Rattle.fs_app_io.specs.declared.status.Status.{Status}
use Rattle.fs_app_io.specs.declared.status.Status.TheVariants.{Success}
use Rattle.fs_sites.specs.Answers.{IsAnswer}
use Rattle.fs_sites.specs.Questions.{Question}
use Rattle.fs_sites.specs.declared.answer.Answer.{Answer}
use Rattle.fs_app_solve_and_check.specs.Check.{yes_line}
use Rattle.fs_app_sites.specs.declared.content.Tests.{Tests}
use Rattle.fs_app_sites.specs.Asked.{IsAsked}
use Rattle.fs_app_sites.specs.Printed.{answer_text, status_of}
use Rattle.fs_app_sites.specs.Sites.{names_of, question_of}
use Rattle.fs_app_sites_check_and_audit.specs.Certified.{IsAccepted, IsCertified}
use Rattle.fs_app_sites_check_and_audit.specs.Checked.{IsSitesChecked}

module _ (tests : Tests) (prices : List ℕ) where
  certified : (q : Question) (names : List (List ℕ)) (is_json : Bool) (text : List ℕ) (status : Status) (found : Answer)
      (certificate : List ℕ) → IsAsked tests prices q names → IsAnswer q found → text ≡ answer_text is_json tests names found
      → status ≡ status_of found → IsAccepted tests prices certificate (answer_text false tests names found)
      → IsCertified is_json tests prices text status certificate
  certified q names is_json text status found certificate asked answer shown ends accepted =
      let is : q ≡ question_of asked.table (names_of asked.contents) asked.contents =
      asked.asks ∙ ap (λ ns. question_of asked.table ns asked.contents) asked.named in
      record {
        solved = record {
          contents = asked.contents;
          table = asked.table;
          read = asked.read;
          priced = asked.priced;
          found = found;
          answer = subst (λ asks. IsAnswer asks found) is answer;
          shown = shown ∙ ap (λ ns. answer_text is_json tests ns found) asked.named;
          ends = ends;
        };
        accepted = subst (λ ns. IsAccepted tests prices certificate (answer_text false tests ns found)) asked.named accepted;
      }

  pub is_accepted : (certificate lines text line : List ℕ) (status : Status) → IsSitesChecked tests prices certificate text line status
      → text ≡ yes_line ++ lines → status ≡ Success → IsAccepted tests prices certificate lines
  is_accepted certificate lines text line status checked shown ends = (
    line,
    subst (λ xs. IsSitesChecked tests prices certificate xs line Success) shown
        (subst (IsSitesChecked tests prices certificate text line) ends checked),
  )

  -- whatever text there is
  pub each_certified : (q : Question) (names : List (List ℕ)) (is_json : Bool) (text : List ℕ) (status : Status) (found : Answer)
      (made : Option (String Global)) → IsAsked tests prices q names → IsAnswer q found
      → text ≡ answer_text is_json tests names found → status ≡ status_of found
      → IfSome made (λ s. IsAccepted tests prices (string_bytes s) (answer_text false tests names found))
      → IfSome made (λ s. IsCertified is_json tests prices text status (string_bytes s))
  each_certified q names is_json text status found None asked answer shown ends accepted = tt
  each_certified q names is_json text status found (Some s) asked answer shown ends accepted =
      certified q names is_json text status found (string_bytes s) asked answer shown ends accepted

  -- of bytes and lines as they were passed on
  pub accepted-again : (bytes text lines given shown : List ℕ) → bytes ≡ text → lines ≡ given → given ≡ shown
      → IsAccepted tests prices bytes lines → IsAccepted tests prices text shown
  accepted-again bytes text lines given shown same one two accepted =
      subst (λ xs. IsAccepted tests prices xs shown) same (subst (IsAccepted tests prices bytes) (one ∙ two) accepted)
