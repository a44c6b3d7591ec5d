-- What files hold, one after the other, and what is answered of it.
use Rattle.std.proofs.Common.{◌≡◌, ◌<◌, ◌+◌, Bool, ℕ, List, [], ◌∷◌, ◌++◌, length, get_or, take, drop, map, inl, inr, sym, ap, subst, ◌∙◌}
use Rattle.std.specs.List.{AllZip}
use Rattle.std.proofs.lemmas.List.{drop_more, take_more}
use Rattle.serde_json.specs.Data.{Data}
use Rattle.fs_kinds.specs.declared.fault.Fault.{Fault}
use Rattle.fs_app_io.specs.declared.status.Status.{Status}
use Rattle.fs_sites.specs.Answers.{IsAnswer}
use Rattle.fs_sites.specs.declared.answer.Answer.{Answer}
use Rattle.fs_sites.specs.Questions.{Question}
use Rattle.fs_app_sites.specs.declared.content.File.{File}
use Rattle.fs_app_sites.specs.declared.content.Tests.{Tests}
use Rattle.fs_app_sites.specs.Asked.{IsAsked}
use Rattle.fs_app_sites.specs.Printed.{answer_text, status_of}
use Rattle.fs_app_sites.specs.SitePrices.{AreSitePrices}
use Rattle.fs_app_sites.specs.Sites.{Content, AreContents, IsContentOf, IsFaultIn, IsFileFault, names_of, question_of}
use Rattle.fs_app_sites.specs.Solved.{IsSolved}

-- ---- one file more

one-more : {A B : Type 0} (R : A → B → Type 0) (xs : List A) (ys : List B) (x : A) (y : B) → AllZip R xs ys → R x y
    → AllZip R (xs ++ x ∷ []) (ys ++ y ∷ [])
one-more R [] [] x y are is = (is, tt)
one-more R [] (v ∷ ys) x y are is = absurd are
one-more R (u ∷ xs) [] x y are is = absurd are
one-more R (u ∷ xs) (v ∷ ys) x y are is = (are.0, one-more R xs ys x y are.1 is)

-- of the tests' files, as they were passed on
module _ (tests : Tests) (files : List File) (i : ℕ) (file : File) (same : files ≡ tests.files) (low : i < length files)
    (at : file ≡ get_or files i file) where
  pub read-more : (contents : List Content) (c : Content) → AllZip (IsContentOf tests) (take i tests.files) contents
      → IsContentOf tests file c → AllZip (IsContentOf tests) (take (i + 1) tests.files) (contents ++ c ∷ [])
  read-more contents c are is =
      let more : take (i + 1) tests.files ≡ take i tests.files ++ file ∷ [] =
      (ap (take (i + 1)) (sym same) ∙ take_more files i file low ∙ ap (λ x. take i files ++ x ∷ []) (sym at)
      ∙ ap (λ (fs : List File). take i fs ++ file ∷ []) same) in
      subst (λ fs. AllZip (IsContentOf tests) fs (contents ++ c ∷ [])) (sym more)
      (one-more (IsContentOf tests) (take i tests.files) contents file c are is)

  left : drop i tests.files ≡ file ∷ drop (i + 1) tests.files
  left =
      ap (drop i) (sym same) ∙ drop_more files i file low ∙ ap (λ x. x ∷ drop (i + 1) files) (sym at)
      ∙ ap (λ (fs : List File). file ∷ drop (i + 1) fs) same

  pub later-fault : (c : Content) (f : Fault) → IsContentOf tests file c → IsFaultIn tests (drop (i + 1) tests.files) f
      → IsFaultIn tests (drop i tests.files) f
  later-fault c f is fault = subst (λ fs. IsFaultIn tests fs f) (sym left) (inr ((c, is), fault))

  pub own-fault : (f : Fault) → IsFileFault file.bytes.items f → IsFaultIn tests (drop i tests.files) f
  own-fault f fault = subst (λ fs. IsFaultIn tests fs f) (sym left) (inl fault)

-- ---- the question

module _ (tests : Tests) (prices : List ℕ) (q : Question) where
  -- of what was read, which was passed on
  pub is-asked : (names : List (List ℕ)) (contents passed : List Content) (table : Data) → AreContents tests contents → AreSitePrices prices table
      → passed ≡ contents → names ≡ names_of passed → q ≡ question_of table names passed → IsAsked tests prices q names
  is-asked names contents passed table read priced same named asks = record {
    contents = contents;
    table = table;
    read = read;
    priced = priced;
    named = named ∙ ap names_of same;
    asks = asks ∙ ap (question_of table names) same;
  }

  -- ---- the answer

  -- of the names as they were passed on
  pub asked-again : {S : Type 0} (f : S → List ℕ) (first second : List S) → second ≡ first → IsAsked tests prices q (map f first)
      → IsAsked tests prices q (map f second)
  asked-again f first second same asked = subst (λ ns. IsAsked tests prices q (map f ns)) (sym same) asked

  pub is-solved : (names : List (List ℕ)) (is_json : Bool) (text : List ℕ) (status : Status) (found : Answer) → IsAsked tests prices q names
      → IsAnswer q found → text ≡ answer_text is_json tests names found → status ≡ status_of found
      → IsSolved is_json tests prices text status
  is-solved names is_json text status found asked answer shown ends =
      let is : q ≡ question_of asked.table (names_of asked.contents) asked.contents =
      asked.asks ∙ ap (λ ns. question_of asked.table ns asked.contents) asked.named in
      record {
        contents = asked.contents;
        table = asked.table;
        read = asked.read;
        priced = asked.priced;
        found = found;
        answer = subst (λ asks. IsAnswer asks found) is answer;
        shown = shown ∙ ap (λ ns. answer_text is_json tests ns found) asked.named;
        ends = ends;
      }
