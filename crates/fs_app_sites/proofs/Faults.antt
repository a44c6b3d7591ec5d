-- Which fault is answered first.
use Rattle.std.proofs.Common.{◌≡◌, ◌≢◌, ◌<◌, ◌⊎◌, inl, inr, ℕ, Bool, true, false, Some, List, Result, Err, length, refl, sym, ap, subst, ◌∙◌}
use Rattle.std.specs.Bool.{Decides}
use Rattle.std.specs.Result.{IsErrOf}
use Rattle.std.specs.Str.{IsUtf8}
use Rattle.serde_json.specs.Data.{Data}
use Rattle.serde_json.specs.Read.{read}
use Rattle.fs_kinds.specs.declared.fault.Fault.{Fault}
use Rattle.fs_kinds.specs.declared.fault.Fault.TheVariants.{BadPrices, Memory, NodeLimit}
use Rattle.fs_sites.specs.Answers.{IsSolveFault}
use Rattle.fs_sites.specs.Questions.{Question}
use Rattle.fs_app_place_and_order.proofs.Faults.{is_memory}
use Rattle.fs_app_sites.specs.declared.content.Tests.{Tests}
use Rattle.fs_app_sites.specs.Asked.{IsAsked, IsFirstAskedFault}
use Rattle.fs_app_sites.specs.Asked as asked
use Rattle.fs_app_sites.specs.SitePrices.{AreSitePrices, IsPriceValue, IsSitePricesFault, no_prices}
use Rattle.fs_app_sites.specs.Sites.{Content, AreContents, IsFilesFault, most_sites, names_of, question_of}
use Rattle.fs_app_sites.specs.Solved.{IsFirstSitesFault, of_prices, of_files, of_search, of_memory}

-- ---- of prices

pub read-fault : {T : Type 0} (bytes : List ℕ) (f : Fault) → (f ≡ BadPrices) ⊎ (f ≡ Memory)
    → (IsErrOf {T = T} (Err f) BadPrices → (d : Data) → IsUtf8 bytes → ¬ (read bytes ≡ Some d)) → f ≢ Memory → IsSitePricesFault bytes f
read-fault bytes f fault bad n =
    elim fault [
      | inl e ↦ subst (IsSitePricesFault bytes) (sym e)
          (no_prices (λ d have. bad (ap (λ x. Err x) e) d have.utf8 have.reads))
      | inr e ↦ absurd (n e)
    ]

-- the value that was read is no object of prices
pub refused-fault : (bytes : List ℕ) (value : Data) (r : Bool) → read bytes ≡ Some value → Decides r (IsPriceValue value) → r ≡ false
    → IsSitePricesFault bytes BadPrices
refused-fault bytes value r reads decides refused =
    no_prices (λ d have.
    let again = have.reads in
    let same : d ≡ value = cc in
    let yes = decides.1 (subst IsPriceValue same have.value) in
    absurd (cc))

module _ (tests : Tests) (prices : List ℕ) where
  -- ---- of the question

  asked-memory : (f : Fault) → f ≡ Memory → IsFirstAskedFault tests prices f
  asked-memory f e = subst (IsFirstAskedFault tests prices) (sym e) asked.of_memory

  pub asked-prices : (f : Fault) → (f ≢ Memory → IsSitePricesFault prices f) → IsFirstAskedFault tests prices f
  asked-prices f h = elim (is_memory f) [ inl e ↦ asked-memory f e | inr n ↦ asked.of_prices (h n) ]

  pub asked-files : (f : Fault) (table : Data) → AreSitePrices prices table → (f ≢ Memory → IsFilesFault tests f)
      → IsFirstAskedFault tests prices f
  asked-files f table priced h = elim (is_memory f) [ inl e ↦ asked-memory f e | inr n ↦ asked.of_files table priced (h n) ]

  asked-number : (f : Fault) (table : Data) (contents : List Content) → AreSitePrices prices table → AreContents tests contents
      → (f ≡ NodeLimit) × (most_sites < length (names_of contents)) → IsFirstAskedFault tests prices f
  asked-number f table contents priced read many =
      subst (IsFirstAskedFault tests prices) (sym many.0) (asked.of_sites table contents priced read many.1)

  -- the contents were passed on
  pub asked-sites : (f : Fault) (table : Data) (contents passed : List Content) → AreSitePrices prices table
      → AreContents tests contents → passed ≡ contents
      → (f ≢ Memory → (f ≡ NodeLimit) × (most_sites < length (names_of passed))) → IsFirstAskedFault tests prices f
  asked-sites f table contents passed priced read same h =
      elim (is_memory f) [
        | inl e ↦ asked-memory f e
        | inr n ↦ asked-number f table contents priced read
            (subst (λ cs. (f ≡ NodeLimit) × (most_sites < length (names_of cs))) same (h n))
      ]

  -- ---- of the answer

  pub first-memory : (f : Fault) → f ≡ Memory → IsFirstSitesFault tests prices f
  first-memory f e = subst (IsFirstSitesFault tests prices) (sym e) of_memory

  pub first-asked : (f : Fault) → IsFirstAskedFault tests prices f → IsFirstSitesFault tests prices f
  first-asked f (asked.of_prices h) = of_prices h
  first-asked f (asked.of_files table priced h) = of_files table priced h
  first-asked f (asked.of_sites table contents priced read many) = of_search table contents priced read (inl refl)
  first-asked f asked.of_memory = of_memory

  pub first-search : (f : Fault) (q : Question) (names : List (List ℕ)) → IsAsked tests prices q names
      → (f ≢ Memory → IsSolveFault q.parts f) → IsFirstSitesFault tests prices f
  first-search f q names question h =
      elim (is_memory f) [
        | inl e ↦ first-memory f e
        | inr n ↦
            let is : q ≡ question_of question.table (names_of question.contents) question.contents =
            question.asks ∙ ap (λ ns. question_of question.table ns question.contents) question.named in
            of_search question.table question.contents question.priced question.read
            (subst (λ (asks : Question). IsSolveFault asks.parts f) is (h n))
      ]
