-- Which fault is answered first.
use Rattle.std.proofs.Common.{◌≡◌, ◌≢◌, inl, inr, ℕ, List, sym, subst}
use Rattle.serde_json.specs.Data.{Data}
use Rattle.fs_kinds.specs.declared.fault.Fault.{Fault}
use Rattle.fs_kinds.specs.declared.fault.Fault.TheVariants.{Memory, NodeLimit}
use Rattle.fs_sites.specs.Answers.{IsAnswer, IsSolveFault}
use Rattle.fs_sites.specs.Questions.{Question}
use Rattle.fs_sites.specs.declared.answer.Answer.{Answer}
use Rattle.fs_app_place_and_order.proofs.Faults.{is_memory}
use Rattle.fs_app_sites.specs.declared.content.File.{File}
use Rattle.fs_app_sites.specs.SitePrices.{AreSitePrices, IsSitePricesFault}
use Rattle.fs_app_sites_check_and_audit.specs.Audited.{IsFindFault, of_search, of_verdicts, IsFirstFault, of_prices, of_files, of_findings, of_memory, IsSaidFault}
use Rattle.fs_app_sites_check_and_audit.specs.Asked.{asked_of}
use Rattle.fs_app_sites_check_and_audit.specs.Copies.{AreHeld, Held, IsFilesFault}

module _ (files : List File) (prices : List ℕ) where
  pub first_memory : (f : Fault) → f ≡ Memory → IsFirstFault files prices f
  first_memory f e = subst (IsFirstFault files prices) (sym e) of_memory

  pub first_prices : (f : Fault) → (f ≢ Memory → IsSitePricesFault prices f) → IsFirstFault files prices f
  first_prices f h = elim (is_memory f) [ inl e ↦ first_memory f e | inr n ↦ of_prices (h n) ]

  pub first_files : (f : Fault) (table : Data) → AreSitePrices prices table → (f ≢ Memory → IsFilesFault files f)
      → IsFirstFault files prices f
  first_files f table priced h = elim (is_memory f) [ inl e ↦ first_memory f e | inr n ↦ of_files table priced (h n) ]

  -- what the files hold was passed on
  pub first_findings : (f : Fault) (table : Data) (held passed : List Held) → AreSitePrices prices table → AreHeld files held
      → passed ≡ held → (f ≢ Memory → IsFindFault files table passed f) → IsFirstFault files prices f
  first_findings f table held passed priced read same h =
      elim (is_memory f) [
        | inl e ↦ first_memory f e
        | inr n ↦ of_findings table held priced read (subst (λ hs. IsFindFault files table hs f) same (h n))
      ]

module _ (files : List File) (table : Data) (held : List Held) (f : Fault) where
  pub too_many : f ≡ NodeLimit → IsFindFault files table held f
  too_many e = of_search (inl e)

  pub not_searched : (q : Question) → q ≡ asked_of table held → IsSolveFault q.parts f → IsFindFault files table held f
  not_searched q is h = of_search (subst (λ (asks : Question). IsSolveFault asks.parts f) is h)

  pub not_said : (q : Question) (found : Answer) → q ≡ asked_of table held → IsAnswer q found → IsSaidFault files f
      → IsFindFault files table held f
  not_said q found is answer h = of_verdicts found (subst (λ asks. IsAnswer asks found) is answer) h
