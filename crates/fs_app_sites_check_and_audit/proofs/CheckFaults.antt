-- Which fault `check --sites` answers first.
use Rattle.std.proofs.Common.{◌≡◌, ◌≢◌, ◌⊎◌, inl, inr, ℕ, List, Result, Err, sym, ap, subst}
use Rattle.std.specs.Result.{IsErrOf}
use Rattle.fs_kinds.specs.declared.fault.Fault.{Fault}
use Rattle.fs_kinds.specs.declared.fault.Fault.TheVariants.{BadCertificate, Memory}
use Rattle.fs_cert_json.specs.Kept.{IsCertificateFault}
use Rattle.fs_sites.specs.Answers.{IsSolveFault}
use Rattle.fs_sites.specs.Questions.{Question}
use Rattle.fs_app_place_and_order.proofs.Faults.{is_memory}
use Rattle.fs_app_sites.specs.declared.content.Tests.{Tests}
use Rattle.fs_app_sites.specs.Asked.{IsAsked}
use Rattle.fs_app_sites_check_and_audit.specs.Checked.{IsFirstSitesCheckFault, of_certificate, of_judge, of_memory}
use Rattle.fs_app_sites_check_and_audit.specs.SitesFile.{IsSitesFile, Said}

module _ (tests : Tests) (prices certificate : List ℕ) where
  pub check-memory : (f : Fault) → f ≡ Memory → IsFirstSitesCheckFault tests prices certificate f
  check-memory f e = subst (IsFirstSitesCheckFault tests prices certificate) (sym e) of_memory

  pub check-certificate : {T : Type 0} (f : Fault) (q : Question) (names : List (List ℕ)) → IsAsked tests prices q names
      → (IsErrOf {T = T} (Err f) BadCertificate → (said : Said) → ¬ IsSitesFile certificate said) → IsCertificateFault f
      → IsFirstSitesCheckFault tests prices certificate f
  check-certificate f q names asked bad fault =
      elim fault [
        | inl e ↦ subst (IsFirstSitesCheckFault tests prices certificate) (sym e)
            (of_certificate q names asked (bad (ap (λ x. Err x) e)))
        | inr e ↦ check-memory f e
      ]

  pub check-judge : (f : Fault) (q : Question) (names : List (List ℕ)) (said : Said) → IsAsked tests prices q names
      → IsSitesFile certificate said → (f ≢ Memory → IsSolveFault q.parts f) → IsFirstSitesCheckFault tests prices certificate f
  check-judge f q names said asked says h =
      elim (is_memory f) [ inl e ↦ check-memory f e | inr n ↦ of_judge q names said asked says (h n) ]
