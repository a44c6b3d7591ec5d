-- `check` says yes to the certificate of `solve --cert`.
use Rattle.std.proofs.Common.{◌≡◌, inl, inr, ℕ, Option, None, Some, List, [], ◌∷◌, ◌++◌, sym, ap, subst, ◌∙◌}
use Rattle.fs_kinds.specs.declared.placement.Entry.{Entry}
use Rattle.fs_kinds.specs.PriceTable.{cost}
use Rattle.fs_model.specs.Test.{IsSame}
use Rattle.fs_litmus.proofs.ReadsTest.{is_test}
use Rattle.fs_litmus.proofs.ReadsOnce.{reads_once}
use Rattle.fs_app_guarantees.proofs.KeptCertificates.{valid_same}
use Rattle.fs_cert_evidence.specs.Certificate.{Certificate}
use Rattle.fs_cert_evidence.specs.Texts.{fenced_lines, none_lines}
use Rattle.fs_board_offers.specs.Priced.{IsValid}
use Rattle.fs_board_offers.proofs.Priced.{same-slots}
use Rattle.fs_check_certificate.proofs.OneFile.{file_once}
use Rattle.fs_app_guarantees.proofs.Verdicts.{one_answer, not_refused}
use Rattle.fs_app_io.specs.declared.status.Status.{Status}
use Rattle.fs_app_guarantees.specs.Checked.{IsYesTo}
use Rattle.fs_app_guarantees.proofs.SameCertificates.{same_certificates}
use Rattle.fs_app_guarantees.proofs.SamePrices.{agree, same_costs}
use Rattle.fs_app_solve_and_check.specs.Solve.{IsCertified, IsWitnessed, PrintsPlaced}
use Rattle.fs_app_solve_and_check.specs.Check.{IsChecked, yes_line}

pub accepted : (test prices text certificate verdict : List ℕ) (status end : Status) → IsCertified test prices text status certificate
    → IsChecked test prices certificate verdict end → IsYesTo text verdict end
accepted test prices text certificate verdict status end s k =
    let t = s.the_test in
    let u = k.the_test in
    let c = k.the_certificate in
    let same : IsSame t u = reads_once test t u s.reads k.reads in
    let bounded = (is_test test u k.reads).bounded in
    let prices_are = agree prices s.table k.table s.priced k.priced in
    let one : s.certified.certificate ≡ c = file_once certificate s.certified.certificate c s.certified.file k.says in
    let here : IsValid t s.table c s.placed = subst (λ (d : Certificate). IsValid t s.table d s.placed) one s.certified.valid in
    let valid : IsValid u k.table c s.placed =
    same_certificates u s.table k.table prices_are bounded c s.placed ((valid_same t u same s.table c s.placed).0 here) in
    elim k.verdict [
      | inl a ↦
          let p = a.placement in
          let found : s.placed ≡ Some p = one_answer u k.table c s.placed (Some p) bounded valid a.valid in
          let printed : PrintsPlaced t s.table (Some p) text status = subst (λ (o : Option (List Entry)). PrintsPlaced t s.table o text status) found s.answer in
          let over = a.valid.answered.placement.slots ∙ same-slots u k.table in
          let costs : cost s.table p ≡ cost k.table p = same_costs u s.table k.table prices_are bounded p over in
          let below : fenced_lines (cost k.table p) p ≡ text = sym (printed.1 ∙ ap (λ n. fenced_lines n p) costs) in
          (a.ends, a.shown ∙ ap (λ (lines : List ℕ). yes_line ++ lines) below)
      | inr other ↦ elim other [
        | inl a ↦
            let found : s.placed ≡ None = one_answer u k.table c s.placed None bounded valid a.valid in
            let printed : IsWitnessed None s.certified.certificate.witnesses text =
            subst (λ (o : Option (List Entry)). IsWitnessed o s.certified.certificate.witnesses text) found s.witnessed in
            let witnesses : a.valid.witness ∷ [] ≡ printed.0 ∷ [] = sym a.valid.only ∙ (sym (ap (λ (d : Certificate). d.witnesses) one) ∙ printed.1) in
            let witness : a.valid.witness ≡ printed.0 = cc in
            (a.ends, a.shown ∙ ap (λ (lines : List ℕ). yes_line ++ lines) (ap none_lines witness ∙ sym printed.2))
        | inr a ↦ absurd (not_refused u k.table c s.placed a.why bounded valid a.refused)
      ]
    ]
