-- A valid certificate's answer is right.
use Rattle.std.proofs.Common.{◌≡◌, ℕ, zero, suc, Some, List, [], ◌∷◌, All, length, map, slice_get, sym, ap, subst}
use Rattle.std.specs.List.{AllZip}
use Rattle.fs_kinds.specs.declared.placement.Entry.{Entry}
use Rattle.fs_model.specs.Allows.{Allows}
use Rattle.fs_board_offers.specs.Offers.{Offers}
use Rattle.fs_cert_evidence.specs.declared.evidence.Pairs.{Pairs}
use Rattle.fs_cert_evidence.specs.declared.inference.Inference.{Inference}
use Rattle.fs_cert_evidence.specs.Evidence.{widths_of}
use Rattle.fs_cert_evidence.specs.Inferences.{inference_of}
use Rattle.fs_cert_evidence.specs.Widths.{width}
use Rattle.fs_verdict_laws.proofs.Covering.{forbids}
use Rattle.fs_sites.specs.Answers.{IsAnswer}
use Rattle.fs_sites.specs.Questions.{AllowsIn, IsPart, IsQuestion, Part, Question, image, slots_at}
use Rattle.fs_sites.specs.declared.answer.Answer.{Answer}
use Rattle.fs_sites.specs.declared.answer.Answer.TheVariants as answer
use Rattle.fs_sites.specs.inner.Bars.{IsBarOf, AreBars}
use Rattle.fs_sites.proofs.Cheapest.{cheapest}
use Rattle.fs_sites.proofs.Unbroken.{of_execution, slots-image}
use Rattle.fs_sites_check.specs.Valid.{IsBarBy, IsRefutedWith, IsValid}
use Rattle.fs_sites_check.specs.declared.certificate.SitesCertificate.{SitesCertificate}
use Rattle.fs_sites_check.specs.declared.certificate.SitesWitness.{SitesWitness}

module _ (parts : List Part) (offers : Offers) (each : All IsPart parts) where
  one-bar : (w : SitesWitness) (bar : List Pairs) → IsBarBy parts (length offers) w bar → IsBarOf parts offers bar
  one-bar w bar by =
      let part = by.part in
      let widths = widths_of (width part.test by.execution) in
      of_execution parts offers [] w.test part by.execution (widths (slots_at part.places)) bar each by.at by.shows.1
      (ap widths (sym (slots-image [] part.places))) by.bar_of by.long

  bars-of : (ws : List SitesWitness) (bars : List (List Pairs)) → AllZip (IsBarBy parts (length offers)) ws bars → AreBars parts offers bars
  bars-of [] [] all k bar at = absurd (cc)
  bars-of [] (x ∷ bars) all k bar at = absurd all
  bars-of (w ∷ ws) [] all k bar at = absurd all
  bars-of (w ∷ ws) (x ∷ bars) all zero bar at =
      let same : x ≡ bar = cc in
      subst (IsBarOf parts offers) same (one-bar w x all.0)
  bars-of (w ∷ ws) (x ∷ bars) all (suc k) bar at = bars-of ws bars all.1 k bar at

-- a test whose refutation holds forbids its outcome
forbids-at : (p : List Entry) (parts : List Part) (cycles : List (List Inference)) → AllZip (IsRefutedWith p) parts cycles
    → (number : ℕ) (part : Part) → slice_get parts number ≡ Some part → Allows part.test (image part.places p) → ⊥
forbids-at p [] cycles all number part at allows = absurd (cc)
forbids-at p (x ∷ parts) [] all number part at allows = absurd all
forbids-at p (x ∷ parts) (is ∷ cycles) all zero part at allows =
    let same : x ≡ part = cc in
    forbids x.test all.0.0 (image x.places p) (map inference_of is) all.0.1
    (subst (λ (y : Part). Allows y.test (image y.places p)) (sym same) allows)
forbids-at p (x ∷ parts) (is ∷ cycles) all (suc number) part at allows = forbids-at p parts cycles all.1 number part at allows

pub right : (q : Question) (names : List (List ℕ)) (c : SitesCertificate) (a : Answer) → IsQuestion q → IsValid q names c a → IsAnswer q a
right q names c (answer.Fenced p n) asked valid =
    let is = valid.0 in
    let forbid : AllowsIn q.parts p → ⊥ = λ allows. forbids-at p q.parts c.cycles is.refuted allows.0 allows.1 allows.2 allows.3 in (
      cheapest q.parts q.offers is.bars (bars-of q.parts q.offers asked.parts c.witnesses is.bars is.bars_of) p is.first forbid,
      valid.1,
    )
right q names c (answer.None number shown) asked valid = valid.refutes
