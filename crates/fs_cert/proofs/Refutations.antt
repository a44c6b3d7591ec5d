-- What a certificate has of the cycles of a list, or of inferences, says the same.
use Rattle.std.proofs.Common.{◌≡◌, nat_lt, nat_le, ◌&&◌, true, List, [], ◌∷◌, ◌++◌, map, length, refl, ap, ap₂, sym, arith}
use Rattle.std.specs.Prelude.{All}
use Rattle.std.specs.List.{AllZip, AllByRecursion}
use Rattle.std.proofs.lemmas.Bool.{and_parts, ltb-true, leb-true, false≢true}
use Rattle.std.proofs.lemmas.List.Elements.{All-nil, All-cons, All-head}
use Rattle.fs_kinds.specs.declared.placement.Entry.{Entry}
use Rattle.fs_model.specs.declared.test.Test.{Test}
use Rattle.fs_cert_evidence.specs.CandidateFaults.{HasNoCyclesFault}
use Rattle.fs_cert_evidence.specs.Certificate.{Cycles, Listed, Inferred, Link, Inference, ByChoice, BySource, ByOrder, ByCases, Filter, Cycle, Stale, Reversed, Parted, listed_in}
use Rattle.fs_cert_evidence.specs.CertificateFile.{AreSayable, IsSayableCycle, IsSayableInference}
use Rattle.fs_cert_evidence.specs.Cycles.{IsCycle, most_links}
use Rattle.fs_cert_evidence.specs.Regions.{Region}
use Rattle.fs_cert_evidence.specs.Trees.{must_be_cycle, follows, left_after, refutes, roots, cycle_in}
use Rattle.fs_board_offers.specs.Valid.{Forbid}
use Rattle.fs_cert_evidence.specs.WitnessFile.{IsInRange}
use Rattle.fs_cert_json.specs.declared.certificate.CertifiedCycles.{CertifiedCycles}
use Rattle.fs_cert_json.specs.declared.certificate.CertifiedCycles.TheVariants.{Listed as KeptList, Inferred as KeptInferences}
use Rattle.fs_cert_json.specs.Kept.{AreInRangeLinks, KeepsCycles}
use Rattle.fs_cert_evidence.specs.Inferences.{inference_of}
use Rattle.fs_cert_evidence.specs.declared.inference.Inference.{Inference as CodeInference}
use Rattle.fs_cert.specs.Cycles.{BeginsAtLeast, version_for}
use Rattle.fs_cert.specs.inner.Copies.{AreCopiedCycles, IsCopiedInference, IsSameLink}
use Rattle.fs_cert.proofs.Copying.{zip_all, zip_same, zip_weaker}
use Rattle.fs_cert.proofs.Turning.{are_said}

-- ---- copied inferences

pub said_cycle : (copy links : List Link) → AllZip IsSameLink copy links
    → (Cycle copy ≡ Cycle links) × (All IsSayableCycle (cycle_in (Cycle links)) → IsSayableInference (Cycle links))
said_cycle copy links each = (
  ap Cycle (zip_same copy links (zip_weaker IsSameLink (λ y x. y ≡ x) (λ y x at. at.0) copy links each)),
  λ sayable. (All-head IsSayableCycle links [] sayable, zip_all IsSameLink (λ link. IsInRange link.operation) (λ y x at. at.1) copy links each),
)

-- ---- inferences that refute a test

-- the cycles in them are as long as a file can say
abbrev AreShort : List Inference → Type 0
AreShort = AllByRecursion (λ inference. All IsSayableCycle (cycle_in inference))

module _ (t : Test) (p : List Entry) where
  short_cycle : (region : Region) (links : List Link) → must_be_cycle t p region links ≡ true → IsSayableCycle links
  short_cycle region links e =
      let parts = and_parts (nat_lt 0 (length links) && nat_le (length links) most_links) _ e in
      let sizes = and_parts (nat_lt 0 (length links)) (nat_le (length links) most_links) parts.0 in
      let some = ltb-true 0 (length links) sizes.0 in
      (omega (arith, some), leb-true (length links) most_links sizes.1)

  short : (region : Region) (inference : Inference) → follows t p region inference ≡ true → All IsSayableCycle (cycle_in inference)
  short region (Cycle links) e = All-cons IsSayableCycle links [] (short_cycle region links e) (All-nil IsSayableCycle)
  short region (ByChoice name) e = All-nil IsSayableCycle
  short region (BySource load) e = All-nil IsSayableCycle
  short region (ByOrder first second) e = All-nil IsSayableCycle
  short region (ByCases condition) e = All-nil IsSayableCycle
  short region (Filter hart) e = All-nil IsSayableCycle
  short region (Stale load store) e = All-nil IsSayableCycle
  short region (Reversed load store) e = All-nil IsSayableCycle
  short region (Parted load store other) e = All-nil IsSayableCycle

  all_short : (regions : List Region) (inferences : List Inference) → refutes t p regions inferences ≡ true → AreShort inferences
  all_short regions [] e = tt
  all_short [] (inference ∷ inferences) e = absurd (false≢true e)
  all_short (region ∷ regions) (inference ∷ inferences) e =
      let parts = and_parts (follows t p region inference) _ e in
      (short region inference parts.0, all_short (left_after t region inference ++ regions) inferences parts.1)

kept_inferences : (copies : List CodeInference) (inferences : List Inference) → AllZip IsCopiedInference copies inferences
    → inferences ≡ map inference_of copies
kept_inferences [] [] each = refl
kept_inferences [] (i ∷ is) each = absurd each
kept_inferences (c ∷ cs) [] each = absurd each
kept_inferences (c ∷ cs) (i ∷ is) each = ap₂ (λ j js. j ∷ js) (sym each.0.0) (kept_inferences cs is each.1)

said_inferences : (copies : List CodeInference) (inferences : List Inference) → AllZip IsCopiedInference copies inferences → AreShort inferences
    → All IsSayableInference inferences
said_inferences [] [] each short = All-nil IsSayableInference
said_inferences [] (i ∷ is) each short = absurd each
said_inferences (c ∷ cs) [] each short = absurd each
said_inferences (c ∷ cs) (i ∷ is) each short = All-cons IsSayableInference i is (each.0.1 short.0) (said_inferences cs is each.1 short.1)

-- ---- what a certificate has of either

pub record AreCertified (copy : CertifiedCycles) (cycles : Cycles) : Type 0 where
  pub said : Cycles
  pub version : version_for said ≡ version_for cycles
  pub keeps : KeepsCycles copy said
  pub named : All AreInRangeLinks (listed_in said)
  pub least : All BeginsAtLeast (listed_in said)
  pub forbid : (t : Test) (p : List Entry) → Forbid t p cycles → Forbid t p said
  pub sayable : (t : Test) (p : List Entry) → Forbid t p cycles → AreSayable (version_for said) said
  pub judged : (t : Test) → HasNoCyclesFault cycles t → HasNoCyclesFault said t

pub are_certified : (copy : CertifiedCycles) (cycles : Cycles) → AreCopiedCycles copy cycles → AreCertified copy cycles
are_certified (KeptList copies) (Listed cycles) each = let by = are_said copies cycles each in record {
  said = Listed by.said;
  version = refl;
  keeps = by.keeps;
  named = by.named;
  least = by.least;
  forbid = λ t p has. (has.0, has.1, by.cycle t p has.0 has.2);
  sayable = λ t p has. zip_all (IsCycle t p) IsSayableCycle (λ c links cycle. (cycle.some, cycle.most)) has.0 by.said (by.cycle t p has.0 has.2);
  judged = λ t none. none;
}
are_certified (KeptInferences copies) (Inferred inferences) each = record {
  said = Inferred inferences;
  version = refl;
  keeps = kept_inferences copies inferences each;
  named = All-nil AreInRangeLinks;
  least = All-nil BeginsAtLeast;
  forbid = λ t p is. is;
  sayable = λ t p is. said_inferences copies inferences each (all_short t p (roots t is.runs) inferences is.refuted);
  judged = λ t none. none;
}
are_certified (KeptList copies) (Inferred inferences) each = absurd each
are_certified (KeptInferences copies) (Listed cycles) each = absurd each
