-- Valid certificates of questions over sites, by what is kept of their files. There is no tree: the checker looks itself
-- for the first of the cheapest placements that break the executions of all witnesses, and the answer must be that one.
-- Whatever the witnesses are, each placement that leaves one of them unbroken allows some outcome; so none that is
-- better than the answer forbids all.
use Rattle.std.specs.Prelude.{◌≡◌, ℕ, Bool, true, false, Option, None, Some, List, [], ◌∷◌, ◌++◌, codes, length, map, slice_get}
use Rattle.std.specs.List.{AllZip}
use Rattle.fs_kinds.specs.declared.kind.Kind.{Kind}
use Rattle.fs_kinds.specs.declared.placement.Entry.{Entry}
use Rattle.fs_kinds.specs.Kind.{word}
use Rattle.fs_model.specs.declared.test.Test.{Test}
use Rattle.fs_model.specs.Execution.{Execution}
use Rattle.fs_model.specs.Witness.{Witness}
use Rattle.fs_board_offers.specs.Offers.{cost}
use Rattle.fs_cert_evidence.specs.declared.evidence.Pairs.{Pairs}
use Rattle.fs_cert_evidence.specs.declared.inference.Inference.{Inference}
use Rattle.fs_cert_evidence.specs.Certificate.{Fenced, NoneForbids}
use Rattle.fs_cert_evidence.specs.Evidence.{Shown, widths_of}
use Rattle.fs_cert_evidence.specs.Inferences.{inference_of}
use Rattle.fs_cert_evidence.specs.Shown.{IsShownBy, ShowsAs}
use Rattle.fs_cert_evidence.specs.Trees.{IsRefuted}
use Rattle.fs_cert_evidence.specs.Widths.{width}
use Rattle.fs_cert_evidence.specs.WitnessFile.{KeepsWitness}
use Rattle.fs_cert_json.specs.Kept.{answer_of}
use Rattle.fs_values.specs.ThinAir.{CanBeListed}
use Rattle.fs_sites.specs.Plans.{IsFirstBreaking}
use Rattle.fs_sites.specs.Answers.{IsShownIn}
use Rattle.fs_sites.specs.Questions.{Part, Question, image, slots_at, top}
use Rattle.fs_sites.specs.declared.answer.Answer.{Answer}
use Rattle.fs_sites.specs.declared.answer.Answer.TheVariants as answer
use Rattle.fs_sites.specs.inner.Bars.{IsBar}
use Rattle.fs_sites_check.specs.declared.certificate.SitesCertificate.{SitesCertificate}
use Rattle.fs_sites_check.specs.declared.certificate.SitesWitness.{SitesWitness}

-- ---- witnesses

-- the flag says whether the witness gives an execution that shows the outcome with these fences
abbrev pub IsShownAs : Test → List Entry → Witness → Bool → Type 0
IsShownAs t p w true = IsShownBy t p w
IsShownAs t p w false = IsShownBy t p w → ⊥

-- a witness is kept of what a file says
abbrev pub IsSaid : SitesWitness → Type 0
IsSaid w = (said : Witness) × KeepsWitness w.file said

-- The witness gives an execution of its test that shows the outcome without placed fences. The bar has at each of so
-- many sites only pairs that the execution's order keeps at all places of the site.
pub record IsBarBy (parts : List Part) (sites : ℕ) (w : SitesWitness) (bar : List Pairs) : Type 0 where
  pub part : Part
  pub at : slice_get parts w.test ≡ Some part
  pub said : Witness
  pub says : KeepsWitness w.file said
  pub execution : Execution
  pub shows : ShowsAs part.test [] said execution
  pub bar_of : IsBar part.places (widths_of (width part.test execution) (slots_at part.places)) bar
  pub long : length bar ≡ sites

-- ---- the answer in words

-- the word of a site that has a fence, such as `lock=r,r`
abbrev pub site_word : List ℕ → Option Kind → List (List ℕ)
site_word name None = []
site_word name (Some kind) = (name ++ (codes "=" ++ word kind)) ∷ []

-- those of the entries of a placement, in order, whose sites have these names
abbrev pub site_words : List Entry → List (List ℕ) → List (List ℕ)
site_words [] names = []
site_words (e ∷ p) [] = []
site_words (e ∷ p) (name ∷ names) = site_word name e.kind ++ site_words p names

-- ---- the whole

-- the test's runs can be listed, and the inferences refute it with these fences of the sites
abbrev pub IsRefutedWith : List Entry → Part → List Inference → Type 0
IsRefutedWith p part inferences =
    CanBeListed part.test × IsRefuted part.test (image part.places p) (map inference_of inferences)

-- a valid certificate for the placement p, of sites with these names
pub record IsValidFor (q : Question) (names : List (List ℕ)) (c : SitesCertificate) (p : List Entry) : Type 0 where
  pub answered : answer_of c.answer ≡ Fenced (cost q.offers p) (site_words p names)
  pub bars : List (List Pairs)
  pub bars_of : AllZip (IsBarBy q.parts (length q.offers)) c.witnesses bars
  pub first : IsFirstBreaking q.offers bars p
  pub refuted : AllZip (IsRefutedWith p) q.parts c.cycles

-- A valid certificate for none: its one witness gives an execution of the test of this number, which shows the outcome
-- with rw,rw at each site.
pub record IsValidForNone (q : Question) (c : SitesCertificate) (number : ℕ) (shown : Shown) : Type 0 where
  pub answered : answer_of c.answer ≡ NoneForbids
  pub cycles : c.cycles ≡ []
  pub witness : SitesWitness
  pub only : c.witnesses ≡ witness ∷ []
  pub same : witness.test ≡ number
  pub says : KeepsWitness witness.file shown.witness
  pub refutes : IsShownIn q.parts (top q.offers) number shown

abbrev pub IsValid : Question → List (List ℕ) → SitesCertificate → Answer → Type 0
IsValid q names c (answer.Fenced p n) = IsValidFor q names c p × (n ≡ cost q.offers p)
IsValid q names c (answer.None number shown) = IsValidForNone q c number shown
