-- What is said of a certificate of a question over sites.
use Rattle.std.specs.Prelude.{ℕ, List, length}
use Rattle.std.specs.List.{AllZip}
use Rattle.fs_kinds.specs.declared.placement.Entry.{Entry}
use Rattle.fs_board_offers.specs.Offers.{Offers}
use Rattle.fs_cert_evidence.specs.declared.evidence.Pairs.{Pairs}
use Rattle.fs_cert_evidence.specs.declared.witness.WitnessFile.{WitnessFile}
use Rattle.fs_cert_evidence.specs.Evidence.{Shown}
use Rattle.fs_cert_evidence.specs.WitnessFile.{KeepsWitness}
use Rattle.fs_sites.specs.Plans.{IsFirstBreaking}
use Rattle.fs_sites.specs.Answers.{IsAnswer, IsShownUnder}
use Rattle.fs_sites.specs.Questions.{Part, Question, image, top}
use Rattle.fs_sites_check.specs.Valid.{IsBarBy, IsValid}
use Rattle.fs_sites_check.specs.declared.certificate.SitesCertificate.{SitesCertificate}
use Rattle.fs_sites_check.specs.declared.certificate.SitesWitness.{SitesWitness}
use Rattle.fs_sites_check.specs.declared.verdict.SitesVerdict.{SitesVerdict}
use Rattle.fs_sites_check.specs.declared.verdict.SitesVerdict.TheVariants.{Yes, No}

-- the placement is the first of the cheapest that break the executions of all witnesses
abbrev pub IsPlan : Question → List SitesWitness → List Entry → Type 0
IsPlan q ws p =
    (bars : List (List Pairs)) × AllZip (IsBarBy q.parts (length q.offers)) ws bars × IsFirstBreaking q.offers bars p

-- the witness is what the file says, and shows the outcome of the test with rw,rw at each site
abbrev pub IsShownFully : Part → Offers → WitnessFile → Shown → Type 0
IsShownFully part offers file shown =
    KeepsWitness file shown.witness × IsShownUnder part.test (image part.places (top offers)) shown

-- the certificate is valid for this answer, and so the answer is right
abbrev pub IsSitesVerdict : Question → List (List ℕ) → SitesCertificate → SitesVerdict → Type 0
IsSitesVerdict q names c (Yes a) = IsValid q names c a × IsAnswer q a
IsSitesVerdict q names c (No why) = Unit {0}
