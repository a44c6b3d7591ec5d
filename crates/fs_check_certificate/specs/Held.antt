-- What the cycles of a certificate are held against.
use Rattle.std.specs.Prelude.{◌≡◌, map}
use Rattle.std.specs.List.{AllZip}
use Rattle.fs_model.specs.declared.test.Test.{Test}
use Rattle.fs_cert_evidence.specs.Certificate as said
use Rattle.fs_cert_evidence.specs.Certificate.{Cycles}
use Rattle.fs_cert_evidence.specs.Listings.{IsListing}
use Rattle.fs_cert_evidence.specs.Inferences.{inference_of}
use Rattle.fs_cert_json.specs.Kept.{KeepsCycle}
use Rattle.fs_check_certificate.specs.declared.held.Held.{Held}
use Rattle.fs_check_certificate.specs.declared.held.Held.TheVariants.{Listed, Inferred}

abbrev pub test_in : Held → Test
test_in (Listed showing cycles) = showing.test
test_in (Inferred test inferences) = test

-- a list is held against the listing of the showing candidates
abbrev pub HasListing : Held → Type 0
HasListing (Listed showing cycles) = IsListing showing.test showing.candidates
HasListing (Inferred test inferences) = Unit {0}

-- these are the cycles that are held
abbrev pub Holds : Held → Cycles → Type 0
Holds (Listed showing kept) (said.Listed cycles) = AllZip KeepsCycle kept.now cycles
Holds (Inferred test kept) (said.Inferred inferences) = inferences ≡ map inference_of kept.now
Holds held other = ⊥
