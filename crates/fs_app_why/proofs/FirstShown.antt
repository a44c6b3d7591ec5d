-- The first of several witnesses that shows the outcome.
use Rattle.std.proofs.Common.{◌≡◌, ℕ, zero, suc, ◌+◌, List, [], ◌∷◌, Some, arith, subst}
use Rattle.std.specs.Prelude.{slice_get}
use Rattle.fs_kinds.specs.declared.placement.Entry.{Entry}
use Rattle.fs_model.specs.declared.test.Test.{Test}
use Rattle.fs_model.specs.Witness.{Witness}
use Rattle.fs_cert_evidence.specs.declared.witness.WitnessFile.{WitnessFile as File}
use Rattle.fs_cert_evidence.specs.Shown.{IsShownBy}
use Rattle.fs_cert_evidence.specs.WitnessFile.{KeepsWitness}
use Rattle.fs_app_why.specs.First.{NoneBefore}

-- none before the next one, where this one shows none either
pub none_more : (t : Test) (p : List Entry) (files : List File) (n : ℕ) (item : File) → slice_get files n ≡ Some item → NoneBefore t p files n
    → ((w : Witness) → KeepsWitness item w → IsShownBy t p w → ⊥) → NoneBefore t p files (n + 1)
none_more t p [] n item at before not k file less there w keeps shown = absurd (cc)
none_more t p (f ∷ files) zero item at before not zero file less there w keeps shown =
    let same : file ≡ item = cc in
    not w (subst (λ g. KeepsWitness g w) same keeps) shown
none_more t p (f ∷ files) zero item at before not (suc k) file less there w keeps shown = absurd (omega (arith, less))
none_more t p (f ∷ files) (suc n) item at before not zero file less there w keeps shown =
    before zero file (omega arith) there w keeps shown
none_more t p (f ∷ files) (suc n) item at before not (suc k) file less there w keeps shown =
    none_more t p files n item at (λ i g low e. before (suc i) g (omega (arith, low)) e) not k file (omega (arith, less)) there w keeps shown
