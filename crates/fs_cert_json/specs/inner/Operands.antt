-- Inferences with a letter, and what they speak of.
use Rattle.std.specs.Prelude.{◌≡◌, ℕ, ◌<◌, Some, List, [], ◌∷◌, codes}
use Rattle.serde_json.specs.Data.{Data, Items, item}
use Rattle.serde_json.specs.Find.{as_array}
use Rattle.fs_cert_evidence.specs.Certificate.{Link, Inference, ByChoice, BySource, ByOrder, ByCases, Filter, Cycle, Stale, Reversed, Parted}
use Rattle.fs_cert_evidence.specs.CertificateFile.{IsLink, IsNameInRange, IsNumber, IsText}
use Rattle.fs_cert_evidence.specs.WitnessFile.{EachItem, IsInRange}
use Rattle.fs_cert_json.specs.declared.operands.Operands.{Operands}
use Rattle.fs_cert_json.specs.declared.operands.Operands.TheVariants.{Number, One, Two, Three}

-- an array with this letter and these further values
abbrev pub HasLetter : Data → (letter : List ℕ) → (others : Items) → Type 0
HasLetter d letter others = (first : Data) × (as_array d ≡ Some (item first others)) × IsText first letter

-- the values say these operands
abbrev pub AreOperands : Items → Operands → Type 0
AreOperands ds (Number n) = EachItem IsNumber ds (n ∷ [])
AreOperands ds (One name) = EachItem IsNameInRange ds (name ∷ [])
AreOperands ds (Two first second) = EachItem IsNameInRange ds (first ∷ second ∷ [])
AreOperands ds (Three first second third) = EachItem IsNameInRange ds (first ∷ second ∷ third ∷ [])

-- the letter and the operands are those of the inference
abbrev pub IsMadeOf : (letter : List ℕ) → Operands → Inference → Type 0
IsMadeOf letter operands (ByChoice name) = (letter ≡ codes "c") × (operands ≡ One name)
IsMadeOf letter operands (BySource load) = (letter ≡ codes "s") × (operands ≡ One load)
IsMadeOf letter operands (ByOrder first second) = (letter ≡ codes "o") × (operands ≡ Two first second)
IsMadeOf letter operands (ByCases condition) = (letter ≡ codes "d") × (operands ≡ Number condition)
IsMadeOf letter operands (Filter hart) = (letter ≡ codes "f") × (operands ≡ Number hart) × (hart < 256)
IsMadeOf letter operands (Cycle links) = ⊥
IsMadeOf letter operands (Stale load store) = (letter ≡ codes "l") × (operands ≡ Two load store)
IsMadeOf letter operands (Reversed load store) = (letter ≡ codes "a") × (operands ≡ Two load store)
IsMadeOf letter operands (Parted load store other) = (letter ≡ codes "a") × (operands ≡ Three load store other)

-- the letter and the values say the inference
abbrev pub IsSaidBy : (letter : List ℕ) → (others : Items) → Inference → Type 0
IsSaidBy letter others inference = (operands : Operands) × AreOperands others operands × IsMadeOf letter operands
    inference

-- ---- cycles

abbrev pub IsLinkInRange : Data → Link → Type 0
IsLinkInRange d link = IsLink d link × IsInRange link.operation
