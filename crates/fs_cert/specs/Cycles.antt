-- In which version a certificate is written, and where its cycles begin.
use Rattle.std.specs.Prelude.{◌≡◌, ◌⊎◌, ◌≤◌, ◌<◌, List, [], ◌∷◌, All}
use Rattle.fs_kinds.specs.declared.reason.OperationName.{OperationName as Name}
use Rattle.fs_cert_evidence.specs.Certificate.{Link, Cycles, Listed, Inferred, Version, Second, Fourth}

-- the second where cycles are listed, the fourth where there are inferences
abbrev pub version_for : Cycles → Version
version_for (Listed cycles) = Second
version_for (Inferred inferences) = Fourth

-- the first operation doesn't come after the second, by hart and then by instruction
abbrev pub IsNotAfter : Name → Name → Type 0
IsNotAfter a b = (a.hart < b.hart) ⊎ ((a.hart ≡ b.hart) × (a.at ≤ b.at))

-- the operation of the first link doesn't come after any other's
abbrev pub BeginsAtLeast : List Link → Type 0
BeginsAtLeast [] = Unit {0}
BeginsAtLeast (link ∷ links) = All (λ other. IsNotAfter link.operation other.operation) links
