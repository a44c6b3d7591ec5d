-- Leaves with an argument.
use Rattle.std.specs.Prelude.{◌≤◌, length, codes}
use Rattle.serde_json.specs.Data.{Data}
use Rattle.fs_cert_evidence.specs.Certificate.{Version, First, Item, SplitAt, Costly, Refuted, Bounded}
use Rattle.fs_cert_evidence.specs.CertificateFile.{IsNumber, IsText}
use Rattle.fs_cert_evidence.specs.WitnessFile.{IsArrayOf}

-- the letter and the argument say the leaf
abbrev pub IsLeaf : Version → (letter argument : Data) → Item → Type 0
IsLeaf version letter argument (SplitAt slot) = ⊥
IsLeaf version letter argument Costly = ⊥
IsLeaf version letter argument (Refuted j) = IsText letter (codes "w") × IsNumber argument j
IsLeaf First letter argument (Bounded js) = ⊥
IsLeaf version letter argument (Bounded js) = IsText letter (codes "b") × IsArrayOf IsNumber argument js ×
    (1 ≤ length js)
