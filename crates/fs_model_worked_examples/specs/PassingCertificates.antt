-- Certificates of message passing: w,w between the stores and r,r between the loads, with one cycle. And that nothing
-- helps where both loads return 1.
use Rattle.std.specs.Prelude.{ℕ, Some, List, [], ◌∷◌, codes}
use Rattle.fs_kinds.specs.declared.kind.Kind.TheVariants.{RR, WW}
use Rattle.fs_kinds.specs.declared.placement.Entry.{Entry}
use Rattle.fs_model.specs.Preserved.{Rule4}
use Rattle.fs_model.specs.Witness.{Witness}
use Rattle.fs_cert_evidence.specs.Judged.{Preserved, ReadsFrom, FromReads}
use Rattle.fs_cert_evidence.specs.Certificate.{Certificate, First, Fourth, Fenced, NoneForbids, Listed, Inferred, Link, Inference, Item, SplitAt, Costly}
use Rattle.fs_model_worked_examples.specs.Rows.{named}
use Rattle.fs_model_worked_examples.specs.MessagePassing.{passes, passing_fences}

-- the two fences, which cost 5
abbrev pub two_fences : List Entry
two_fences = passing_fences (Some WW) (Some RR)

abbrev pub fence_texts : List (List ℕ)
fence_texts = codes "P0:3=w,w" ∷ codes "P1:1=r,r" ∷ []

-- the store to x, the store to y, the load of y, the load of x
abbrev pub fenced_circle : List Link
fenced_circle =
    record { operation = named 0 1; cause = Preserved Rule4 }
    ∷ record { operation = named 0 3; cause = ReadsFrom }
    ∷ record { operation = named 1 0; cause = Preserved Rule4 }
    ∷ record { operation = named 1 1; cause = FromReads }
    ∷ []

-- a certificate of these two fences at this cost
abbrev pub fenced : (cost : ℕ) → List Item → Certificate
fenced cost tree =
    record { version = First; answer = Fenced cost fence_texts; cycles = Listed (fenced_circle ∷ []); tree = tree; witnesses = [] }

-- the root split between the stores, and seven leaves; the first one has no fence there
abbrev pub seven_leaves : List Item
seven_leaves = SplitAt 0 ∷ Costly ∷ Costly ∷ Costly ∷ Costly ∷ Costly ∷ Costly ∷ Costly ∷ []

-- a certificate of none
abbrev pub nothing_helps : List Item → List Witness → Certificate
nothing_helps tree witnesses = record { version = First; answer = NoneForbids; cycles = Listed []; tree = tree; witnesses = witnesses }

-- one of the fourth version, with its witness
abbrev pub nothing_inferred : List Inference → Certificate
nothing_inferred inferences = record {
  version = Fourth;
  answer = NoneForbids;
  cycles = Inferred inferences;
  tree = [];
  witnesses = passes ∷ [];
}
