-- Subtrees of a tree of inferences, each of which can be looked at apart.
use Rattle.std.specs.Prelude.{◌≡◌, ℕ, ◌%◌, ◌<◌, true, List, [], ◌∷◌, All, length, map, slice_range}
use Rattle.std.specs.List.{slice_index_or}
use Rattle.fs_kinds.specs.declared.placement.Entry.{Entry}
use Rattle.fs_model.specs.declared.test.Test.{Test}
use Rattle.fs_cert_evidence.specs.Certificate.{Inference}
use Rattle.fs_cert_evidence.specs.Inferences.{inference_of}
use Rattle.fs_cert_evidence.specs.Trees.{refutes}
use Rattle.fs_region_refutation.specs.declared.subtrees.Subtree.{Subtree}
use Rattle.fs_region_refutation.specs.declared.subtrees.Subtrees.{Subtrees}
use Rattle.fs_region_refutation.specs.Views.{region_of, IsOf}

-- the subtree's part of all inferences refutes its region
abbrev pub IsRefutedBy : Test → List Entry → List Inference → Subtree → Type 0
IsRefutedBy t p all subtree =
    refutes t p (region_of subtree.region ∷ []) (slice_range all subtree.from subtree.to) ≡ true

abbrev pub IsRefutedIn : Subtrees → Subtree → Type 0
IsRefutedIn subtrees = IsRefutedBy subtrees.basis.now subtrees.placement.now (map inference_of subtrees.inferences.now)

-- the runs of each region are the test's
abbrev pub AreOfTheTest : Subtrees → Type 0
AreOfTheTest subtrees = All (λ (subtree : Subtree). IsOf subtrees.basis.now subtree.region) subtrees.all.items

-- each subtree refutes its region
abbrev pub AreRefuted : Subtrees → Type 0
AreRefuted subtrees =
    (k : ℕ) (d : Subtree) → k < length subtrees.all.items → IsRefutedIn subtrees (slice_index_or subtrees.all.items k d)

-- each one does whose turn it is for this one of so many workers
abbrev pub AreRefutedInTurn : (workers worker : ℕ) → Subtrees → Type 0
AreRefutedInTurn workers worker subtrees =
    (k : ℕ) (d : Subtree) → k < length subtrees.all.items → k % workers ≡ worker
    → IsRefutedIn subtrees (slice_index_or subtrees.all.items k d)
