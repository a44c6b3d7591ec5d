-- Where a refutation ends: the regions to which it comes, each with the inference that ends it.
use Rattle.std.specs.Prelude.{List, [], ◌∷◌, ◌++◌}
use Rattle.fs_model.specs.declared.test.Test.{Test}
use Rattle.fs_cert_evidence.specs.Certificate.{Inference, Cycle, Stale, Reversed, Parted}
use Rattle.fs_cert_evidence.specs.Regions.{Region}
use Rattle.fs_cert_evidence.specs.Trees.{left_after}

-- the region with the inference, if this is an end
abbrev pub end_of : Region → Inference → List (Region × Inference)
end_of region (Cycle links) = (region, Cycle links) ∷ []
end_of region (Stale load store) = (region, Stale load store) ∷ []
end_of region (Reversed load store) = (region, Reversed load store) ∷ []
end_of region (Parted load store other) = (region, Parted load store other) ∷ []
end_of region other = []

module _ (t : Test) where
  -- of inferences over these regions, in preorder
  abbrev pub ends : List Region → List Inference → List (Region × Inference)
  ends [] inferences = []
  ends (region ∷ regions) [] = []
  ends (region ∷ regions) (inference ∷ inferences) =
      end_of region inference ++ ends (left_after t region inference ++ regions) inferences
