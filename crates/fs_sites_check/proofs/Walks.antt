-- What a walk over inferences that finds no reason shows.
use Rattle.std.proofs.Common.{◌≡◌, ℕ, Option, None, List, sym, ◌∙◌}
use Rattle.fs_kinds.specs.declared.placement.Entry.{Entry}
use Rattle.fs_kinds.specs.declared.reason.Reason.{Reason}
use Rattle.fs_model.specs.declared.step.Step.{Step}
use Rattle.fs_model.specs.declared.test.Test.{Test}
use Rattle.fs_cert_evidence.specs.Certificate.{Inference}
use Rattle.fs_cert_evidence.specs.Refusals.{first_wrong}
use Rattle.fs_cert_evidence.specs.Trees.{roots, AreItsRuns, IsRefuted}
use Rattle.fs_region_refutation.proofs.Walked.{none_to}

pub refuted : (t : Test) (p : List Entry) (is : List Inference) (why : Option Reason) → why ≡ None
    → ((runs : ℕ → List (List Step)) × AreItsRuns t runs × (why ≡ first_wrong t p (roots t runs) is 0)) → IsRefuted t p is
refuted t p is why none found = record {
  runs = found.0;
  all = found.1;
  refuted = none_to t p (roots t found.0) is 0 (sym found.2 ∙ none);
}
