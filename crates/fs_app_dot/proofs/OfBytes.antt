-- From the test that was read to its bytes.
use Rattle.std.proofs.Common.{◌≡◌, ℕ, List, subst}
use Rattle.fs_kinds.specs.declared.placement.Entry.{Entry}
use Rattle.fs_model.specs.declared.test.Test.{Test}
use Rattle.fs_model.specs.Witness.{Witness}
use Rattle.fs_litmus.specs.Reads.{Reads}
use Rattle.fs_cert_evidence.specs.Shown.{IsShownBy}
use Rattle.fs_app_why.specs.Reordered.{IsToldOf}
use Rattle.fs_app_dot.specs.declared.picture.Picture.{Picture}
use Rattle.fs_app_dot.specs.Executions.{AreOfWitness, IsListOf, IsOneOf, execution_name}

abbrev of_test : Test → List Entry → Witness → (title : List ℕ) → List Picture → Type 0
of_test t p w title pictures =
    IsListOf (IsOneOf (IsToldOf t p w) (IsShownBy t p w → ⊥) execution_name title) pictures

module _ (fences : Test → List Entry) (title bytes : List ℕ) (w : Witness) (t : Test) (p : List Entry) (own : List ℕ) where
  pub of_bytes : Reads bytes t → p ≡ fences t → own ≡ title → (pictures : List Picture) → of_test t p w own pictures
      → AreOfWitness fences title bytes w pictures
  of_bytes reads is same pictures shown = record {
    the_test = t;
    reads = reads;
    shown = subst (λ head. of_test t (fences t) w head pictures) same (subst (λ q. of_test t q w own pictures) is shown);
  }
