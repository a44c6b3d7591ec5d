-- Which pictures are made: of what `--why` tells.
use Rattle.std.specs.Prelude.{◌≡◌, ◌⊎◌, ℕ, Bool, true, false, None, Some, List, [], ◌∷◌, ◌++◌}
use Rattle.fs_kinds.specs.declared.placement.Entry.{Entry}
use Rattle.fs_model.specs.declared.test.Test.{Test}
use Rattle.fs_model.specs.Allows.{Allows, full_fences, no_fences}
use Rattle.fs_model.specs.Placed.{IsPlaced}
use Rattle.fs_model.specs.Slots.{slots}
use Rattle.fs_model.specs.Witness.{Witness}
use Rattle.fs_litmus.specs.Reads.{Reads}
use Rattle.fs_cert_evidence.specs.Certificate.{Answer, Certificate, Cycles, Fenced, NoneForbids}
use Rattle.fs_cert_evidence.specs.CertificateFile.{IsCertificateFile}
use Rattle.fs_cert_evidence.specs.Valid.{Forbid}
use Rattle.fs_app_why.specs.Kinds.{ChainKind}
use Rattle.fs_app_why.specs.Forbidden.{AreKinds}
use Rattle.fs_app_why.specs.Why.{lacks_placed}
use Rattle.fs_app_why.specs.declared.telling.Telling.{Telling}
use Rattle.fs_app_dot.specs.declared.picture.Picture.{Picture}
use Rattle.fs_app_dot.specs.Kinds.{AreOfKinds}
use Rattle.fs_app_dot.specs.Executions.{AreOfFences, AreOfWitness, none_title}

-- ---- of a test as it is written

-- with these fences: of what shows that the outcome is forbidden. Which of several this is, is left open.
pub record AreOfRefutation (t : Test) (title : List ℕ) (telling : Telling) (p : List Entry) (pictures : List Picture)
    : Type 0 where
  pub cycles : Cycles
  pub kinds : List ChainKind
  pub shows : Forbid t p cycles
  pub are_kinds : AreKinds t p cycles kinds
  pub drawn : AreOfKinds t title telling kinds pictures

-- none where it is allowed
abbrev pub AreOfVerdict : Test → (title : List ℕ) → Telling → List Entry → List Picture → Type 0
AreOfVerdict t title telling p pictures = AreOfRefutation t title telling p pictures ⊎ (Allows t p × (pictures ≡ []))

pub record AreForbiddenPictures (title : List ℕ) (telling : Telling) (test : List ℕ) (pictures : List Picture)
    : Type 0 where
  pub the_test : Test
  pub reads : Reads test the_test
  pub told : AreOfVerdict the_test title telling (no_fences the_test) pictures

-- ---- of the answer of a certificate

-- of the kinds, and behind them of the fences
abbrev pub AreOfKindsAndFences
    : Test → (title : List ℕ) → Telling → List Entry → List ChainKind → List Witness → List Picture → Type 0
AreOfKindsAndFences t title telling p kinds ws pictures =
    (of_kinds : List Picture) × (of_fences : List Picture) × AreOfKinds t title telling kinds of_kinds
    × AreOfFences t title telling ws p p of_fences × (pictures ≡ of_kinds ++ of_fences)

pub record AreOfPlaced (t : Test) (title : List ℕ) (telling : Telling) (p : List Entry) (cycles : Cycles)
    (ws : List Witness) (pictures : List Picture) : Type 0 where
  pub kinds : List ChainKind
  pub are_kinds : AreKinds t p cycles kinds
  pub drawn : AreOfKindsAndFences t title telling p kinds ws pictures

-- none where the fence is lacking that is asked for
abbrev pub AreUnless : (is_lacking : Bool) → (List Picture → Type 0) → List Picture → Type 0
AreUnless true Are pictures = pictures ≡ []
AreUnless false Are pictures = Are pictures

-- the words name fences in the test's slots
pub record AreOfFenced (title : List ℕ) (telling : Telling) (test : List ℕ) (words : List (List ℕ)) (cycles : Cycles)
    (ws : List Witness) (pictures : List Picture) : Type 0 where
  pub the_test : Test
  pub placement : List Entry
  pub reads : Reads test the_test
  pub placed : IsPlaced None (slots the_test) words (Some placement)
  pub told : AreUnless (lacks_placed telling placement) (AreOfPlaced the_test title telling placement cycles ws)
      pictures

-- of `none` an execution, where the first witness gives one, whatever is asked for
abbrev pub AreOfAnswer
    : (title : List ℕ) → Telling → (test : List ℕ) → Answer → Cycles → List Witness → List Picture → Type 0
AreOfAnswer title telling test (Fenced cost fences) cycles ws pictures =
    AreOfFenced title telling test fences cycles ws pictures
AreOfAnswer title telling test NoneForbids cycles [] pictures = pictures ≡ []
AreOfAnswer title telling test NoneForbids cycles (w ∷ ws) pictures =
    AreOfWitness full_fences (none_title title) test w pictures

pub record AreCertifiedPictures (title : List ℕ) (telling : Telling) (test certificate : List ℕ)
    (pictures : List Picture) : Type 0 where
  pub said : Certificate
  pub file : IsCertificateFile certificate said
  pub told : AreOfAnswer title telling test said.answer said.cycles said.witnesses pictures
