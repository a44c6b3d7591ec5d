-- Pictures of executions.
use Rattle.std.specs.Prelude.{◌≡◌, ℕ, Option, None, Some, List, ◌++◌, codes, length, string_bytes}
use Rattle.std.specs.Fmt.{decimal}
use Rattle.fs_kinds.specs.declared.kind.Kind.{Kind}
use Rattle.fs_kinds.specs.declared.placement.Entry.{Entry}
use Rattle.fs_kinds.specs.declared.slot.Slot.{Slot}
use Rattle.fs_kinds.specs.Kind.{word}
use Rattle.fs_kinds.specs.Placement.{with_kind}
use Rattle.fs_kinds.specs.Slot.{slot_name}
use Rattle.fs_model.specs.declared.test.Test.{Test}
use Rattle.fs_model.specs.Execution.{Execution}
use Rattle.fs_model.specs.Placed.{IsPlaced}
use Rattle.fs_model.specs.Slots.{slots}
use Rattle.fs_model.specs.Witness.{Witness}
use Rattle.fs_litmus.specs.Reads.{Reads}
use Rattle.fs_cert_evidence.specs.Shown.{IsShownBy, ShowsAs}
use Rattle.fs_cert_evidence.specs.WitnessFile.{IsWitnessFile}
use Rattle.fs_app_dot.specs.Pictures.{IsPicture}
use Rattle.fs_app_why.specs.Traces.{as_list}
use Rattle.fs_app_why.specs.Why.{NoWitnessShows, asked}
use Rattle.fs_app_why.specs.declared.telling.Telling.{Telling}
use Rattle.fs_app_why.specs.Reordered.{IsFirstShown, IsToldOf}
use Rattle.fs_app_dot.specs.declared.picture.Picture.{Picture}
use Rattle.fs_app_dot.specs.Kinds.{AreOf}

-- ---- one picture

-- it was made when there was such an execution. Which boxes and arrows it has is left open.
pub record IsDrawnOf (Is : Execution → Type 0) (name title : List ℕ) (picture : Picture) : Type 0 where
  pub execution : Execution
  pub is : Is execution
  pub named : string_bytes picture.name ≡ name
  pub drawn : IsPicture title (string_bytes picture.text)

-- or there is none
abbrev pub IsOneOf : (Is : Execution → Type 0) → (IsNone : Type 0) → (name title : List ℕ) → Option Picture → Type 0
IsOneOf Is IsNone name title None = IsNone
IsOneOf Is IsNone name title (Some picture) = IsDrawnOf Is name title picture

-- the picture alone, if there is one
abbrev pub IsListOf : (Option Picture → Type 0) → List Picture → Type 0
IsListOf IsFound pictures = (found : Option Picture) × IsFound found × (pictures ≡ as_list found)

abbrev pub execution_name : List ℕ
execution_name = codes "execution"

abbrev pub execution_title : List ℕ → List ℕ
execution_title title = title ++ codes ": execution"

-- ---- of a witness, with the fences that this gives

abbrev pub allowed_title : List ℕ → List ℕ
allowed_title = execution_title

abbrev pub none_title : List ℕ → List ℕ
none_title title = title ++ codes " with rw,rw in every slot"

-- the execution that `--why` tells, or none where the witness doesn't show the outcome
pub record AreOfWitness (fences : Test → List Entry) (title test : List ℕ) (w : Witness) (pictures : List Picture)
    : Type 0 where
  pub the_test : Test
  pub reads : Reads test the_test
  pub shown : IsListOf (IsOneOf (IsToldOf the_test (fences the_test) w) (IsShownBy the_test (fences the_test) w → ⊥)
      execution_name title) pictures

-- ---- of a witness to which `order` says yes, the execution that it gives

pub record AreOfOrder (title test witness : List ℕ) (fences : List (List ℕ)) (pictures : List Picture)
    : Type 0 where
  pub the_test : Test
  pub placement : List Entry
  pub given : Witness
  pub reads : Reads test the_test
  pub placed : IsPlaced None (slots the_test) fences (Some placement)
  pub says : IsWitnessFile (length the_test.codes) witness given
  pub shown : IsListOf (IsOneOf (ShowsAs the_test placement given) (IsShownBy the_test placement given → ⊥)
      execution_name (execution_title title)) pictures

-- ---- of fences, an execution without each

-- such as `without-P0-3`
abbrev pub without_name : Slot → List ℕ
without_name slot = codes "without-P" ++ (decimal slot.hart ++ (codes "-" ++ decimal slot.at))

-- such as `SB without w,r before P0:2`
abbrev pub without_title : (title : List ℕ) → Slot → Kind → List ℕ
without_title title slot kind = title ++ (codes " without " ++ (word kind ++ (codes " before " ++ slot_name slot)))

module _ (t : Test) (title : List ℕ) where
  -- of the first witness that shows the outcome with these fences
  abbrev pub IsToldOfFirst : List Witness → List Entry → Execution → Type 0
  IsToldOfFirst ws p e = (w : Witness) × IsFirstShown t p ws w × IsToldOf t p w e

  -- without the fence of this kind in the slot; none where no witness shows the outcome so
  abbrev pub IsWithout : List Witness → List Entry → Slot → Kind → Option Picture → Type 0
  IsWithout ws p slot kind =
      IsOneOf (IsToldOfFirst ws (with_kind slot None p)) (NoWitnessShows t ws (with_kind slot None p))
      (without_name slot) (without_title title slot kind)

  -- of a slot without a fence none
  abbrev pub IsOfEntry : List Witness → List Entry → Slot → Option Kind → Option Picture → Type 0
  IsOfEntry ws p slot None found = found ≡ None
  IsOfEntry ws p slot (Some kind) found = IsWithout ws p slot kind found

  -- one that isn't asked for is as one without a fence
  abbrev pub IsOfAsked : Telling → List Witness → List Entry → Entry → Option Picture → Type 0
  IsOfAsked telling ws p entry = IsOfEntry ws p (asked telling entry).slot (asked telling entry).kind

  -- of those of these slots that are asked for, in their order
  abbrev pub AreOfFences : Telling → List Witness → List Entry → List Entry → List Picture → Type 0
  AreOfFences telling ws p entries pictures = AreOf (IsOfAsked telling ws p) entries pictures
