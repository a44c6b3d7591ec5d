-- What `--why` prints below an answer, and the fault that it answers.
use Rattle.std.specs.Prelude.{◌≡◌, ◌⊎◌, ℕ, ◌==◌, Bool, true, false, ◌&&◌, not, List, [], ◌∷◌, ◌++◌, length, Option, None, Some, codes, slice_get}
use Rattle.std.specs.Prelude.{if◌then◌else◌}
use Rattle.std.specs.Fmt.{decimal}
use Rattle.std.specs.List.{Contains, slice_index_or}
use Rattle.fs_instr.specs.declared.instr.Instr.{Instr}
use Rattle.fs_kinds.specs.declared.fault.Fault.{Fault}
use Rattle.fs_kinds.specs.declared.fault.Fault.TheVariants.{BadCertificate, BadFence, Memory}
use Rattle.fs_kinds.specs.declared.kind.Kind.{Kind}
use Rattle.fs_kinds.specs.declared.placement.Entry.{Entry}
use Rattle.fs_kinds.specs.declared.slot.Slot.{Slot}
use Rattle.fs_kinds.specs.Kind.{word}
use Rattle.fs_kinds.specs.Placement.{kind_at, with_kind}
use Rattle.fs_kinds.specs.ReasonText.{operation_name}
use Rattle.fs_kinds.specs.Slot.{slot_name}
use Rattle.fs_model.specs.declared.test.Test.{Test}
use Rattle.fs_model.specs.Allows.{Allows, no_fences, full_fences}
use Rattle.fs_model.specs.Execution.{Execution}
use Rattle.fs_model.specs.Placed.{IsPlaced}
use Rattle.fs_model.specs.Slots.{slots}
use Rattle.fs_model.specs.TooMany.{IsRunFault}
use Rattle.fs_model.specs.Witness.{Witness}
use Rattle.fs_litmus.specs.Reads.{Reads}
use Rattle.fs_litmus.specs.Faults.{IsTestFault}
use Rattle.fs_litmus.specs.Lines.{StandIn}
use Rattle.fs_cert_evidence.specs.CandidateFaults.{IsCandidateFault}
use Rattle.fs_cert_evidence.specs.Certificate.{Answer, Certificate, Cycles, Fenced, NoneForbids}
use Rattle.fs_cert_evidence.specs.CertificateFile.{IsCertificateFile}
use Rattle.fs_cert_evidence.specs.Shown.{ShowsAs, IsShownBy}
use Rattle.fs_cert_evidence.specs.Valid.{Forbid}
use Rattle.fs_cert_evidence.specs.WitnessFile.{IsWitnessFile}
use Rattle.fs_app_why.specs.declared.fences.Fence.TheVariants.{Placed}
use Rattle.fs_app_why.specs.Fences.{is_fence}
use Rattle.fs_app_why.specs.Kinds.{ChainKind}
use Rattle.fs_app_place_and_order.specs.Place.{IsBadFences}
use Rattle.fs_app_why.specs.declared.telling.Telling.{Telling}
use Rattle.fs_app_why.specs.declared.telling.Telling.TheVariants.{One}
use Rattle.fs_app_why.specs.Counted.{in_text}
use Rattle.fs_app_why.specs.Told.{fence_key}
use Rattle.fs_app_why.specs.InstructionWords.{instr_named, line_of, text_of_instr}
use Rattle.fs_app_why.specs.Reordered.{IsFirstShown, IsToldOf}
use Rattle.fs_app_why.specs.Forbidden.{AreKinds, cycles_text}
use Rattle.fs_app_why.specs.Traces.{trace_text}
use Rattle.fs_app_why.specs.Weaker.{Serve, weaker_that, without_or_with}

-- ---- of a witness to which `order` says yes, the execution that it gives

abbrev pub order_heading : List ℕ
order_heading = codes "\nIn the order of memory:\n"

abbrev pub TellsGiven : Test → (lines : List (List ℕ)) → List Entry → Witness → (text : List ℕ) → Type 0
TellsGiven t lines p w text =
    (e : Execution) × ShowsAs t p w e × (text ≡ order_heading ++ trace_text t lines e)

pub record IsOrderWhy (test witness : List ℕ) (fences : List (List ℕ)) (text : List ℕ) : Type 0 where
  pub the_test : Test
  pub lines : List (List ℕ)
  pub placement : List Entry
  pub given : Witness
  pub reads : Reads test the_test
  pub stand : StandIn test lines
  pub placed : IsPlaced None (slots the_test) fences (Some placement)
  pub says : IsWitnessFile (length the_test.codes) witness given
  pub told : TellsGiven the_test lines placement given text ⊎ ((IsShownBy the_test placement given → ⊥) × (text ≡ []))

-- ---- of a test, an execution that shows the outcome

abbrev pub allowed_heading : List ℕ
allowed_heading = codes "\nThe outcome can be, in the order of memory:\n"

abbrev pub none_heading : List ℕ
none_heading =
    codes "\nThe outcome can be whatever fences are placed. With rw,rw at every slot, in the order of memory:\n"

-- of the witness, with the fences that this gives
pub record IsExecutionTold (fences : Test → List Entry) (heading test : List ℕ) (w : Witness) (text : List ℕ) : Type 0 where
  pub the_test : Test
  pub lines : List (List ℕ)
  pub execution : Execution
  pub reads : Reads test the_test
  pub stand : StandIn test lines
  pub is_of : IsToldOf the_test (fences the_test) w execution
  pub told : text ≡ heading ++ trace_text the_test lines execution

-- the witness gives none
pub record IsNotShown (fences : Test → List Entry) (test : List ℕ) (w : Witness) : Type 0 where
  pub the_test : Test
  pub reads : Reads test the_test
  pub shown : IsShownBy the_test (fences the_test) w → ⊥

-- as it is written
abbrev pub IsAllowedWhy : (test : List ℕ) → Witness → (text : List ℕ) → Type 0
IsAllowedWhy = IsExecutionTold no_fences allowed_heading

-- with rw,rw in every slot
abbrev pub IsNoneWhy : (test : List ℕ) → Witness → (text : List ℕ) → Type 0
IsNoneWhy = IsExecutionTold full_fences none_heading

-- ---- of a test whose outcome is forbidden, why it is

-- this line alone where the fence is lacking that is asked for; else this is so of the text
abbrev pub TellsUnless : (is_lacking : Bool) → (line : List ℕ) → (List ℕ → Type 0) → (text : List ℕ) → Type 0
TellsUnless true line P text = text ≡ line
TellsUnless false line P text = P text

-- with these fences: the contradictions of what shows it. Which of several this is, is left open.
pub record TellsForbidden (t : Test) (lines : List (List ℕ)) (telling : Telling) (p : List Entry) (text : List ℕ) : Type 0 where
  pub cycles : Cycles
  pub kinds : List ChainKind
  pub shows : Forbid t p cycles
  pub are_kinds : AreKinds t p cycles kinds
  pub told : text ≡ cycles_text t lines telling cycles kinds

abbrev pub is_written : Option Instr → Bool
is_written None = false
is_written (Some instr) = is_fence instr

-- the instruction that is asked for is no FENCE
abbrev pub lacks_written : Telling → Test → Bool
lacks_written (One hart at) t = not (is_written (instr_named t (record { hart = hart; at = at })))
lacks_written telling t = false

abbrev pub unwritten_text : Telling → List ℕ
unwritten_text (One hart at) =
    codes "\nno fence stands at " ++ (operation_name (record { hart = hart; at = at }) ++ codes "\n")
unwritten_text telling = []

-- as it is written
pub record IsForbiddenWhy (telling : Telling) (test text : List ℕ) : Type 0 where
  pub the_test : Test
  pub lines : List (List ℕ)
  pub reads : Reads test the_test
  pub stand : StandIn test lines
  pub tells : TellsUnless (lacks_written telling the_test) (unwritten_text telling)
      (TellsForbidden the_test lines telling (no_fences the_test)) text

-- as it is written some execution shows it
abbrev pub IsAllowed : (test : List ℕ) → Type 0
IsAllowed test = (t : Test) × Reads test t × Allows t (no_fences t)

-- the runs of the test can't be listed, or its candidates are too many
abbrev pub HasCandidateFault : (test : List ℕ) → Fault → Type 0
HasCandidateFault test fault = (t : Test) × Reads test t × IsCandidateFault t fault

-- ---- of fences, an execution without each

-- the instruction before which the slot is, in print
abbrev pub instr_at : Test → Slot → List ℕ
instr_at t slot = text_of_instr (slice_get (slice_index_or t.codes slot.hart []) slot.at)

abbrev pub named_text : Test → (lines : List (List ℕ)) → Slot → Kind → List ℕ
named_text t lines slot kind =
    codes "\n" ++ (word kind ++ (codes " before " ++ (slot_name slot ++ (codes " (line "
    ++ (decimal (line_of lines (record { hart = slot.hart; at = slot.at })) ++ (codes ", " ++ (instr_at t slot ++ codes ")")))))))

-- the fence, and which of these kinds of contradictions it is in
abbrev pub fence_line : Test → (lines : List (List ℕ)) → Telling → List ChainKind → Slot → Kind → List ℕ
fence_line t lines telling kinds slot kind =
    named_text t lines slot kind ++ (in_text telling kinds (fence_key (Placed slot kind)) ++ codes "\n")

-- of a slot without a fence nothing
abbrev pub head_text : Test → (lines : List (List ℕ)) → Telling → List ChainKind → Slot → Option Kind → List ℕ
head_text t lines telling kinds slot None = []
head_text t lines telling kinds slot (Some kind) = fence_line t lines telling kinds slot kind

-- a slot that isn't asked for is as one without a fence
abbrev pub is_passed : Telling → Slot → Bool
is_passed (One hart at) slot = not ((slot.hart == hart) && (slot.at == at))
is_passed telling slot = false

abbrev pub asked : Telling → Entry → Entry
asked telling entry =
    record { slot = entry.slot; kind = if is_passed telling entry.slot then None else entry.kind }

-- where no weaker fences are told
abbrev pub without_heading : List ℕ
without_heading = codes "Without it, in the order of memory:\n"

-- none of these witnesses shows the outcome with these fences
abbrev pub NoWitnessShows : Test → List Witness → List Entry → Type 0
NoWitnessShows t ws p = (w : Witness) → Contains ws w → IsShownBy t p w → ⊥

module _ (t : Test) (lines : List (List ℕ)) (ws : List Witness) (IsUntold : List Entry → Type 0) (p : List Entry) where
  -- an execution of the first witness that shows the outcome without the fence of this kind in this slot, below which
  -- weaker ones serve there; or nothing
  abbrev pub TellsFirst : Slot → Kind → (text : List ℕ) → Type 0
  TellsFirst slot kind text =
      ((w : Witness) × (e : Execution) × (serves : Kind → Bool) × IsFirstShown t (with_kind slot None p) ws w
      × IsToldOf t (with_kind slot None p) w e × Serve t p slot e serves
      × (text ≡ without_or_with (weaker_that serves kind) ++ trace_text t lines e))
      ⊎ (IsUntold (with_kind slot None p) × (text ≡ []))

  -- of a slot without a fence nothing
  abbrev pub TellsWithout : Slot → Option Kind → (text : List ℕ) → Type 0
  TellsWithout slot None text = text ≡ []
  TellsWithout slot (Some kind) text = TellsFirst slot kind text

module _ (t : Test) (lines : List (List ℕ)) (telling : Telling) (kinds : List ChainKind) (ws : List Witness) (IsUntold : List Entry → Type 0) (p : List Entry) where
  abbrev pub TellsEntry : Entry → (text : List ℕ) → Type 0
  TellsEntry entry text =
      (without : List ℕ) × TellsWithout t lines ws IsUntold p entry.slot entry.kind without
      × (text ≡ head_text t lines telling kinds entry.slot entry.kind ++ without)

  -- of those of these slots that are asked for, in their order
  abbrev pub TellsFences : List Entry → (text : List ℕ) → Type 0
  TellsFences [] text = text ≡ []
  TellsFences (entry ∷ entries) text =
      (told : List ℕ) × (others : List ℕ) × TellsEntry (asked telling entry) told × TellsFences entries others
      × (text ≡ told ++ others)

-- in the slot that is asked for there is no fence
abbrev pub is_bare : Option Kind → Bool
is_bare None = true
is_bare (Some kind) = false

abbrev pub lacks_placed : Telling → List Entry → Bool
lacks_placed (One hart at) p = is_bare (kind_at (record { hart = hart; at = at }) p)
lacks_placed telling p = false

abbrev pub unplaced_text : Telling → List ℕ
unplaced_text (One hart at) =
    codes "\nno fence stands before " ++ (operation_name (record { hart = hart; at = at }) ++ codes "\n")
unplaced_text telling = []

-- first why these fences rule the outcome out; then of each an execution without it, and its line alone only where none
-- of the witnesses gives one
pub record TellsPlaced (t : Test) (lines : List (List ℕ)) (telling : Telling) (p : List Entry) (cycles : Cycles) (ws : List Witness) (text : List ℕ) : Type 0 where
  pub kinds : List ChainKind
  pub fences : List ℕ
  pub are_kinds : AreKinds t p cycles kinds
  pub tells : TellsFences t lines telling kinds ws (NoWitnessShows t ws) p p fences
  pub told : text ≡ cycles_text t lines telling cycles kinds ++ fences

-- the words name fences in the test's slots
pub record TellsAllFences (telling : Telling) (test : List ℕ) (words : List (List ℕ)) (cycles : Cycles) (ws : List Witness) (text : List ℕ) : Type 0 where
  pub the_test : Test
  pub lines : List (List ℕ)
  pub placement : List Entry
  pub reads : Reads test the_test
  pub stand : StandIn test lines
  pub placed : IsPlaced None (slots the_test) words (Some placement)
  pub tells : TellsUnless (lacks_placed telling placement) (unplaced_text telling)
      (TellsPlaced the_test lines telling placement cycles ws) text

-- ---- of an answer that a certificate says

-- of `none` an execution, where the first witness gives one, whatever is asked for
abbrev pub TellsAnswer : Telling → (test : List ℕ) → Answer → Cycles → List Witness → (text : List ℕ) → Type 0
TellsAnswer telling test (Fenced cost fences) cycles witnesses text = TellsAllFences telling test fences cycles witnesses text
TellsAnswer telling test NoneForbids cycles [] text = text ≡ []
TellsAnswer telling test NoneForbids cycles (w ∷ ws) text = IsNoneWhy test w text ⊎ (IsNotShown full_fences test w × (text ≡ []))

pub record IsCertifiedWhy (telling : Telling) (test certificate text : List ℕ) : Type 0 where
  pub said : Certificate
  pub file : IsCertificateFile certificate said
  pub tells : TellsAnswer telling test said.answer said.cycles said.witnesses text

-- the words of the answer's fences don't fit the test
abbrev pub IsBadAnswer : (test : List ℕ) → Answer → Type 0
IsBadAnswer test (Fenced cost fences) = (t : Test) × Reads test t × IsBadFences None t fences
IsBadAnswer test NoneForbids = ⊥

-- the runs of the test can't be listed
abbrev pub HasRunFault : (test : List ℕ) → Fault → Type 0
HasRunFault test fault = (t : Test) × Reads test t × IsRunFault t fault

-- the fault: of the certificate, the test, the words of the answer, or the test's runs; want of memory may come in
-- place of any answer
pub data IsWhyFault (test certificate : List ℕ) : Fault → Type 0 where
  of_certificate : ((c : Certificate) → IsCertificateFile certificate c → ⊥) → IsWhyFault test certificate BadCertificate
  of_test : {fault : Fault} (c : Certificate) → IsCertificateFile certificate c → IsTestFault test fault
      → IsWhyFault test certificate fault
  of_fences : (c : Certificate) → IsCertificateFile certificate c → IsBadAnswer test c.answer
      → IsWhyFault test certificate BadFence
  of_runs : {fault : Fault} (c : Certificate) → IsCertificateFile certificate c → HasRunFault test fault
      → IsWhyFault test certificate fault
  of_memory : IsWhyFault test certificate Memory
