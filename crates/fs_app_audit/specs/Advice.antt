-- What is advised of each FENCE of a code, and of each access that lacks one, by a placement over the slots of the
-- unfenced test.
use Rattle.std.specs.Prelude.{ℕ, Bool, true, false, Option, None, Some, is_none, List, [], length, if◌then◌else◌}
use Rattle.std.specs.List.{list_all, slice_index_or}
use Rattle.fs_instr.specs.declared.instr.Instr.{Instr}
use Rattle.fs_instr.specs.declared.instr.Instr.TheVariants.{Fence, FenceI}
use Rattle.fs_kinds.specs.declared.kind.Kind.{Kind}
use Rattle.fs_kinds.specs.declared.placement.Entry.{Entry}
use Rattle.fs_kinds.specs.declared.slot.Slot.{Slot}
use Rattle.fs_kinds.specs.Placement.{has_slot, kind_at}
use Rattle.fs_model.specs.Numbers.{is_same, numbers_below}
use Rattle.fs_model.specs.Slots.{slot_at, is_memory_at}
pub use Rattle.fs_model_laws.specs.InPlace.{kind_there}
use Rattle.fs_app_audit.specs.Unfenced.{position}
use Rattle.fs_app_audit.specs.Standing.{is_at, is_fence_at, access_after, answering, covers, is_of, is_between_accesses}
use Rattle.fs_app_audit.specs.declared.advice.Advice.{Advice}
use Rattle.fs_app_audit.specs.declared.advice.Advice.TheVariants.{Needed, Unpriced, Enough, Instead, NotNeeded, NoSlot, Idle, Devices, Missing}

-- a FENCE that orders no memory, or fence.i
abbrev pub is_device_fence : Instr → Bool
is_device_fence (Fence before after) = true
is_device_fence FenceI = true
is_device_fence _ = false

-- of the FENCE that stands for this kind, by its own
abbrev pub graded : Kind → Option Kind → Advice
graded kind own = if is_of kind own then Needed else if covers kind own then Enough kind else Instead kind

-- of a FENCE at a slot where the placement has this
abbrev pub advice_for : List Instr → (at access : ℕ) → Option Kind → Advice
advice_for code at access None = NotNeeded
advice_for code at access (Some kind) =
    if is_same (answering code access kind) (Some at) then graded kind (kind_there code at) else NotNeeded

-- of an access at which no FENCE stands, where the placement has this
abbrev pub missing : List Instr → (access : ℕ) → Option Kind → Option Advice
missing code access None = None
missing code access (Some kind) = if is_none (answering code access kind) then Some (Missing kind) else None

-- the slot of an access in the unfenced test, if it is one
abbrev pub slot_of : (hart : ℕ) → List Instr → (access : ℕ) → Slot
slot_of hart code access = slot_at hart (position code access)

-- of a FENCE at no slot
abbrev pub off_slot : List Instr → ℕ → Advice
off_slot code at = if is_between_accesses code at then NoSlot else Idle

-- of a FENCE that stands at this access
abbrev pub advice_at : List Entry → (hart : ℕ) → List Instr → (at : ℕ) → Option ℕ → Advice
advice_at p hart code at None = off_slot code at
advice_at p hart code at (Some access) =
    if has_slot (slot_of hart code access) p then advice_for code at access (kind_at (slot_of hart code access) p) else off_slot code at

-- of instruction `at`
abbrev pub advice_of : List Entry → (hart : ℕ) → List Instr → (at : ℕ) → Option Advice
advice_of p hart code at =
    if is_fence_at code at then Some (advice_at p hart code at (access_after code at))
    else if is_memory_at code at then missing code at (kind_at (slot_of hart code at) p)
    else if is_at is_device_fence code at then Some Devices else None

-- ---- is all as it should be?

-- there is nothing to change
abbrev pub changes_nothing : Advice → Bool
changes_nothing Needed = true
changes_nothing Unpriced = true
changes_nothing Devices = true
changes_nothing _ = false

abbrev pub is_content : Option Advice → Bool
is_content None = true
is_content (Some a) = changes_nothing a

-- each FENCE of the hart is needed, and none is missing
abbrev pub is_right_code : List Entry → (hart : ℕ) → List Instr → Bool
is_right_code p hart code = list_all (λ at. is_content (advice_of p hart code at)) (numbers_below (length code))

abbrev pub is_right : List (List Instr) → List Entry → Bool
is_right codes p = list_all (λ hart. is_right_code p hart (slice_index_or codes hart [])) (numbers_below (length codes))

-- the kind of fence that is advised there: of a FENCE that stays its own, or none
abbrev pub advised_kind : (own : Option Kind) → Advice → Option Kind
advised_kind own Needed = own
advised_kind own Unpriced = own
advised_kind own (Enough kind) = Some kind
advised_kind own (Instead kind) = Some kind
advised_kind own (Missing kind) = Some kind
advised_kind own _ = None
