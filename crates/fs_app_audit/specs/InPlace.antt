-- `audit` in place: what may stand in the places of a test's FENCEs, what is advised there, and what is printed.
use Rattle.std.specs.Prelude.{ℕ, ◌+◌, Bool, if◌then◌else◌, Option, None, Some, List, [], ◌∷◌, ◌++◌, codes, map, length}
use Rattle.std.specs.Fmt.{decimal}
use Rattle.std.specs.List.{enumerate_from, flat_map, list_all, slice_index_or}
use Rattle.fs_instr.specs.declared.instr.Instr.{Instr}
use Rattle.fs_kinds.specs.declared.kind.Kind.{Kind}
use Rattle.fs_kinds.specs.declared.placement.Entry.{Entry}
use Rattle.fs_kinds.specs.declared.slot.Slot.{Slot}
use Rattle.fs_kinds.specs.Kind.{all_kinds, no_stronger}
use Rattle.fs_kinds.specs.Placement.{kind_at}
use Rattle.fs_kinds.specs.PriceTable.{PriceTable, price_of, weight_of}
use Rattle.fs_kinds.specs.PriceTable as anew
use Rattle.fs_model.specs.Numbers.{numbers_below}
use Rattle.fs_model.specs.Printed.{ended}
use Rattle.fs_model.specs.Slots.{slot_at}
use Rattle.fs_model_laws.specs.InPlace.{kind_there, places, written_at}
use Rattle.fs_board_offers.specs.Offers.{Offer, Offers, kind_cost}
use Rattle.fs_app_io.specs.declared.status.Status.{Status}
use Rattle.fs_app_io.specs.declared.status.Status.TheVariants as status
pub use Rattle.fs_app_audit.specs.Prices.{price_above, written_price, price_below, price_in_place, weighed}
use Rattle.fs_app_audit.specs.Standing.{access_after, is_at, is_between_accesses}
use Rattle.fs_app_audit.specs.Advice.{is_content, is_device_fence, slot_of}
use Rattle.fs_app_audit.specs.Report.{advised, line_of}
use Rattle.fs_app_audit.specs.declared.advice.Advice.{Advice}
use Rattle.fs_app_audit.specs.declared.advice.Advice.TheVariants.{Needed, Unpriced, Enough, NotNeeded, Idle, Devices}

-- ---- what may stand in a place, and what it costs

-- the slot whose weight a FENCE has: that of the access at which it stands, or else of the instruction behind it
abbrev pub weighed_by : (hart : ℕ) → List Instr → (at : ℕ) → (access : Option ℕ) → Slot
weighed_by hart code at (Some access) = slot_of hart code access
weighed_by hart code at None = slot_of hart code (at + 1)

abbrev pub weight_there : PriceTable → (hart : ℕ) → List Instr → (at : ℕ) → ℕ
weight_there prices hart code at = weight_of prices (weighed_by hart code at (access_after code at))

abbrev pub weight_in_place : PriceTable → List (List Instr) → Slot → ℕ
weight_in_place prices codes s = weight_there prices s.hart (slice_index_or codes s.hart []) s.at

abbrev pub offer_in_place : PriceTable → List (List Instr) → Slot → Offer
offer_in_place prices codes s = record {
  slot = s;
  costs = map (λ kind. weighed (weight_in_place prices codes s) (price_in_place prices (written_at codes s) kind)) all_kinds;
  written = written_at codes s;
}

abbrev pub offers_in_place : PriceTable → List (List Instr) → Offers
offers_in_place prices codes = map (offer_in_place prices codes) (places codes)

-- what the FENCEs cost as they are written
abbrev pub written_cost : Offers → ℕ
written_cost [] = 0
written_cost (o ∷ offers) = kind_cost o o.written + written_cost offers

-- ---- what is advised of each FENCE

-- of one of this kind that stays
abbrev pub stays : Option ℕ → Advice
stays None = Unpriced
stays (Some price) = Needed

-- of one that goes
abbrev pub goes : (is_between : Bool) → Advice
goes is_between = if is_between then NotNeeded else Idle

-- of one of this kind where the placement has this
abbrev pub advice_by : PriceTable → (is_between : Bool) → (own : Kind) → Option Kind → Advice
advice_by prices is_between own None = goes is_between
advice_by prices is_between own (Some kind) = if no_stronger own kind then stays (price_of prices own) else Enough kind

abbrev pub advice_there : PriceTable → List Entry → (hart : ℕ) → List Instr → (at : ℕ) → (own : Option Kind) → Option Advice
advice_there prices p hart code at None = if is_at is_device_fence code at then Some Devices else None
advice_there prices p hart code at (Some own) =
    Some (advice_by prices (is_between_accesses code at) own (kind_at (slot_at hart at) p))

-- of instruction `at`
abbrev pub advice_in_place : PriceTable → List Entry → (hart : ℕ) → List Instr → (at : ℕ) → Option Advice
advice_in_place prices p hart code at = advice_there prices p hart code at (kind_there code at)

-- ---- what is printed

-- what is said of instruction `at`, mostly nothing
abbrev pub instruction_in_place : PriceTable → List (List ℕ) → List Entry → (hart : ℕ) → List Instr → ℕ × Instr → List ℕ
instruction_in_place prices lines p hart code numbered =
    advised (line_of lines hart numbered.0) hart numbered.0 numbered.1 (advice_in_place prices p hart code numbered.0)

abbrev pub code_in_place : PriceTable → List (List ℕ) → List Entry → ℕ × List Instr → List ℕ
code_in_place prices lines p numbered =
    flat_map (instruction_in_place prices lines p numbered.0 numbered.1) (enumerate_from 0 numbered.1)

abbrev pub lines_in_place : PriceTable → List (List ℕ) → List (List Instr) → List Entry → List ℕ
lines_in_place prices lines codes p = flat_map (code_in_place prices lines p) (enumerate_from 0 codes)

-- what fences cost that are found anew
abbrev pub anew_text : PriceTable → Option (List Entry) → List ℕ
anew_text prices None = codes "no fences rule it out"
anew_text prices (Some p) = codes "anew " ++ decimal (anew.cost prices p)

-- such as `forbidden as written, 16; in place 9; anew 5`
abbrev pub costs_line : (written in_place : ℕ) → (found : List ℕ) → List ℕ
costs_line written in_place found =
    ended (codes "forbidden as written, " ++ (decimal written ++ (codes "; in place " ++ (decimal in_place ++ (codes "; " ++ found)))))

-- such as `vacuous as written, 70; x14 of P1 never ends as 2`
abbrev pub vacuous_line : (written : ℕ) → (why : List ℕ) → List ℕ
vacuous_line written why = ended (codes "vacuous as written, " ++ (decimal written ++ (codes "; " ++ why)))

-- ---- the exit status

-- each FENCE of the hart stays as it is
abbrev pub is_kept_code : PriceTable → List Entry → (hart : ℕ) → List Instr → Bool
is_kept_code prices p hart code =
    list_all (λ at. is_content (advice_in_place prices p hart code at)) (numbers_below (length code))

abbrev pub are_kept : PriceTable → List (List Instr) → List Entry → Bool
are_kept prices codes p =
    list_all (λ hart. is_kept_code prices p hart (slice_index_or codes hart [])) (numbers_below (length codes))

-- 0 where each FENCE stays as it is, else 1
abbrev pub in_place_status : PriceTable → List (List Instr) → List Entry → Status
in_place_status prices codes p = if are_kept prices codes p then status.Success else status.Denied
