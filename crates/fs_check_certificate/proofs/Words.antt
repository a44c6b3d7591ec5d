-- The words of fences say their slots and kinds, and the slots of a test have small numbers.
use Rattle.std.proofs.Common.{◌≡◌, ℕ, zero, suc, ◌+◌, ◌<◌, ◌≤◌, Bool, true, false, Some, List, [], ◌∷◌, ◌++◌, map, filter, flat_map, length, sym, ◌∙◌, ap, arith, append_assoc, cond}
use Rattle.std.specs.List.{AllByRecursion, enumerate_from, range_with_len, slice_index_or}
use Rattle.std.proofs.lemmas.List.Elements.{All-get_or}
use Rattle.fs_instr.specs.declared.instr.Instr.{Instr}
use Rattle.fs_kinds.specs.declared.kind.Kind.{Kind}
use Rattle.fs_kinds.specs.declared.slot.Slot.{Slot}
use Rattle.fs_kinds.specs.Kind.{word, kind_of}
use Rattle.fs_kinds.specs.Slot.{IsSlot, fence_word, slot_name}
use Rattle.fs_kinds.proofs.Names.{cut-same, not_in_name, kind_of-word, slot_name-injective}
use Rattle.fs_model.specs.declared.test.Test.{Test}
use Rattle.fs_model.specs.Slots.{slot_at, slots_in, is_slot, slots}
use Rattle.fs_model.specs.Test.{IsBounded}

same_kind : (k l : Kind) → word k ≡ word l → k ≡ l
same_kind k l e =
    let same : Some k ≡ Some l = sym (kind_of-word k) ∙ ap kind_of e ∙ kind_of-word l in
    cc

pub same_fence : (s u : Slot) (k l : Kind) → IsSlot s → IsSlot u → fence_word s k ≡ fence_word u l → (s ≡ u) × (k ≡ l)
same_fence s u k l is-s is-u e =
    let whole : slot_name s ++ (61 ∷ word k) ≡ slot_name u ++ (61 ∷ word l) =
    sym (append_assoc (slot_name s) (61 ∷ []) (word k)) ∙ e ∙ append_assoc (slot_name u) (61 ∷ []) (word l) in
    let parts = cut-same 61 (slot_name s) (slot_name u) (word k) (word l) (not_in_name 61 s is-s (omega arith) (omega arith)) (not_in_name 61 u is-u (omega arith) (omega arith)) whole in
    (slot_name-injective s u is-s is-u parts.0, same_kind k l parts.1)

-- ---- slots have small numbers

all_append : (P : Slot → Type 0) (xs ys : List Slot) → AllByRecursion P xs → AllByRecursion P ys → AllByRecursion P (xs ++ ys)
all_append P [] ys a b = b
all_append P (x ∷ xs) ys a b = (a.0, all_append P xs ys a.1 b)

picked : (hart a : ℕ) (ks : List ℕ) (b : Bool) → IsSlot (slot_at hart a) → AllByRecursion IsSlot (map (slot_at hart) ks) → AllByRecursion IsSlot (map (slot_at hart) (cond b (a ∷ ks) ks))
picked hart a ks true here rest = (here, rest)
picked hart a ks false here rest = rest

in_hart : (hart : ℕ) (test : ℕ → Bool) (a n : ℕ) → hart < 256 → a + n ≤ 256 → AllByRecursion IsSlot (map (slot_at hart) (filter test (range_with_len a n)))
in_hart hart test a zero low few = tt
in_hart hart test a (suc n) low few =
    picked hart a (filter test (range_with_len (a + 1) n)) (test a) (low, omega (arith, few)) (in_hart hart test (a + 1) n low (omega (arith, few)))

in_codes : (hart : ℕ) (codes : List (List Instr)) → hart + length codes ≤ 256 → ((k : ℕ) → k < length codes → length (slice_index_or codes k []) ≤ 32)
    → AllByRecursion IsSlot (flat_map (λ numbered. slots_in numbered.0 numbered.1) (enumerate_from hart codes))
in_codes hart [] few each = tt
in_codes hart (code ∷ codes) few each =
    all_append IsSlot (slots_in hart code) _
    (in_hart hart (is_slot code) 0 (length code) (omega (arith, few)) (let long = each 0 (omega arith) in omega (arith, long)))
    (in_codes (hart + 1) codes (omega (arith, few)) (λ k low. each (suc k) (omega (arith, low))))

pub small_slots : (t : Test) → IsBounded t → AllByRecursion IsSlot (slots t)
small_slots t bounded =
    in_codes 0 t.codes (omega (arith, bounded.harts)) (λ k low. All-get_or (λ code. length code ≤ 32) t.codes k [] low bounded.lengths)
