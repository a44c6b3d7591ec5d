-- The slots of the fenced test.
use Rattle.std.proofs.Common.{◌≡◌, ℕ, ◌+◌, List, [], ◌∷◌, ◌++◌, length, map, filter, cond, Bool, true, false, Option, None, Some, flat_map, refl, ap, sym, ◌∙◌, arith, ◌&&◌, ◌||◌, take, append_assoc}
use Rattle.std.specs.Prelude.{slice_get, is_some}
use Rattle.std.specs.List.{enumerate_from, range_with_len, list_any}
use Rattle.std.proofs.lemmas.List.{length-append, map-append}
use Rattle.fs_instr.specs.Instructions.{is_memory}
use Rattle.fs_instr.specs.declared.instr.Instr.{Instr}
use Rattle.fs_instr.specs.declared.instr.Instr.TheVariants as instr
use Rattle.fs_kinds.specs.declared.kind.Kind.{Kind}
use Rattle.fs_kinds.specs.declared.kind.Kind.TheVariants.{RR, RW, RRw, WR, WW, WRw, RwR, RwW, RwRw, Tso}
use Rattle.fs_kinds.specs.declared.placement.Entry.{Entry}
use Rattle.fs_kinds.specs.declared.slot.Slot.{Slot}
use Rattle.fs_kinds.specs.Placement.{kind_at}
use Rattle.fs_model.specs.Slots.{slot_at, slots, slots_in, is_slot}
use Rattle.fs_model.specs.Fenced.{is_filled, position, moved, fences, fence_of, fenced_code, fenced}
use Rattle.fs_model.specs.Moved.{place, moved_slot}
use Rattle.fs_model.specs.declared.test.Test.{Test}
use Rattle.fs_model.proofs.FencedPlaces.{bit, count_last, with_fences, place_counts}

-- ---- the positions of slots by going through the code once: seen says that a memory instruction came before

abbrev slots_from : Bool → ℕ → List Instr → List ℕ
slots_from seen n [] = []
slots_from seen n (x ∷ xs) = cond (is_memory x && seen) (n ∷ slots_from (seen || is_memory x) (n + 1) xs) (slots_from (seen || is_memory x) (n + 1) xs)

get_past : (front : List Instr) (x : Instr) (xs : List Instr) → slice_get (front ++ x ∷ xs) (length front) ≡ Some x
get_past [] x xs = refl
get_past (f ∷ fs) x xs = get_past fs x xs

take_past : (front rest : List Instr) → take (length front) (front ++ rest) ≡ front
take_past [] [] = refl
take_past [] (x ∷ xs) = refl
take_past (f ∷ fs) rest = ap (λ ys. f ∷ ys) (take_past fs rest)

slot_past : (front : List Instr) (x : Instr) (xs : List Instr) → is_slot (front ++ x ∷ xs) (length front) ≡ (is_memory x && list_any is_memory front)
slot_past front x xs = rw (get_past front x xs, take_past front (x ∷ xs)) refl

any_last : (front : List Instr) (x : Instr) → list_any is_memory (front ++ x ∷ []) ≡ (list_any is_memory front || is_memory x)
any_last [] x = grind arith
any_last (f ∷ fs) x = let rest = any_last fs x in grind arith

slots_through : (front code whole : List Instr) (n : ℕ) → whole ≡ front ++ code → n ≡ length front → filter (is_slot whole) (range_with_len n (length code)) ≡ slots_from (list_any is_memory front) n code
slots_through front [] whole n split at = refl
slots_through front (x ∷ xs) whole n split at =
    let longer = front ++ x ∷ [] in
    let regrouped : whole ≡ longer ++ xs = split ∙ sym (append_assoc front (x ∷ []) xs) in
    let next : n + 1 ≡ length longer = omega (arith, at, length-append front (x ∷ [])) in
    let rest = slots_through longer xs whole (n + 1) regrouped next in
    let here : is_slot whole n ≡ (is_memory x && list_any is_memory front) = ap (λ w. is_slot w n) split ∙ ap (is_slot (front ++ x ∷ xs)) at ∙ slot_past front x xs in
    let seen = any_last front x in
    rw (here, rest, seen) refl

pub slots_once : (code : List Instr) → filter (is_slot code) (range_with_len 0 (length code)) ≡ slots_from false 0 code
slots_once code = slots_through [] code code 0 refl refl

-- ---- fences are no memory instructions, and moving keeps what is one

pub fence_is_none : (k : Kind) → is_memory (fence_of k) ≡ false
fence_is_none RR = refl
fence_is_none RW = refl
fence_is_none RRw = refl
fence_is_none WR = refl
fence_is_none WW = refl
fence_is_none WRw = refl
fence_is_none RwR = refl
fence_is_none RwW = refl
fence_is_none RwRw = refl
fence_is_none Tso = refl

pub moved_memory : (p : List Entry) (hart : ℕ) (i : Instr) → is_memory (moved p hart i) ≡ is_memory i
moved_memory p hart (instr.Branch o a b t) = refl
moved_memory p hart (instr.Jump t) = refl
moved_memory p hart (instr.Register o rd a b) = refl
moved_memory p hart (instr.Immediate o rd a z) = refl
moved_memory p hart (instr.Shift o rd a n) = refl
moved_memory p hart (instr.Lui rd n) = refl
moved_memory p hart (instr.Li rd n) = refl
moved_memory p hart (instr.Lw ann rd a z) = refl
moved_memory p hart (instr.Sw ann v a z) = refl
moved_memory p hart (instr.Lr ann rd a) = refl
moved_memory p hart (instr.Sc ann rd v a) = refl
moved_memory p hart (instr.Amo o ann rd v a) = refl
moved_memory p hart (instr.Fence b a) = refl
moved_memory p hart instr.FenceTso = refl
moved_memory p hart instr.FenceI = refl

or_false : (b : Bool) → (b || false) ≡ b
or_false true = refl
or_false false = refl

-- one instruction with its fence, after which the fenced code goes on at number `next`
both_from : (p : List Entry) (hart : ℕ) (o : Option Kind) (x : Instr) (rest : List Instr) (seen : Bool) (from at next : ℕ) → at ≡ from + bit (is_some o) → next ≡ at + 1 → slots_from seen from ((fences o ++ moved p hart x ∷ []) ++ rest) ≡ cond (is_memory x && seen) (at ∷ slots_from (seen || is_memory x) next rest) (slots_from (seen || is_memory x) next rest)
both_from p hart None x rest seen from at next here there =
    let same : from ≡ at = omega (arith, here) in
    rw (moved_memory p hart x, same, there) refl
both_from p hart (Some k) x rest seen from at next here there =
    let same : from + 1 ≡ at = omega (arith, here) in
    rw (fence_is_none k, or_false seen, moved_memory p hart x, same, there) refl

module _ (p : List Entry) (hart : ℕ) where
  abbrev filled : ℕ → Bool
  filled = is_filled p hart

  map_cond : (b : Bool) (n : ℕ) (xs : List ℕ) → cond b (place p hart n ∷ map (place p hart) xs) (map (place p hart) xs) ≡ map (place p hart) (cond b (n ∷ xs) xs)
  map_cond true n xs = refl
  map_cond false n xs = refl

  places_from : (seen : Bool) (n : ℕ) (code : List Instr) → slots_from seen (position p hart n) (with_fences p hart n code) ≡ map (place p hart) (slots_from seen n code)
  places_from seen n [] = refl
  places_from seen n (x ∷ xs) =
      let last = count_last filled 0 n n (omega arith) in
      let here = place_counts p hart n in
      let at : place p hart n ≡ position p hart n + bit (filled n) = omega (arith, last, here) in
      let next : position p hart (n + 1) ≡ place p hart n + 1 = omega arith in
      let rest = places_from (seen || is_memory x) (n + 1) xs in
      both_from p hart (kind_at (slot_at hart n) p) x (with_fences p hart (n + 1) xs) seen (position p hart n) (place p hart n) (position p hart (n + 1)) at next
      ∙ ap (λ ys. cond (is_memory x && seen) (place p hart n ∷ ys) ys) rest
      ∙ map_cond (is_memory x && seen) n (slots_from (seen || is_memory x) (n + 1) xs)

  map_slots : (xs : List ℕ) → map (slot_at hart) (map (place p hart) xs) ≡ map (moved_slot p) (map (slot_at hart) xs)
  map_slots [] = refl
  map_slots (x ∷ xs) = ap (λ ys. slot_at hart (place p hart x) ∷ ys) (map_slots xs)

  slots_in_move : (code : List Instr) → slots_in hart (fenced_code p (hart, code)) ≡ map (moved_slot p) (slots_in hart code)
  slots_in_move code =
      ap (map (slot_at hart)) (slots_once (fenced_code p (hart, code)) ∙ places_from false 0 code ∙ ap (map (place p hart)) (sym (slots_once code)))
      ∙ map_slots (filter (is_slot code) (range_with_len 0 (length code)))

abbrev of_hart : ℕ × List Instr → List Slot
of_hart numbered = slots_in numbered.0 numbered.1

slots_from_move : (p : List Entry) (n : ℕ) (codes : List (List Instr)) → flat_map of_hart (enumerate_from n (map (fenced_code p) (enumerate_from n codes))) ≡ map (moved_slot p) (flat_map of_hart (enumerate_from n codes))
slots_from_move p n [] = refl
slots_from_move p n (c ∷ cs) =
    let here = slots_in_move p n c in
    let rest = slots_from_move p (n + 1) cs in
    rw (here, rest) (sym (map-append (moved_slot p) (slots_in n c) (flat_map of_hart (enumerate_from (n + 1) cs))))

pub slots_move : (t : Test) (p : List Entry) → slots (fenced t p) ≡ map (moved_slot p) (slots t)
slots_move t p = slots_from_move p 0 t.codes
