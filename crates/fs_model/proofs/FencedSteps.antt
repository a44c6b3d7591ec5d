-- The step of the loop that fences a code, and how long a fenced code is.
use Rattle.std.proofs.Common.{◌≡◌, ℕ, zero, suc, ◌+◌, ◌*◌, ◌<◌, ◌≤◌, List, [], ◌∷◌, ◌++◌, All, length, get_or, take, map, flat_map, Option, None, Some, ap, sym, ◌∙◌, arith, add-zero}
use Rattle.std.specs.List.{enumerate_from}
use Rattle.std.proofs.lemmas.List.{append_assoc, length-append, length-map}
use Rattle.std.proofs.lemmas.List.FromFn.{length-enumerate_from}
use Rattle.fs_instr.specs.declared.instr.Instr.{Instr}
use Rattle.fs_kinds.specs.declared.kind.Kind.{Kind}
use Rattle.fs_kinds.specs.declared.placement.Entry.{Entry}
use Rattle.fs_kinds.specs.Placement.{kind_at}
use Rattle.fs_model.specs.Slots.{slot_at}
use Rattle.fs_model.specs.Fenced.{fences, moved, with_fence, fenced_code, fenced_codes}
use Rattle.fs_model.proofs.Numbered.{numbered_flat}

pub fenced_more : (p : List Entry) (hart : ℕ) (code : List Instr) (at : ℕ) (instr : Instr) (kind : Option Kind) (old mid new : List Instr) → at < length code → instr ≡ get_or code at instr → kind ≡ kind_at (slot_at hart at) p → mid ≡ old ++ fences kind → new ≡ mid ++ moved p hart instr ∷ [] → old ≡ flat_map (with_fence p hart) (take at (enumerate_from 0 code)) → new ≡ flat_map (with_fence p hart) (take (at + 1) (enumerate_from 0 code))
fenced_more p hart code at instr kind old mid new h read there fenced pushed before =
    numbered_flat (with_fence p hart) code at instr old new h read
    (pushed
    ∙ ap (λ is. is ++ moved p hart instr ∷ []) fenced
    ∙ append_assoc old (fences kind) (moved p hart instr ∷ [])
    ∙ ap (λ k. old ++ (fences k ++ moved p hart instr ∷ [])) there)
    before

-- ---- lengths

length-fences : (kind : Option Kind) → length (fences kind) ≤ 1
length-fences None = omega arith
length-fences (Some kind) = omega arith

length-with_fences : (p : List Entry) (hart : ℕ) (numbered : List (ℕ × Instr)) → length (flat_map (with_fence p hart) numbered) ≤ 2 * length numbered
length-with_fences p hart [] = omega arith
length-with_fences p hart (n ∷ ns) =
    let kind = kind_at (slot_at hart n.0) p in
    let one = moved p hart n.1 ∷ [] in
    omega (arith, length-fences kind, length-append (fences kind) one, length-append (with_fence p hart n) (flat_map (with_fence p hart) ns), length-with_fences p hart ns)

pub length-fenced_code : (p : List Entry) (hart : ℕ) (code : List Instr) → length (fenced_code p (hart, code)) ≤ 2 * length code
length-fenced_code p hart code = omega (arith, length-with_fences p hart (enumerate_from 0 code), length-enumerate_from 0 code)

pub length-fenced_codes : (p : List Entry) (codes : List (List Instr)) → length (fenced_codes p codes) ≡ length codes
length-fenced_codes p codes = length-map (enumerate_from 0 codes) (fenced_code p) ∙ length-enumerate_from 0 codes

get_or-fenced_codes : (p : List Entry) (n : ℕ) (codes : List (List Instr)) (k : ℕ) (d : List Instr) → k < length codes → get_or (map (fenced_code p) (enumerate_from n codes)) k d ≡ fenced_code p (n + k, get_or codes k d)
get_or-fenced_codes p n [] k d low = absurd (omega arith)
get_or-fenced_codes p n (c ∷ cs) zero d low = ap (λ m. fenced_code p (m, c)) (sym (add-zero n))
get_or-fenced_codes p n (c ∷ cs) (suc k) d low =
    get_or-fenced_codes p (n + 1) cs k d (omega arith)
    ∙ ap (λ m. fenced_code p (m, get_or cs k d)) (omega arith)

-- a code of at most 32 instructions has at most 64 with its fences
pub short-fenced_codes : (p : List Entry) (codes : List (List Instr)) → All (λ code. length code ≤ 32) codes → All (λ code. length code < 256) (fenced_codes p codes)
short-fenced_codes p codes short k d low =
    let below : k < length codes = omega (arith, length-fenced_codes p codes) in
    let there = get_or-fenced_codes p 0 codes k d below in
    let few = short k d below in
    omega (arith, ap length there, length-fenced_code p (0 + k) (get_or codes k d))
