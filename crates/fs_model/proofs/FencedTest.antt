-- What a test keeps when it is fenced: its branches go forward, its instructions are of the table, its accesses are as
-- many.
use Rattle.std.proofs.Common.{◌≡◌, ℕ, zero, suc, ◌+◌, ◌-◌, ◌*◌, ◌<◌, ◌≤◌, List, [], ◌∷◌, ◌++◌, length, map, cond, Bool, Option, None, Some, refl, ap, sym, ◌∙◌, subst, arith, All}
use Rattle.std.specs.Prelude.{slice_get, is_some, option_and_then, sum_by, count_by}
use Rattle.std.specs.List.{enumerate_from, range_with_len}
use Rattle.std.proofs.lemmas.List.Elements.{All-append}
use Rattle.std.proofs.lemmas.List.FromFn.{length-range_with_len}
use Rattle.std.proofs.lemmas.List.Sums.{length-filter, count_by-le-length, sum_by-cons}
use Rattle.fs_instr.specs.Instructions.{is_memory, target_of}
use Rattle.fs_instr.specs.OfTable.{IsOfTable}
use Rattle.fs_instr.specs.declared.instr.Instr.{Instr}
use Rattle.fs_instr.specs.declared.instr.Instr.TheVariants as instr
use Rattle.fs_kinds.specs.declared.kind.Kind.{Kind}
use Rattle.fs_kinds.specs.declared.kind.Kind.TheVariants.{RR, RW, RRw, WR, WW, WRw, RwR, RwW, RwRw, Tso}
use Rattle.fs_kinds.specs.declared.placement.Entry.{Entry}
use Rattle.fs_kinds.specs.Placement.{kind_at}
use Rattle.fs_model.specs.Slots.{slot_at}
use Rattle.fs_model.specs.Test.{GoesForward}
use Rattle.fs_model.specs.Fenced.{is_filled, position, moved, fences, fence_of, with_fence, fenced_code, fenced_codes}
use Rattle.fs_model.specs.Moved.{place}
use Rattle.fs_model.proofs.FencedPlaces.{bit, count, count_first, count_last, with_fences, place_counts}
use Rattle.fs_model.proofs.MovedSlots.{fence_is_none, moved_memory}

-- ---- counting fences

pub count_most : (f : ℕ → Bool) (n k : ℕ) → count f n k ≤ k
count_most f n k = let all = length-filter f (range_with_len n k) in let most = count_by-le-length f (range_with_len n k) in let long = length-range_with_len n k in omega (arith, all, most, long)

count_split : (f : ℕ → Bool) (n a b : ℕ) → count f n (a + b) ≡ count f n a + count f (n + a) b
count_split f n zero b = let none : n + 0 ≡ n = omega arith in let same = ap (λ m. count f m b) none in let left : 0 + b ≡ b = omega arith in let whole = ap (count f n) left in omega (arith, same, whole)
count_split f n (suc a) b =
    let left : suc a + b ≡ suc (a + b) = omega arith in
    let whole = ap (count f n) left in
    let first = count_first f n (a + b) in
    let front = count_first f n a in
    let rest = count_split f (n + 1) a b in
    let shift : n + 1 + a ≡ n + suc a = omega arith in
    let same = ap (λ m. count f m b) shift in
    omega (arith, whole, first, front, rest, same)

count_rises : (f : ℕ → Bool) (a b : ℕ) → a ≤ b → count f 0 a ≤ count f 0 b
count_rises f a b low =
    let sum : a + (b - a) ≡ b = omega (arith, low) in
    let whole = ap (count f 0) sum in
    let split = count_split f 0 a (b - a) in
    omega (arith, whole, split)

-- ---- branches

module _ (p : List Entry) (hart : ℕ) where
  abbrev filled : ℕ → Bool
  filled = is_filled p hart

  pub ahead : (a b : ℕ) → a < b → place p hart a < position p hart b
  ahead a b low = let here = place_counts p hart a in let more = count_rises filled (suc a) b (omega (arith, low)) in omega (arith, here, more, low)

  pub no_further : (a b : ℕ) → a ≤ b → position p hart a ≤ position p hart b
  no_further a b low = let more = count_rises filled a b low in omega (arith, more, low)

  pub position_most : (a : ℕ) → position p hart a ≤ 2 * a
  position_most a = let most = count_most filled 0 a in omega (arith, most)

  next_position : (n : ℕ) → position p hart (n + 1) ≡ place p hart n + 1
  next_position n = omega arith

  place_filled : (n : ℕ) → place p hart n ≡ position p hart n + bit (filled n)
  place_filled n = let last = count_last filled 0 n n (omega arith) in let here = place_counts p hart n in omega (arith, last, here)

  -- the targets of the code from instruction n on are ahead, and at most `end`
  abbrev Ahead : (n end : ℕ) → List Instr → Type 0
  Ahead n end code = (k target : ℕ) → option_and_then target_of (slice_get code k) ≡ Some target → (n + k < target) × (target ≤ end)

  moved_target : (i : Instr) (target : ℕ) → target_of (moved p hart i) ≡ Some target → (t : ℕ) × (target_of i ≡ Some t) × (target ≡ position p hart t)
  moved_target (instr.Branch o a b t) target e = (t, refl, cc)
  moved_target (instr.Jump t) target e = (t, refl, cc)
  moved_target (instr.Register o rd a b) target e = absurd (cc)
  moved_target (instr.Immediate o rd a z) target e = absurd (cc)
  moved_target (instr.Shift o rd a n) target e = absurd (cc)
  moved_target (instr.Lui rd n) target e = absurd (cc)
  moved_target (instr.Li rd n) target e = absurd (cc)
  moved_target (instr.Lw ann rd a z) target e = absurd (cc)
  moved_target (instr.Sw ann v a z) target e = absurd (cc)
  moved_target (instr.Lr ann rd a) target e = absurd (cc)
  moved_target (instr.Sc ann rd v a) target e = absurd (cc)
  moved_target (instr.Amo o ann rd v a) target e = absurd (cc)
  moved_target (instr.Fence b a) target e = absurd (cc)
  moved_target instr.FenceTso target e = absurd (cc)
  moved_target instr.FenceI target e = absurd (cc)

  fence_goes_nowhere : (kind : Kind) (target : ℕ) → ¬ (target_of (fence_of kind) ≡ Some target)
  fence_goes_nowhere RR target e = cc
  fence_goes_nowhere RW target e = cc
  fence_goes_nowhere RRw target e = cc
  fence_goes_nowhere WR target e = cc
  fence_goes_nowhere WW target e = cc
  fence_goes_nowhere WRw target e = cc
  fence_goes_nowhere RwR target e = cc
  fence_goes_nowhere RwW target e = cc
  fence_goes_nowhere RwRw target e = cc
  fence_goes_nowhere Tso target e = cc

  one_ahead : (n end : ℕ) (x : Instr) (xs : List Instr) (target : ℕ) → Ahead n end (x ∷ xs) → target_of (moved p hart x) ≡ Some target → (place p hart n < target) × (target ≤ position p hart end)
  one_ahead n end x xs target h e =
      let found = moved_target x target e in
      let low = h 0 found.0 found.1 in
      let there = found.2 in
      let first = ahead n found.0 (let l = low.0 in omega (arith, l)) in
      let last = no_further found.0 end low.1 in
      (omega (arith, first, there), omega (arith, last, there))

  both_ahead : (o : Option Kind) (n end : ℕ) (x : Instr) (xs rest : List Instr) (from : ℕ) → Ahead n end (x ∷ xs) → from + bit (is_some o) ≡ place p hart n → Ahead (place p hart n + 1) (position p hart end) rest → Ahead from (position p hart end) ((fences o ++ moved p hart x ∷ []) ++ rest)
  both_ahead None n end x xs rest from h at later zero target e = let one = one_ahead n end x xs target h e in let low = one.0 in (omega (arith, low, at), one.1)
  both_ahead None n end x xs rest from h at later (suc k) target e = let one = later k target e in let low = one.0 in (omega (arith, low, at), one.1)
  both_ahead (Some f) n end x xs rest from h at later zero target e = absurd (fence_goes_nowhere f target e)
  both_ahead (Some f) n end x xs rest from h at later (suc zero) target e = let one = one_ahead n end x xs target h e in let low = one.0 in (omega (arith, low, at), one.1)
  both_ahead (Some f) n end x xs rest from h at later (suc (suc k)) target e = let one = later k target e in let low = one.0 in (omega (arith, low, at), one.1)

  rest_ahead : (n end : ℕ) (x : Instr) (xs : List Instr) → Ahead n end (x ∷ xs) → Ahead (n + 1) end xs
  rest_ahead n end x xs h k target e = let one = h (suc k) target e in let low = one.0 in (omega (arith, low), one.1)

  nothing_ahead : (n end : ℕ) → Ahead n end []
  nothing_ahead n end k target e = absurd (cc)

  fences_ahead : (n end : ℕ) (code : List Instr) → Ahead n end code → Ahead (position p hart n) (position p hart end) (with_fences p hart n code)
  fences_ahead n end [] h = nothing_ahead (position p hart n) (position p hart end)
  fences_ahead n end (x ∷ xs) h =
      let rest = fences_ahead (n + 1) end xs (rest_ahead n end x xs h) in
      both_ahead (kind_at (slot_at hart n) p) n end x xs (with_fences p hart (n + 1) xs) (position p hart n) h (sym (place_filled n)) (subst (λ m. Ahead m (position p hart end) (with_fences p hart (n + 1) xs)) (next_position n) rest)

  pub forward_fenced : (code : List Instr) → length (fenced_code p (hart, code)) ≡ position p hart (length code) → GoesForward code → GoesForward (fenced_code p (hart, code))
  forward_fenced code long h at target e =
      let ahead_of : Ahead 0 (length code) code = λ k t f. (let one = h k t f in let low = one.0 in (omega (arith, low), one.1)) in
      let one = fences_ahead 0 (length code) code ahead_of at target e in
      let low = one.0 in
      let most = one.1 in
      (omega (arith, low), omega (arith, most, long))

  -- ---- the table

  fence_of_table : (kind : Kind) → IsOfTable (fence_of kind)
  fence_of_table RR = (refl, refl)
  fence_of_table RW = (refl, refl)
  fence_of_table RRw = (refl, refl)
  fence_of_table WR = (refl, refl)
  fence_of_table WW = (refl, refl)
  fence_of_table WRw = (refl, refl)
  fence_of_table RwR = (refl, refl)
  fence_of_table RwW = (refl, refl)
  fence_of_table RwRw = (refl, refl)
  fence_of_table Tso = tt

  moved_of_table : (i : Instr) → IsOfTable i → ((t : ℕ) → target_of i ≡ Some t → position p hart t < 256) → IsOfTable (moved p hart i)
  moved_of_table (instr.Branch o a b t) h low = (h.0, h.1, low t refl)
  moved_of_table (instr.Jump t) h low = low t refl
  moved_of_table (instr.Register o rd a b) h low = h
  moved_of_table (instr.Immediate o rd a z) h low = h
  moved_of_table (instr.Shift o rd a n) h low = h
  moved_of_table (instr.Lui rd n) h low = h
  moved_of_table (instr.Li rd n) h low = h
  moved_of_table (instr.Lw ann rd a z) h low = h
  moved_of_table (instr.Sw ann v a z) h low = h
  moved_of_table (instr.Lr ann rd a) h low = h
  moved_of_table (instr.Sc ann rd v a) h low = h
  moved_of_table (instr.Amo o ann rd v a) h low = h
  moved_of_table (instr.Fence b a) h low = h
  moved_of_table instr.FenceTso h low = h
  moved_of_table instr.FenceI h low = h

  one_of_table : (i : Instr) → IsOfTable i → All IsOfTable (i ∷ [])
  one_of_table i h zero d low = h
  one_of_table i h (suc k) d low = absurd (omega (arith, low))

  none_of_table : All IsOfTable []
  none_of_table k d low = absurd (omega (arith, low))

  fences_of_table : (o : Option Kind) → All IsOfTable (fences o)
  fences_of_table None = none_of_table
  fences_of_table (Some kind) = one_of_table (fence_of kind) (fence_of_table kind)

  table_from : (n end : ℕ) (code : List Instr) → end ≤ 32 → Ahead n end code → All IsOfTable code → All IsOfTable (with_fences p hart n code)
  table_from n end [] few h all = none_of_table
  table_from n end (x ∷ xs) few h all =
      let short : (t : ℕ) → target_of x ≡ Some t → position p hart t < 256 = λ t e. (let one = h 0 t e in let low = one.1 in let most = position_most t in omega (arith, low, most, few)) in
      let first : IsOfTable x = all 0 x (omega arith) in
      let rest : All IsOfTable xs = λ k d low. all (suc k) d (omega (arith, low)) in
      let here = All-append IsOfTable (fences (kind_at (slot_at hart n) p)) (moved p hart x ∷ []) (fences_of_table (kind_at (slot_at hart n) p)) (one_of_table (moved p hart x) (moved_of_table x first short)) in
      All-append IsOfTable (with_fence p hart (n, x)) (with_fences p hart (n + 1) xs) here (table_from (n + 1) end xs few (rest_ahead n end x xs h) rest)

  pub table_fenced : (code : List Instr) → length code ≤ 32 → GoesForward code → All IsOfTable code → All IsOfTable (fenced_code p (hart, code))
  table_fenced code few h all =
      let ahead_of : Ahead 0 (length code) code = λ k t f. (let one = h k t f in let low = one.0 in (omega (arith, low), one.1)) in
      table_from 0 (length code) code few ahead_of all

  -- ---- accesses

  both_accesses : (o : Option Kind) (x : Instr) (rest : List Instr) → count_by is_memory ((fences o ++ moved p hart x ∷ []) ++ rest) ≡ count_by is_memory (x ∷ rest)
  both_accesses None x rest = rw (moved_memory p hart x) refl
  both_accesses (Some kind) x rest = rw (fence_is_none kind, moved_memory p hart x) refl

  abbrev bit_of : Instr → ℕ
  bit_of i = cond (is_memory i) 1 0

  more_accesses : (x : Instr) (xs ys : List Instr) → count_by is_memory xs ≡ count_by is_memory ys → count_by is_memory (x ∷ xs) ≡ count_by is_memory (x ∷ ys)
  more_accesses x xs ys e = sum_by-cons bit_of x xs ∙ ap (λ m. bit_of x + m) e ∙ sym (sum_by-cons bit_of x ys)

  accesses_from : (n : ℕ) (code : List Instr) → count_by is_memory (with_fences p hart n code) ≡ count_by is_memory code
  accesses_from n [] = refl
  accesses_from n (x ∷ xs) =
      let rest = accesses_from (n + 1) xs in
      both_accesses (kind_at (slot_at hart n) p) x (with_fences p hart (n + 1) xs) ∙ more_accesses x (with_fences p hart (n + 1) xs) xs rest

  pub accesses_fenced : (code : List Instr) → count_by is_memory (fenced_code p (hart, code)) ≡ count_by is_memory code
  accesses_fenced code = accesses_from 0 code

-- ---- all harts

all_accesses : (p : List Entry) (n : ℕ) (codes : List (List Instr)) → sum_by (count_by is_memory) (map (fenced_code p) (enumerate_from n codes)) ≡ sum_by (count_by is_memory) codes
all_accesses p n [] = refl
all_accesses p n (c ∷ cs) = let here = accesses_fenced p n c in let rest = all_accesses p (n + 1) cs in let grown = sum_by-cons (count_by is_memory) (fenced_code p (n, c)) (map (fenced_code p) (enumerate_from (n + 1) cs)) in let was = sum_by-cons (count_by is_memory) c cs in omega (arith, here, rest, grown, was)

pub accesses_kept : (p : List Entry) (codes : List (List Instr)) → sum_by (count_by is_memory) (fenced_codes p codes) ≡ sum_by (count_by is_memory) codes
accesses_kept p codes = all_accesses p 0 codes

-- what holds of each fenced code holds of all
all_fenced : (P Q : List Instr → Type 0) (p : List Entry) (n : ℕ) (codes : List (List Instr)) → ((hart : ℕ) (code : List Instr) → P code → Q (fenced_code p (hart, code))) → All P codes → All Q (map (fenced_code p) (enumerate_from n codes))
all_fenced P Q p n [] each all k d low = absurd (omega (arith, low))
all_fenced P Q p n (c ∷ cs) each all zero d low = each n c (all 0 c (omega arith))
all_fenced P Q p n (c ∷ cs) each all (suc k) d low = all_fenced P Q p (n + 1) cs each (λ j e less. all (suc j) e (omega (arith, less))) k d (omega (arith, low))

pub each_fenced : (P Q : List Instr → Type 0) (p : List Entry) (codes : List (List Instr)) → ((hart : ℕ) (code : List Instr) → P code → Q (fenced_code p (hart, code))) → All P codes → All Q (fenced_codes p codes)
each_fenced P Q p codes each all = all_fenced P Q p 0 codes each all
