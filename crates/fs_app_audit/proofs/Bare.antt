-- What a test keeps without its FENCEs, and where those that name devices order no memory: its branches go forward, and
-- it has the same accesses.
use Rattle.std.proofs.Common.{◌≡◌, ℕ, zero, suc, ◌+◌, ◌-◌, ◌<◌, ◌≤◌, List, [], ◌∷◌, length, map, filter, take, drop, cond, Bool, true, false, ◌&&◌, if◌then◌else◌, Some, refl, ap, sym, ◌∙◌, subst, arith, All}
use Rattle.std.specs.Prelude.{slice_get, option_and_then, sum_by, count_by}
use Rattle.std.proofs.Math.ListN.{length-take}
use Rattle.std.proofs.lemmas.List.{length-map, take_all}
use Rattle.std.proofs.lemmas.List.Sums.{length-filter, count_by-le-length, sum_by-cons}
use Rattle.fs_instr.specs.Instructions.{is_memory, target_of}
use Rattle.fs_instr.specs.OfTable.{IsOfTable}
use Rattle.fs_instr.specs.declared.instr.Instr.{Instr}
use Rattle.fs_instr.specs.declared.instr.Instr.TheVariants as instr
use Rattle.fs_instr.specs.declared.letters.Letters.{Letters}
use Rattle.fs_model.specs.declared.test.Test.{Test}
use Rattle.fs_model.specs.Condition.{SpeaksOf, condition_of}
use Rattle.fs_model.specs.Test.{GoesForward, IsBounded, IsTest}
use Rattle.fs_model_laws.specs.InPlace.{emptied, emptied_instr}
use Rattle.fs_model_laws.proofs.Emptying.{same_of_emptied}
use Rattle.fs_app_audit.specs.Unfenced.{is_fence, names_devices, is_kept, position, moved, unfenced_code, unfenced, devices, eased_instr, eased}

-- ---- counting what is kept

abbrev bit : Instr → ℕ
bit i = cond (is_kept i) 1 0

abbrev kept : List Instr → ℕ
kept = count_by is_kept

kept_cons : (x : Instr) (xs : List Instr) → kept (x ∷ xs) ≡ bit x + kept xs
kept_cons x xs = sum_by-cons bit x xs

none_kept : (n : ℕ) → kept (take n []) ≡ 0
none_kept zero = refl
none_kept (suc n) = refl

kept_split : (code : List Instr) (a b : ℕ) → kept (take (a + b) code) ≡ kept (take a code) + kept (take b (drop a code))
kept_split code zero b = let same : 0 + b ≡ b = omega arith in let whole = ap (λ n. kept (take n code)) same in omega (arith, whole)
kept_split [] (suc a) b =
    let whole = none_kept (suc a + b) in
    let front : kept (take (suc a) []) ≡ 0 = refl in
    let rest : kept (take b (drop (suc a) [])) ≡ 0 = none_kept b in
    omega (arith, whole, front, rest)
kept_split (x ∷ code) (suc a) b =
    let same : suc a + b ≡ suc (a + b) = omega arith in
    let whole = ap (λ n. kept (take n (x ∷ code))) same in
    let one = kept_cons x (take (a + b) code) in
    let front = kept_cons x (take a code) in
    let rest = kept_split code a b in
    omega (arith, whole, one, front, rest)

rises : (code : List Instr) (a b : ℕ) → a ≤ b → position code a ≤ position code b
rises code a b low =
    let sum : a + (b - a) ≡ b = omega (arith, low) in
    let whole = ap (position code) sum in
    let split = kept_split code a (b - a) in
    omega (arith, whole, split)

one_kept : (x : Instr) (xs : List Instr) → kept (take 1 (x ∷ xs)) ≡ bit x
one_kept x xs = let one = kept_cons x [] in omega (arith, one)

next_position : (code : List Instr) (n : ℕ) (x : Instr) (xs : List Instr) → drop n code ≡ x ∷ xs → position code (n + 1) ≡ position code n + bit x
next_position code n x xs rest =
    let split = kept_split code n 1 in
    let here = ap (λ ys. kept (take 1 ys)) rest in
    let one = one_kept x xs in
    omega (arith, split, here, one)

drop_suc : {A : Type 0} (code : List A) (n : ℕ) (x : A) (xs : List A) → drop n code ≡ x ∷ xs → drop (suc n) code ≡ xs
drop_suc [] zero x xs e = absurd (cc)
drop_suc [] (suc n) x xs e = absurd (cc)
drop_suc (y ∷ ys) zero x xs e = cc
drop_suc (y ∷ ys) (suc n) x xs e = drop_suc ys n x xs e

drop_next : {A : Type 0} (code : List A) (n : ℕ) (x : A) (xs : List A) → drop n code ≡ x ∷ xs → drop (n + 1) code ≡ xs
drop_next code n x xs e = let same : suc n ≡ n + 1 = omega arith in subst (λ m. drop m code ≡ xs) same (drop_suc code n x xs e)

-- ---- branches

module _ (code : List Instr) where
  moved_target : (i : Instr) (target : ℕ) → target_of (moved code i) ≡ Some target → (t : ℕ) × (target_of i ≡ Some t) × (target ≡ position code t)
  moved_target (instr.Branch o a b t) target e = (t, refl, cc)
  moved_target (instr.Jump t) target e = (t, refl, cc)
  moved_target (instr.Register o rd a b) target e = absurd (cc)
  moved_target (instr.Immediate o rd a z) target e = absurd (cc)
  moved_target (instr.Shift o rd a n) target e = absurd (cc)
  moved_target (instr.Lui rd n) target e = absurd (cc)
  moved_target (instr.Li rd n) target e = absurd (cc)
  moved_target (instr.Lw ann rd a z) target e = absurd (cc)
  moved_target (instr.Sw ann v a z) target e = absurd (cc)
  moved_target (instr.Lr ann rd a) target e = absurd (cc)
  moved_target (instr.Sc ann rd v a) target e = absurd (cc)
  moved_target (instr.Amo o ann rd v a) target e = absurd (cc)
  moved_target (instr.Fence b a) target e = absurd (cc)
  moved_target instr.FenceTso target e = absurd (cc)
  moved_target instr.FenceI target e = absurd (cc)

  -- the targets of the code from instruction n on are ahead, and at most `end`
  abbrev Ahead : (n end : ℕ) → List Instr → Type 0
  Ahead n end xs = (k target : ℕ) → option_and_then target_of (slice_get xs k) ≡ Some target → (n + k < target) × (target ≤ end)

  rest_ahead : (n end : ℕ) (x : Instr) (xs : List Instr) → Ahead n end (x ∷ xs) → Ahead (n + 1) end xs
  rest_ahead n end x xs h k target e = let one = h (suc k) target e in let low = one.0 in (omega (arith, low), one.1)

  nothing_ahead : (n end : ℕ) → Ahead n end []
  nothing_ahead n end k target e = absurd (cc)

  one_ahead : (n end : ℕ) (x : Instr) (xs : List Instr) (target : ℕ) → drop n code ≡ x ∷ xs → is_kept x ≡ true → Ahead n end (x ∷ xs)
      → target_of (moved code x) ≡ Some target → (position code n < target) × (target ≤ position code end)
  one_ahead n end x xs target rest here h e =
      let found = moved_target x target e in
      let low = h 0 found.0 found.1 in
      let there = found.2 in
      let next = next_position code n x xs rest in
      let whole : bit x ≡ 1 = ap (λ b. cond b 1 0) here in
      let first = rises code (n + 1) found.0 (let l = low.0 in omega (arith, l)) in
      let last = rises code found.0 end low.1 in
      (omega (arith, next, whole, first, there), omega (arith, last, there))

  with_one : (n end : ℕ) (x : Instr) (xs ys : List Instr) → drop n code ≡ x ∷ xs → is_kept x ≡ true → Ahead n end (x ∷ xs)
      → Ahead (position code (n + 1)) (position code end) ys → Ahead (position code n) (position code end) (moved code x ∷ ys)
  with_one n end x xs ys rest here h later zero target e =
      let one = one_ahead n end x xs target rest here h e in let low = one.0 in (omega (arith, low), one.1)
  with_one n end x xs ys rest here h later (suc k) target e =
      let one = later k target e in
      let low = one.0 in
      let next = next_position code n x xs rest in
      let whole : bit x ≡ 1 = ap (λ b. cond b 1 0) here in
      (omega (arith, low, next, whole), one.1)

  without_one : (n end : ℕ) (x : Instr) (xs ys : List Instr) → drop n code ≡ x ∷ xs → is_kept x ≡ false
      → Ahead (position code (n + 1)) (position code end) ys → Ahead (position code n) (position code end) ys
  without_one n end x xs ys rest here later =
      let next = next_position code n x xs rest in
      let none : bit x ≡ 0 = ap (λ b. cond b 1 0) here in
      subst (λ m. Ahead m (position code end) ys) (omega (arith, next, none)) later

  -- what is left of the code, moved
  abbrev rest_of : List Instr → List Instr
  rest_of xs = map (moved code) (filter is_kept xs)

  one_or_none : (n end : ℕ) (x : Instr) (xs : List Instr) (b : Bool) → drop n code ≡ x ∷ xs → is_kept x ≡ b → Ahead n end (x ∷ xs)
      → Ahead (position code (n + 1)) (position code end) (rest_of xs)
      → Ahead (position code n) (position code end) (map (moved code) (cond b (x ∷ filter is_kept xs) (filter is_kept xs)))
  one_or_none n end x xs true rest here h later = with_one n end x xs (rest_of xs) rest here h later
  one_or_none n end x xs false rest here h later = without_one n end x xs (rest_of xs) rest here later

  all_ahead : (n end : ℕ) (xs : List Instr) → drop n code ≡ xs → Ahead n end xs → Ahead (position code n) (position code end) (rest_of xs)
  all_ahead n end [] rest h = nothing_ahead (position code n) (position code end)
  all_ahead n end (x ∷ xs) rest h =
      one_or_none n end x xs (is_kept x) rest refl h (all_ahead (n + 1) end xs (drop_next code n x xs rest) (rest_ahead n end x xs h))

  length_kept : length (unfenced_code code) ≡ position code (length code)
  length_kept =
      length-map (filter is_kept code) (moved code)
      ∙ length-filter is_kept code
      ∙ ap kept (sym (take_all (length code) code (omega arith)))

  pub forward_unfenced : GoesForward code → GoesForward (unfenced_code code)
  forward_unfenced h at target e =
      let ahead : Ahead 0 (length code) code = λ k t f. (let one = h k t f in let low = one.0 in (omega (arith, low), one.1)) in
      let one = all_ahead 0 (length code) code refl ahead at target e in
      let low = one.0 in
      let most = one.1 in
      let long = length_kept in
      (omega (arith, low), omega (arith, most, long))

  -- ---- accesses

  moved_memory : (i : Instr) → is_memory (moved code i) ≡ is_memory i
  moved_memory (instr.Branch o a b t) = refl
  moved_memory (instr.Jump t) = refl
  moved_memory (instr.Register o rd a b) = refl
  moved_memory (instr.Immediate o rd a z) = refl
  moved_memory (instr.Shift o rd a n) = refl
  moved_memory (instr.Lui rd n) = refl
  moved_memory (instr.Li rd n) = refl
  moved_memory (instr.Lw ann rd a z) = refl
  moved_memory (instr.Sw ann v a z) = refl
  moved_memory (instr.Lr ann rd a) = refl
  moved_memory (instr.Sc ann rd v a) = refl
  moved_memory (instr.Amo o ann rd v a) = refl
  moved_memory (instr.Fence b a) = refl
  moved_memory instr.FenceTso = refl
  moved_memory instr.FenceI = refl

  fence_is_none : (i : Instr) → is_kept i ≡ false → is_memory i ≡ false
  fence_is_none (instr.Fence b a) e = refl
  fence_is_none instr.FenceTso e = refl
  fence_is_none instr.FenceI e = refl
  fence_is_none (instr.Branch o a b t) e = refl
  fence_is_none (instr.Jump t) e = refl
  fence_is_none (instr.Register o rd a b) e = refl
  fence_is_none (instr.Immediate o rd a z) e = refl
  fence_is_none (instr.Shift o rd a n) e = refl
  fence_is_none (instr.Lui rd n) e = refl
  fence_is_none (instr.Li rd n) e = refl
  fence_is_none (instr.Lw ann rd a z) e = absurd (cc)
  fence_is_none (instr.Sw ann v a z) e = absurd (cc)
  fence_is_none (instr.Lr ann rd a) e = absurd (cc)
  fence_is_none (instr.Sc ann rd v a) e = absurd (cc)
  fence_is_none (instr.Amo o ann rd v a) e = absurd (cc)

  abbrev access_bit : Instr → ℕ
  access_bit i = cond (is_memory i) 1 0

  one_access : (x : Instr) (xs ys : List Instr) (b : Bool) → is_kept x ≡ b → count_by is_memory (map (moved code) ys) ≡ count_by is_memory xs
      → count_by is_memory (map (moved code) (cond b (x ∷ ys) ys)) ≡ count_by is_memory (x ∷ xs)
  one_access x xs ys true here same =
      let was = sum_by-cons access_bit x xs in
      let is = sum_by-cons access_bit (moved code x) (map (moved code) ys) in
      let one : cond (is_memory (moved code x)) 1 0 ≡ access_bit x = ap (λ b. cond {A = ℕ} b 1 0) (moved_memory x) in
      omega (arith, was, is, one, same)
  one_access x xs ys false here same =
      let was = sum_by-cons access_bit x xs in
      let none : access_bit x ≡ 0 = ap (λ b. cond b 1 0) (fence_is_none x here) in
      omega (arith, was, none, same)

  same_accesses : (xs : List Instr) → count_by is_memory (rest_of xs) ≡ count_by is_memory xs
  same_accesses [] = refl
  same_accesses (x ∷ xs) = one_access x xs (filter is_kept xs) (is_kept x) refl (same_accesses xs)

  pub accesses_unfenced : count_by is_memory (unfenced_code code) ≡ count_by is_memory code
  accesses_unfenced = same_accesses code

  pub shorter : length (unfenced_code code) ≤ length code
  shorter =
      let long = length-map (filter is_kept code) (moved code) in
      let own = length-filter is_kept code in
      let most = count_by-le-length is_kept code in
      omega (arith, long, own, most)

-- ---- where FENCEs that name devices order no memory

either : {A : Type 0} (f : Instr → A) (b : Bool) (x y : Instr) → f x ≡ f y → f (if b then x else y) ≡ f y
either f true x y e = e
either f false x y e = refl

-- what doesn't tell one FENCE from another stays
eased_as : {A : Type 0} (f : Instr → A) → ((b a : Letters) → f (instr.Fence devices devices) ≡ f (instr.Fence b a)) → (i : Instr)
    → f (eased_instr i) ≡ f i
eased_as f same (instr.Fence b a) =
    either f (is_fence (instr.Fence b a) && names_devices (instr.Fence b a)) (instr.Fence devices devices) (instr.Fence b a) (same b a)
eased_as f same instr.FenceTso = refl
eased_as f same instr.FenceI = refl
eased_as f same (instr.Branch o a b t) = refl
eased_as f same (instr.Jump t) = refl
eased_as f same (instr.Register o rd a b) = refl
eased_as f same (instr.Immediate o rd a z) = refl
eased_as f same (instr.Shift o rd a n) = refl
eased_as f same (instr.Lui rd n) = refl
eased_as f same (instr.Li rd n) = refl
eased_as f same (instr.Lw ann rd a z) = refl
eased_as f same (instr.Sw ann v a z) = refl
eased_as f same (instr.Lr ann rd a) = refl
eased_as f same (instr.Sc ann rd v a) = refl
eased_as f same (instr.Amo o ann rd v a) = refl

-- where each instruction goes to the same place as before, and is an access as before
module _ (f : Instr → Instr) (targets : (i : Instr) → target_of (f i) ≡ target_of i) (memory : (i : Instr) → is_memory (f i) ≡ is_memory i) where
  same_targets : (code : List Instr) (at : ℕ)
      → option_and_then target_of (slice_get (map f code) at) ≡ option_and_then target_of (slice_get code at)
  same_targets [] at = refl
  same_targets (x ∷ xs) zero = targets x
  same_targets (x ∷ xs) (suc at) = same_targets xs at

  forward_each : (code : List Instr) → GoesForward code → GoesForward (map f code)
  forward_each code h at target e =
      let one = h at target (sym (same_targets code at) ∙ e) in
      let low = one.0 in
      let most = one.1 in
      let long = length-map code f in
      (omega (arith, low), omega (arith, most, long))

  accesses_each : (code : List Instr) → count_by is_memory (map f code) ≡ count_by is_memory code
  accesses_each [] = refl
  accesses_each (x ∷ xs) =
      let is = sum_by-cons (λ (i : Instr). cond {A = ℕ} (is_memory i) 1 0) (f x) (map f xs) in
      let was = sum_by-cons (λ (i : Instr). cond {A = ℕ} (is_memory i) 1 0) x xs in
      let one : cond (is_memory (f x)) 1 0 ≡ cond (is_memory x) 1 0 = ap (λ b. cond {A = ℕ} b 1 0) (memory x) in
      let rest = accesses_each xs in
      omega (arith, is, was, one, rest)

-- ---- all harts

all_mapped : (f : List Instr → List Instr) (P Q : List Instr → Type 0) (codes : List (List Instr)) → ((code : List Instr) → P code → Q (f code))
    → All P codes → All Q (map f codes)
all_mapped f P Q [] each all k d low = absurd (omega (arith, low))
all_mapped f P Q (c ∷ cs) each all zero d low = each c (all 0 c (omega arith))
all_mapped f P Q (c ∷ cs) each all (suc k) d low =
    all_mapped f P Q cs each (λ j e less. all (suc j) e (omega (arith, less))) k d (omega (arith, low))

module _ (f : List Instr → List Instr) (forward : (code : List Instr) → GoesForward code → GoesForward (f code))
    (accesses : (code : List Instr) → count_by is_memory (f code) ≡ count_by is_memory code)
    (short : (code : List Instr) → length (f code) ≤ length code) where
  all_accesses : (codes : List (List Instr)) → sum_by (count_by is_memory) (map f codes) ≡ sum_by (count_by is_memory) codes
  all_accesses [] = refl
  all_accesses (c ∷ cs) =
      let here = accesses c in
      let rest = all_accesses cs in
      let grown = sum_by-cons (count_by is_memory) (f c) (map f cs) in
      let was = sum_by-cons (count_by is_memory) c cs in
      omega (arith, here, rest, grown, was)

  bounded_mapped : (t : Test) → IsBounded t → IsBounded (record t { codes = map f t.codes })
  bounded_mapped t h =
      let long = length-map t.codes f in
      let harts = h.harts in
      let sum = all_accesses t.codes in
      let most = h.accesses in
      record {
        starts = h.starts ∙ sym long;
        forward = all_mapped f GoesForward GoesForward t.codes forward h.forward;
        atoms = subst (λ n. SpeaksOf n (length t.locations) (condition_of t.condition)) (sym long) h.atoms;
        harts = omega (arith, long, harts);
        lengths = all_mapped f (λ code. length code ≤ 32) (λ code. length code ≤ 32) t.codes
            (λ code few. let less = short code in omega (arith, less, few)) h.lengths;
        accesses = omega (arith, sum, most);
        locations = h.locations;
        depth = h.depth;
      }

pub bounded_unfenced : (t : Test) → IsBounded t → IsBounded (unfenced t)
bounded_unfenced = bounded_mapped unfenced_code forward_unfenced accesses_unfenced shorter

bounded_each : (f : Instr → Instr) → ((i : Instr) → target_of (f i) ≡ target_of i) → ((i : Instr) → is_memory (f i) ≡ is_memory i)
    → (t : Test) → IsBounded t → IsBounded (record t { codes = map (λ code. map f code) t.codes })
bounded_each f targets memory =
    bounded_mapped (λ code. map f code) (forward_each f targets memory) (accesses_each f targets memory)
    (λ code. let long = length-map code f in omega (arith, long))

pub bounded_eased : (t : Test) → IsBounded t → IsBounded (eased t)
bounded_eased = bounded_each eased_instr (eased_as target_of (λ b a. refl)) (eased_as is_memory (λ b a. refl))

pub bounded_emptied : (t : Test) → IsBounded t → IsBounded (emptied t)
bounded_emptied =
    bounded_each emptied_instr (same_of_emptied target_of (λ b a. refl) refl) (same_of_emptied is_memory (λ b a. refl) refl)

-- ---- the table

module _ (code : List Instr) where
  moved_of_table : (i : Instr) → IsOfTable i → ((t : ℕ) → position code t < 256) → IsOfTable (moved code i)
  moved_of_table (instr.Branch o a b t) h low = (h.0, h.1, low t)
  moved_of_table (instr.Jump t) h low = low t
  moved_of_table (instr.Register o rd a b) h low = h
  moved_of_table (instr.Immediate o rd a z) h low = h
  moved_of_table (instr.Shift o rd a n) h low = h
  moved_of_table (instr.Lui rd n) h low = h
  moved_of_table (instr.Li rd n) h low = h
  moved_of_table (instr.Lw ann rd a z) h low = h
  moved_of_table (instr.Sw ann v a z) h low = h
  moved_of_table (instr.Lr ann rd a) h low = h
  moved_of_table (instr.Sc ann rd v a) h low = h
  moved_of_table (instr.Amo o ann rd v a) h low = h
  moved_of_table (instr.Fence b a) h low = h
  moved_of_table instr.FenceTso h low = h
  moved_of_table instr.FenceI h low = h

  one_more_of_table : (x : Instr) (ys : List Instr) (b : Bool) → IsOfTable (moved code x) → All IsOfTable (map (moved code) ys)
      → All IsOfTable (map (moved code) (cond b (x ∷ ys) ys))
  one_more_of_table x ys true here rest zero d low = here
  one_more_of_table x ys true here rest (suc k) d low = rest k d (omega (arith, low))
  one_more_of_table x ys false here rest k d low = rest k d low

  none_of_table : All IsOfTable []
  none_of_table k d low = absurd (omega (arith, low))

  rest_of_table : (xs : List Instr) → ((t : ℕ) → position code t < 256) → All IsOfTable xs → All IsOfTable (map (moved code) (filter is_kept xs))
  rest_of_table [] low all = none_of_table
  rest_of_table (x ∷ xs) low all =
      one_more_of_table x (filter is_kept xs) (is_kept x) (moved_of_table x (all 0 x (omega arith)) low)
      (rest_of_table xs low (λ k d less. all (suc k) d (omega (arith, less))))

pub position_most : (code : List Instr) (at : ℕ) → position code at ≤ length code
position_most code at =
    let most = count_by-le-length is_kept (take at code) in
    let short = length-take at code in
    omega (arith, most, short)

table_unfenced : (code : List Instr) → length code ≤ 32 → All IsOfTable code → All IsOfTable (unfenced_code code)
table_unfenced code few all = rest_of_table code code (λ t. let most = position_most code t in omega (arith, most, few)) all

-- a code of at most so many instructions of the table
abbrev IsShortCode : List Instr → Type 0
IsShortCode code = (length code ≤ 32) × All IsOfTable code

both_all : (codes : List (List Instr)) → All (λ code. length code ≤ 32) codes → All (All IsOfTable) codes → All IsShortCode codes
both_all codes short all k d low = (short k d low, all k d low)

pub test_unfenced : (t : Test) → IsTest t → IsTest (unfenced t)
test_unfenced t h =
    let long = length-map t.codes unfenced_code in
    let some = h.some_hart in
    record {
      utf8 = h.utf8;
      bounded = bounded_unfenced t h.bounded;
      title = h.title;
      some_hart = omega (arith, long, some);
      registers = h.registers;
      instructions = all_mapped unfenced_code IsShortCode (All IsOfTable) t.codes (λ code own. table_unfenced code own.0 own.1)
          (both_all t.codes h.bounded.lengths h.instructions);
      named = h.named;
      distinct = h.distinct;
      words = h.words;
    }
