-- Where the instructions of a code stand once it is fenced.
use Rattle.std.proofs.Common.{◌≡◌, ℕ, zero, suc, ◌+◌, ◌<◌, List, [], ◌∷◌, ◌++◌, length, map, filter, cond, Bool, true, false, Option, None, Some, flat_map, refl, ap, ◌∙◌, subst, arith}
use Rattle.std.specs.Prelude.{slice_get, is_some, if◌then◌else◌}
use Rattle.std.specs.List.{enumerate_from, range_with_len}
use Rattle.fs_instr.specs.Instructions.{target_of}
use Rattle.fs_instr.specs.declared.instr.Instr.{Instr}
use Rattle.fs_instr.specs.declared.instr.Instr.TheVariants as instr
use Rattle.fs_instr.specs.Writing.{instr_text}
use Rattle.fs_kinds.specs.declared.kind.Kind.TheVariants.{RR, RW, RRw, WR, WW, WRw, RwR, RwW, RwRw, Tso}
use Rattle.fs_kinds.specs.declared.kind.Kind.{Kind}
use Rattle.fs_kinds.specs.declared.placement.Entry.{Entry}
use Rattle.fs_kinds.specs.Placement.{kind_at}
use Rattle.fs_model.specs.Slots.{slot_at}
use Rattle.fs_model.specs.Fenced.{is_filled, position, moved, fences, fence_of, with_fence, fenced_code, fenced}
use Rattle.fs_model.specs.Moved.{place, IsMoved, fence_line, IsFencedCode}
use Rattle.fs_model.specs.declared.test.Test.{Test}

abbrev pub bit : Bool → ℕ
bit b = if b then 1 else 0

-- how many of k numbers from n on pass the test
abbrev pub count : (ℕ → Bool) → (n k : ℕ) → ℕ
count f n k = length (filter f (range_with_len n k))

one_more : (b : Bool) (x : ℕ) (xs : List ℕ) → length (cond b (x ∷ xs) xs) ≡ bit b + length xs
one_more true x xs = omega arith
one_more false x xs = omega arith

pub count_first : (f : ℕ → Bool) (n k : ℕ) → count f n (suc k) ≡ bit (f n) + count f (n + 1) k
count_first f n k = one_more (f n) n (filter f (range_with_len (n + 1) k))

pub count_last : (f : ℕ → Bool) (n k m : ℕ) → m ≡ n + k → count f n (suc k) ≡ count f n k + bit (f m)
count_last f n zero m e = count_first f n zero ∙ (let same : f n ≡ f m = ap f (omega (arith, e)) in rw same (omega arith))
count_last f n (suc k) m e =
    let more = count_first f n (suc k) in
    let first = count_first f n k in
    let last = count_last f (n + 1) k m (omega (arith, e)) in
    omega (arith, more, first, last)

-- the code with its fences, where its first instruction has number n
abbrev pub with_fences : List Entry → (hart n : ℕ) → List Instr → List Instr
with_fences p hart n code = flat_map (with_fence p hart) (enumerate_from n code)

-- ---- one instruction and its fence

at_front : (o : Option Kind) (kind : Kind) (m : Instr) (rest : List Instr) → o ≡ Some kind → slice_get ((fences o ++ m ∷ []) ++ rest) 0 ≡ Some (fence_of kind)
at_front None kind m rest e = absurd (cc)
at_front (Some k) kind m rest e = let same : k ≡ kind = cc in ap (λ x. Some (fence_of x)) same

after_fence : (o : Option Kind) (m : Instr) (rest : List Instr) (j : ℕ) → j ≡ bit (is_some o) → slice_get ((fences o ++ m ∷ []) ++ rest) j ≡ Some m
after_fence None m rest j e = ap (slice_get (m ∷ rest)) e
after_fence (Some k) m rest j e = ap (slice_get (fence_of k ∷ m ∷ rest)) e

past_both : (o : Option Kind) (m : Instr) (rest : List Instr) (j k : ℕ) → j ≡ bit (is_some o) + k + 1 → slice_get ((fences o ++ m ∷ []) ++ rest) j ≡ slice_get rest k
past_both None m rest j k e = let same : j ≡ suc k = omega (arith, e) in ap (slice_get (m ∷ rest)) same
past_both (Some f) m rest j k e = let same : j ≡ suc (suc k) = omega (arith, e) in ap (slice_get (fence_of f ∷ m ∷ rest)) same

length-both : (o : Option Kind) (m : Instr) (rest : List Instr) → length ((fences o ++ m ∷ []) ++ rest) ≡ bit (is_some o) + length rest + 1
length-both None m rest = omega arith
length-both (Some f) m rest = omega arith

-- ---- an instruction moved, and the text of a fence

plain : (p : List Entry) (hart : ℕ) (i : Instr) → target_of i ≡ None → IsMoved p hart i i
plain p hart i e = record { branch = λ target f. absurd (cc); other = λ f. refl }

moved_is : (p : List Entry) (hart : ℕ) (i : Instr) → IsMoved p hart i (moved p hart i)
moved_is p hart (instr.Branch o a b t) = record { branch = λ target e. (let same : t ≡ target = cc in ap (λ n. instr.Branch o a b (position p hart n)) same); other = λ e. absurd (cc) }
moved_is p hart (instr.Jump t) = record { branch = λ target e. (let same : t ≡ target = cc in ap (λ n. instr.Jump (position p hart n)) same); other = λ e. absurd (cc) }
moved_is p hart (instr.Register o rd a b) = plain p hart (instr.Register o rd a b) refl
moved_is p hart (instr.Immediate o rd a z) = plain p hart (instr.Immediate o rd a z) refl
moved_is p hart (instr.Shift o rd a n) = plain p hart (instr.Shift o rd a n) refl
moved_is p hart (instr.Lui rd n) = plain p hart (instr.Lui rd n) refl
moved_is p hart (instr.Li rd n) = plain p hart (instr.Li rd n) refl
moved_is p hart (instr.Lw ann rd a z) = plain p hart (instr.Lw ann rd a z) refl
moved_is p hart (instr.Sw ann v a z) = plain p hart (instr.Sw ann v a z) refl
moved_is p hart (instr.Lr ann rd a) = plain p hart (instr.Lr ann rd a) refl
moved_is p hart (instr.Sc ann rd v a) = plain p hart (instr.Sc ann rd v a) refl
moved_is p hart (instr.Amo o ann rd v a) = plain p hart (instr.Amo o ann rd v a) refl
moved_is p hart (instr.Fence b a) = plain p hart (instr.Fence b a) refl
moved_is p hart instr.FenceTso = plain p hart instr.FenceTso refl
moved_is p hart instr.FenceI = plain p hart instr.FenceI refl

fence_text : (kind : Kind) → instr_text (fence_of kind) ≡ fence_line kind
unfolding instr_text
fence_text RR = refl
fence_text RW = refl
fence_text RRw = refl
fence_text WR = refl
fence_text WW = refl
fence_text WRw = refl
fence_text RwR = refl
fence_text RwW = refl
fence_text RwRw = refl
fence_text Tso = refl

-- ---- a code

module _ (p : List Entry) (hart : ℕ) where
  abbrev filled : ℕ → Bool
  filled = is_filled p hart

  abbrev kind_of : ℕ → Option Kind
  kind_of n = kind_at (slot_at hart n) p

  instruction_at : (n : ℕ) (code : List Instr) (at j : ℕ) (i : Instr) → slice_get code at ≡ Some i → j ≡ at + count filled n (suc at) → slice_get (with_fences p hart n code) j ≡ Some (moved p hart i)
  instruction_at n [] at j i e where_is = absurd (cc)
  instruction_at n (x ∷ xs) zero j i e where_is =
      let same : x ≡ i = cc in
      let one = count_first filled n 0 in
      after_fence (kind_of n) (moved p hart x) (with_fences p hart (n + 1) xs) j (omega (arith, where_is, one)) ∙ ap (λ y. Some (moved p hart y)) same
  instruction_at n (x ∷ xs) (suc at) j i e where_is =
      let more = count_first filled n (suc at) in
      let k = at + count filled (n + 1) (suc at) in
      past_both (kind_of n) (moved p hart x) (with_fences p hart (n + 1) xs) j k (omega (arith, where_is, more)) ∙ instruction_at (n + 1) xs at k i e refl

  fence_at : (n : ℕ) (code : List Instr) (at m j : ℕ) (kind : Kind) → at < length code → m ≡ n + at → kind_of m ≡ Some kind → j ≡ at + count filled n at → slice_get (with_fences p hart n code) j ≡ Some (fence_of kind)
  fence_at n [] at m j kind low number there where_is = absurd (omega arith)
  fence_at n (x ∷ xs) zero m j kind low number there where_is =
      let here : j ≡ 0 = omega (arith, where_is) in
      let same : m ≡ n = omega (arith, number) in
      ap (slice_get (with_fences p hart n (x ∷ xs))) here ∙ at_front (kind_of n) kind (moved p hart x) (with_fences p hart (n + 1) xs) (subst (λ y. kind_of y ≡ Some kind) same there)
  fence_at n (x ∷ xs) (suc at) m j kind low number there where_is =
      let more = count_first filled n at in
      let k = at + count filled (n + 1) at in
      past_both (kind_of n) (moved p hart x) (with_fences p hart (n + 1) xs) j k (omega (arith, where_is, more)) ∙ fence_at (n + 1) xs at m k kind (omega (arith, low)) (omega (arith, number)) there refl

  length-with_fences : (n : ℕ) (code : List Instr) → length (with_fences p hart n code) ≡ length code + count filled n (length code)
  length-with_fences n [] = refl
  length-with_fences n (x ∷ xs) =
      let both = length-both (kind_of n) (moved p hart x) (with_fences p hart (n + 1) xs) in
      let rest = length-with_fences (n + 1) xs in
      let more = count_first filled n (length xs) in
      omega (arith, both, rest, more)

  pub place_counts : (at : ℕ) → place p hart at ≡ at + count filled 0 (suc at)
  place_counts at = let one : at + 1 ≡ suc at = omega arith in ap (λ k. at + count filled 0 k) one

  pub fences_code : (code : List Instr) → IsFencedCode p hart code (fenced_code p (hart, code))
  fences_code code =
      record {
        instructions = λ at i e. (moved p hart i, instruction_at 0 code at (place p hart at) i e (place_counts at), moved_is p hart i);
        fences = λ at kind low there. (fence_of kind, fence_at 0 code at at (position p hart at) kind low (omega arith) there refl, fence_text kind);
        steps = λ at. let last = count_last filled 0 at at (omega arith) in let here = place_counts at in omega (arith, last, here);
        whole = length-with_fences 0 code;
      }

-- ---- the codes of all harts

codes_from : (p : List Entry) (n : ℕ) (codes : List (List Instr)) (k m : ℕ) (code : List Instr) → m ≡ n + k → slice_get codes k ≡ Some code → slice_get (map (fenced_code p) (enumerate_from n codes)) k ≡ Some (fenced_code p (m, code))
codes_from p n [] k m code number e = absurd (cc)
codes_from p n (c ∷ cs) zero m code number e =
    let same : c ≡ code = cc in
    let here : n ≡ m = omega (arith, number) in
    ap (λ x. Some (fenced_code p (n, x))) same ∙ ap (λ x. Some (fenced_code p (x, code))) here
codes_from p n (c ∷ cs) (suc k) m code number e = codes_from p (n + 1) cs k m code (omega (arith, number)) e

pub codes_fenced : (t : Test) (p : List Entry) (hart : ℕ) (code : List Instr) → slice_get t.codes hart ≡ Some code → (out : List Instr) × (slice_get (fenced t p).codes hart ≡ Some out) × IsFencedCode p hart code out
codes_fenced t p hart code e = (fenced_code p (hart, code), codes_from p 0 t.codes hart hart code (omega arith) e, fences_code p hart code)
