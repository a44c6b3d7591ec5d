-- The test in which FENCEs are as advised is a test, and its outcome is ruled out.
use Rattle.std.proofs.Common.{◌≡◌, ℕ, zero, suc, ◌+◌, ◌≤◌, ◌&&◌, not, List, [], ◌∷◌, length, map, cond, Bool, true, false, Option, None, Some, refl, ap, sym, ◌∙◌, subst, arith, All, if◌then◌else◌}
use Rattle.std.specs.Prelude.{count_by, option_and_then, slice_get, sum_by}
use Rattle.std.specs.List.{enumerate_from}
use Rattle.std.proofs.lemmas.List.{length-map}
use Rattle.std.proofs.lemmas.List.FromFn.{length-enumerate_from}
use Rattle.std.proofs.lemmas.List.Sums.{sum_by-cons}
use Rattle.fs_instr.specs.Instructions.{is_memory, target_of}
use Rattle.fs_instr.specs.OfTable.{IsOfTable}
use Rattle.fs_instr.specs.declared.instr.Instr.{Instr}
use Rattle.fs_instr.specs.declared.instr.Instr.TheVariants.{Fence, FenceTso}
use Rattle.fs_instr.specs.declared.letters.Letters.{Letters}
use Rattle.fs_kinds.specs.declared.kind.Kind.{Kind}
use Rattle.fs_kinds.specs.declared.kind.Kind.TheVariants.{RR, RW, RRw, WR, WW, WRw, RwR, RwW, RwRw, Tso}
use Rattle.fs_kinds.specs.declared.placement.Entry.{Entry}
use Rattle.fs_kinds.specs.declared.slot.Slot.{Slot}
use Rattle.fs_kinds.specs.Placement.{kind_at}
use Rattle.fs_kinds.specs.PriceTable.{PriceTable}
use Rattle.fs_model.specs.declared.test.Test.{Test}
use Rattle.fs_model.specs.Allows.{Allows, Shows, no_fences}
use Rattle.fs_model.specs.Condition.{SpeaksOf, condition_of}
use Rattle.fs_model.specs.Slots.{slot_at}
use Rattle.fs_model.specs.Test.{GoesForward, IsBounded, IsSame, IsTest}
use Rattle.fs_model_laws.proofs.FencedSame.{shows_same}
use Rattle.fs_model_laws.specs.InPlace.{devices, emptied, fence_for, followed_code, followed_instr, is_fence, written_at}
use Rattle.fs_model_laws.proofs.EmptiedExecutions.{followed_ruled_out}
use Rattle.fs_model_laws.proofs.Emptying.{same_of_emptied}
use Rattle.fs_model_laws.proofs.FollowedLines.{is_followed}
use Rattle.fs_app_audit.proofs.Weaker.{keeps_no_more}
use Rattle.fs_app_audit_json_and_why.specs.Advised.{as_advised, is_changed, stays}
use Rattle.fs_app_audit_json_and_why.specs.Why.{AreAdvised}

-- ---- one FENCE in the place of another

-- what doesn't tell one FENCE from another stays
module _ {X : Type 0} (f : Instr → X) (fence : (b a : Letters) → f (Fence devices devices) ≡ f (Fence b a)) (tso : f (Fence devices devices) ≡ f FenceTso) where
  fence_alike : (kind : Option Kind) → f (fence_for kind) ≡ f (Fence devices devices)
  fence_alike None = refl
  fence_alike (Some RR) = sym (fence _ _)
  fence_alike (Some RW) = sym (fence _ _)
  fence_alike (Some RRw) = sym (fence _ _)
  fence_alike (Some WR) = sym (fence _ _)
  fence_alike (Some WW) = sym (fence _ _)
  fence_alike (Some WRw) = sym (fence _ _)
  fence_alike (Some RwR) = sym (fence _ _)
  fence_alike (Some RwW) = sym (fence _ _)
  fence_alike (Some RwRw) = sym (fence _ _)
  fence_alike (Some Tso) = sym tso

  one_alike : (i : Instr) (kind : Option Kind) (b c : Bool) → is_fence i ≡ b → f (if b && c then fence_for kind else i) ≡ f i
  one_alike i kind true true is =
      fence_alike kind ∙ ap (λ b. f (if b then Fence devices devices else i)) (sym is) ∙ same_of_emptied f fence tso i
  one_alike i kind true false is = refl
  one_alike i kind false c is = refl

  followed_alike : (lines : Slot → Bool) (p : List Entry) (hart n : ℕ) (i : Instr) → f (followed_instr lines p hart (n, i)) ≡ f i
  followed_alike lines p hart n i = one_alike i (kind_at (slot_at hart n) p) (is_fence i) (lines (slot_at hart n)) refl

table_for : (kind : Option Kind) → IsOfTable (fence_for kind)
table_for None = (refl, refl)
table_for (Some RR) = (refl, refl)
table_for (Some RW) = (refl, refl)
table_for (Some RRw) = (refl, refl)
table_for (Some WR) = (refl, refl)
table_for (Some WW) = (refl, refl)
table_for (Some WRw) = (refl, refl)
table_for (Some RwR) = (refl, refl)
table_for (Some RwW) = (refl, refl)
table_for (Some RwRw) = (refl, refl)
table_for (Some Tso) = tt

table_either : (i : Instr) (kind : Option Kind) (b : Bool) → IsOfTable i → IsOfTable (if b then fence_for kind else i)
table_either i kind true h = table_for kind
table_either i kind false h = h

-- ---- the code of a hart

module _ (lines : Slot → Bool) (p : List Entry) where
  module _ (hart : ℕ) where
    -- the code from instruction n on
    abbrev from : ℕ → List Instr → List Instr
    from n code = map (followed_instr lines p hart) (enumerate_from n code)

    same_targets : (n : ℕ) (code : List Instr) (at : ℕ)
        → option_and_then target_of (slice_get (from n code) at) ≡ option_and_then target_of (slice_get code at)
    same_targets n [] at = refl
    same_targets n (i ∷ code) zero = followed_alike target_of (λ b a. refl) refl lines p hart n i
    same_targets n (i ∷ code) (suc at) = same_targets (n + 1) code at

    as_long : (code : List Instr) → length (followed_code lines p (hart, code)) ≡ length code
    as_long code = length-map (enumerate_from 0 code) (followed_instr lines p hart) ∙ length-enumerate_from 0 code

    forward : (code : List Instr) → GoesForward code → GoesForward (followed_code lines p (hart, code))
    forward code h at target e =
        let one = h at target (sym (same_targets 0 code at) ∙ e) in
        let low = one.0 in
        let most = one.1 in
        let long = as_long code in
        (omega (arith, low), omega (arith, most, long))

    same_accesses : (n : ℕ) (code : List Instr) → count_by is_memory (from n code) ≡ count_by is_memory code
    same_accesses n [] = refl
    same_accesses n (i ∷ code) =
        let is = sum_by-cons (λ (j : Instr). cond {A = ℕ} (is_memory j) 1 0) (followed_instr lines p hart (n, i)) (from (n + 1) code) in
        let was = sum_by-cons (λ (j : Instr). cond {A = ℕ} (is_memory j) 1 0) i code in
        let one : cond (is_memory (followed_instr lines p hart (n, i))) 1 0 ≡ cond (is_memory i) 1 0 =
        ap (λ b. cond {A = ℕ} b 1 0) (followed_alike is_memory (λ b a. refl) refl lines p hart n i) in
        let rest = same_accesses (n + 1) code in
        omega (arith, is, was, one, rest)

    of_table : (n : ℕ) (code : List Instr) → All IsOfTable code → All IsOfTable (from n code)
    of_table n [] all k d low = absurd (omega (arith, low))
    of_table n (i ∷ code) all zero d low =
        table_either i (kind_at (slot_at hart n) p) (is_fence i && lines (slot_at hart n)) (all 0 i (omega arith))
    of_table n (i ∷ code) all (suc k) d low =
        of_table (n + 1) code (λ j e less. all (suc j) e (omega (arith, less))) k d (omega (arith, low))

  -- ---- all harts

  all_codes : (P Q : List Instr → Type 0) → ((hart : ℕ) (code : List Instr) → P code → Q (followed_code lines p (hart, code)))
      → (n : ℕ) (codes : List (List Instr)) → All P codes → All Q (map (followed_code lines p) (enumerate_from n codes))
  all_codes P Q each n [] all k d low = absurd (omega (arith, low))
  all_codes P Q each n (code ∷ codes) all zero d low = each n code (all 0 code (omega arith))
  all_codes P Q each n (code ∷ codes) all (suc k) d low =
      all_codes P Q each (n + 1) codes (λ j e less. all (suc j) e (omega (arith, less))) k d (omega (arith, low))

  all_accesses : (n : ℕ) (codes : List (List Instr))
      → sum_by (count_by is_memory) (map (followed_code lines p) (enumerate_from n codes)) ≡ sum_by (count_by is_memory) codes
  all_accesses n [] = refl
  all_accesses n (code ∷ codes) =
      let here = same_accesses n 0 code in
      let rest = all_accesses (n + 1) codes in
      let is = sum_by-cons (count_by is_memory) (followed_code lines p (n, code)) (map (followed_code lines p) (enumerate_from (n + 1) codes)) in
      let was = sum_by-cons (count_by is_memory) code codes in
      omega (arith, here, rest, is, was)

  harts_long : (codes : List (List Instr)) → length (map (followed_code lines p) (enumerate_from 0 codes)) ≡ length codes
  harts_long codes = length-map (enumerate_from 0 codes) (followed_code lines p) ∙ length-enumerate_from 0 codes

-- ---- the test

module _ (t : Test) (p : List Entry) where
  abbrev lines : Slot → Bool
  lines = is_changed t p

  bounded_advised : IsBounded t → IsBounded (as_advised t p)
  bounded_advised h =
      let long = harts_long lines p t.codes in
      let harts = h.harts in
      let sum = all_accesses lines p 0 t.codes in
      let most = h.accesses in
      record {
        starts = h.starts ∙ sym long;
        forward = all_codes lines p GoesForward GoesForward (forward lines p) 0 t.codes h.forward;
        atoms = subst (λ n. SpeaksOf n (length t.locations) (condition_of t.condition)) (sym long) h.atoms;
        harts = omega (arith, long, harts);
        lengths = all_codes lines p (λ code. length code ≤ 32) (λ code. length code ≤ 32)
            (λ hart code few. let same = as_long lines p hart code in omega (arith, same, few)) 0 t.codes h.lengths;
        accesses = omega (arith, sum, most);
        locations = h.locations;
        depth = h.depth;
      }

  pub test_advised : IsTest t → IsTest (as_advised t p)
  test_advised h =
      let long = harts_long lines p t.codes in
      let some = h.some_hart in
      record {
        utf8 = h.utf8;
        bounded = bounded_advised h.bounded;
        title = h.title;
        some_hart = omega (arith, long, some);
        registers = h.registers;
        instructions = all_codes lines p (All IsOfTable) (All IsOfTable) (λ hart code all. of_table lines p hart 0 code all) 0 t.codes h.instructions;
        named = h.named;
        distinct = h.distinct;
        words = h.words;
      }

-- tests that are the same are the same as advised
pub same_advised : (t u : Test) (p : List Entry) → IsSame t u → IsSame (as_advised t p) (as_advised u p)
same_advised t u p h = record {
  name = h.name;
  codes = ap (λ codes. map (followed_code (λ place. not (stays (written_at codes place) (kind_at place p))) p) (enumerate_from 0 codes)) h.codes;
  starts = h.starts;
  locations = h.locations;
  quantifier = h.quantifier;
  condition = h.condition;
}

-- ---- what tests that are the same allow

no_fences_alike : (t u : Test) → IsSame t u → no_fences t ≡ no_fences u
no_fences_alike t u h = ap (λ codes. no_fences (record u { codes = codes })) h.codes

pub allowed_alike : (t u : Test) → IsSame t u → Allows t (no_fences t) → Allows u (no_fences u)
allowed_alike t u same h =
    (h.0, (shows_same t u (no_fences u) h.0 same).0 (subst (λ q. Shows t q h.0) (no_fences_alike t u same) h.1))

pub allowed_back : (t u : Test) → IsSame t u → Allows u (no_fences u) → Allows t (no_fences t)
allowed_back t u same h =
    (h.0, (shows_same t u (no_fences t) h.0 same).1 (subst (λ q. Shows u q h.0) (sym (no_fences_alike t u same)) h.1))

-- as advised in place the outcome is ruled out
pub advised_forbids : (t : Test) (table : PriceTable) (p : List Entry) → AreAdvised t table p
    → Allows (as_advised t p) (no_fences (as_advised t p)) → ⊥
advised_forbids t table p is =
    followed_ruled_out t (as_advised t p) p (is_followed (is_changed t p) p t (keeps_no_more table t p is.cheapest.placement))
    (λ h. is.cheapest.forbids (h.0, (shows_same is.empty (emptied t) p h.0 is.same).1 h.1))
