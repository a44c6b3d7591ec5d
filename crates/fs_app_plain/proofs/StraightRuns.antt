-- The runs of straight code that come to its mark are the runs of the code in which no step goes back.
use Rattle.std.proofs.Common.{◌≡◌, ◌≢◌, ◌⊎◌, ℕ, zero, suc, ◌+◌, ◌<◌, ◌≤◌, Bool, true, false, List, [], ◌∷◌, ◌++◌, length, map, set, Option, Some, None, refl, ap, sym, subst, ◌∙◌, inl, inr, arith}
use Rattle.std.specs.Prelude.{All, slice_get, option_map, if◌then◌else◌}
use Rattle.std.specs.List.{enumerate_from, list_any}
use Rattle.std.proofs.lemmas.Bool.{both_ways, cases_Bool, or_parts, eq-eqb, ne_eqb}
use Rattle.std.proofs.lemmas.List.{get_or-set_other, get_or-set_same, length-set}
use Rattle.std.proofs.lemmas.Option.{same_Some, slice_get_past, slice_get_within, get_or_from_slice_get}
use Rattle.fs_instr.specs.declared.instr.Instr.{Instr}
use Rattle.fs_instr.specs.declared.instr.Instr.TheVariants.{Li, Branch, Jump}
use Rattle.fs_instr.specs.Instructions.{target_of}
use Rattle.fs_instr.specs.Roles.{named, dest_of, sources_of}
use Rattle.fs_model.specs.declared.hart.Hart.{Hart}
use Rattle.fs_model.specs.declared.step.Step.{Step}
use Rattle.fs_model.specs.Instructions.{does_branch, read, written, next_after}
use Rattle.fs_model.specs.Operations.{is_same}
use Rattle.fs_model.specs.Runs.{Accesses, IsStep, AreSteps, Runs, AccessesNothing, executed, after_step, hart_after, start_with}
use Rattle.fs_app_plain.specs.Turns.{goes_back, NeverGoesBack}
use Rattle.fs_app_plain.specs.OneTurn.{is_back, has_back, turned, straight, IsUnnamed, GoesInside}
use Rattle.fs_app_plain.proofs.StraightSteps.{bare, bare_step, registers_same, with_instr, access_same, after_same, turned_bare, next_same, next_gone, never_back}

-- ---- two runs

-- the second has steps that access nothing behind those of the first, which differ in targets alone
abbrev pub Tails : List Step → List Step → Type 0
Tails [] [] = Unit {0}
Tails [] (u ∷ us) = (u.address ≡ None) × Tails [] us
Tails (s ∷ ss) [] = ⊥
Tails (s ∷ ss) (u ∷ us) = (bare_step s ≡ bare_step u) × Tails ss us

tails_self : (ss : List Step) → Tails ss ss
tails_self [] = tt
tails_self (s ∷ ss) = (refl, tails_self ss)

-- ---- what stands in the codes

all_at : (P : Instr → Type 0) (code : List Instr) (k : ℕ) (i : Instr) → All P code → slice_get code k ≡ Some i → P i
all_at P code k i a g = subst P (get_or_from_slice_get code k i i g) (a k i (slice_get_within code k i g))

none_back : (code : List Instr) (n k at : ℕ) (i : Instr)
    → list_any (λ numbered. is_back numbered.0 numbered.1) (enumerate_from n code) ≡ false → at ≡ n + k
    → slice_get code k ≡ Some i → is_back at i ≡ false
none_back [] n k at i none e g = absurd (cc)
none_back (c ∷ cs) n zero at i none e g =
    let same : at ≡ n = omega (arith, e) in
    ap (λ m. is_back m i) same ∙ ap (is_back n) (sym (same_Some c i g)) ∙ (or_parts (is_back n c) _ none).0
none_back (c ∷ cs) n (suc k) at i none e g =
    none_back cs (n + 1) k at i (or_parts (is_back n c) _ none).1 (omega (arith, e)) g

module _ (past : ℕ) (last : Instr) where
  abbrev out_from : ℕ → List Instr → List Instr
  out_from n code = map (turned past) (enumerate_from n code) ++ last ∷ []

  at_there : (code : List Instr) (n k at : ℕ) (i : Instr) → at ≡ n + k → slice_get code k ≡ Some i
      → slice_get (out_from n code) k ≡ Some (turned past (at, i))
  at_there [] n k at i e g = absurd (cc)
  at_there (c ∷ cs) n zero at i e g =
      let same : n ≡ at = omega (arith, e) in
      ap (λ m. Some (turned past (m, c))) same ∙ ap (option_map (λ j. turned past (at, j))) g
  at_there (c ∷ cs) n (suc k) at i e g = at_there cs (n + 1) k at i (omega (arith, e)) g

  at_end : (code : List Instr) (n : ℕ) → slice_get (out_from n code) (length code) ≡ Some last
  at_end [] n = refl
  at_end (c ∷ cs) n = at_end cs (n + 1)

  length_out : (code : List Instr) (n : ℕ) → length (out_from n code) ≡ length code + 1
  length_out [] n = refl
  length_out (c ∷ cs) n = let rest = length_out cs (n + 1) in omega (arith, rest)

  abbrev IsTurned : List Instr → (k at : ℕ) → Instr → Type 0
  IsTurned code k at j = (i : Instr) × (slice_get code k ≡ Some i) × (j ≡ turned past (at, i))

  at_back : (code : List Instr) (n k at : ℕ) (j : Instr) → at ≡ n + k → slice_get (out_from n code) k ≡ Some j
      → IsTurned code k at j ⊎ ((k ≡ length code) × (j ≡ last))
  at_back [] n zero at j e g = inr (refl, sym (same_Some last j g))
  at_back [] n (suc k) at j e g = absurd (cc)
  at_back (c ∷ cs) n zero at j e g =
      let same : n ≡ at = omega (arith, e) in
      inl (c, refl, sym (same_Some (turned past (n, c)) j g) ∙ ap (λ m. turned past (m, c)) same)
  at_back (c ∷ cs) n (suc k) at j e g = elim (at_back cs (n + 1) k at j (omega (arith, e)) g) [
    | inl x ↦ inl x
    | inr x ↦ inr (ap suc x.0, x.1)
  ]

-- ---- registers

size_after : (dest : Option ℕ) (word : ℕ) (x : List ℕ) → length (written dest word x) ≡ length x
size_after None word x = refl
size_after (Some d) word x = length-set x d word

other_register : (dest : Option ℕ) (x : List ℕ) (v r : ℕ) → is_same dest (Some r) ≡ false → read (written dest v x) r ≡ read x r
other_register None x v r e = refl
other_register (Some d) x v r e = get_or-set_other x d r v 0 (λ q. both_ways _ e (eq-eqb d r (sym q)))

named_is : (mark : ℕ) → 0 < mark → named mark ≡ Some mark
named_is mark low =
    ap (λ (c : Bool). if c then None else Some mark) (ne_eqb mark 0 (λ e. absurd (omega (arith, low, e))))

-- ---- code of which some instruction goes back

module _ (n mark : ℕ) (code : List Instr) (not_x0 : 0 < mark) (low : mark < 32) (unnamed : IsUnnamed mark code)
    (inside : GoesInside code) where
  abbrev past : ℕ
  past = length code + 1

  abbrev out : List Instr
  out = out_from past (Li mark 1) 0 code

  record Goes (h k : Hart) (ss us : List Step) : Type 0 where
    pub here : AreSteps n code h ss
    pub forward : NeverGoesBack h ss
    pub end_here : length code ≤ (hart_after h ss).at
    pub there : AreSteps n out k us
    pub end_there : length out ≤ (hart_after k us).at
    pub marked : read (hart_after k us).registers mark ≡ 1
    pub tails : Tails ss us
    pub others : (r : ℕ) → r ≢ mark → read (hart_after k us).registers r ≡ read (hart_after h ss).registers r

  one_more : (h : Hart) (s u : Step) (ss us : List Step) → IsStep n code h s → IsStep n out h u → goes_back h s ≡ false
      → bare_step s ≡ bare_step u → after_step h s ≡ after_step h u → Goes (after_step h s) (after_step h s) ss us
      → Goes h h (s ∷ ss) (u ∷ us)
  one_more h s u ss us first second forward e same rest =
      let more = subst (λ (k : Hart). Goes (after_step h s) k ss us) same rest in
      record {
        here = (first, more.here);
        forward = (forward, more.forward);
        end_here = more.end_here;
        there = (second, more.there);
        end_there = more.end_there;
        marked = more.marked;
        tails = (e, more.tails);
        others = more.others;
      }

  no_address : (h : Hart) (u : Step) → u.instr ≡ Li mark 1 → Accesses n h u u.instr → u.address ≡ None
  no_address h u is a = let nothing : AccessesNothing u = subst (Accesses n h u) is a in nothing.0

  at_mark : (h : Hart) (u : Step) → h.at ≡ length code → length h.registers ≡ 32 → IsStep n out h u → u.instr ≡ Li mark 1
      → Goes h h [] (u ∷ [])
  at_mark h u at size step is =
      let next : (after_step h u).at ≡ h.at + 1 = ap (next_after h.registers h.at) is in
      let registers : (after_step h u).registers ≡ set h.registers mark 1 =
      ap (executed h.registers u.loaded u.stored) is ∙ ap (λ d. written d 1 h.registers) (named_is mark not_x0) in
      let long = length_out past (Li mark 1) code 0 in
      record {
        here = tt;
        forward = tt;
        end_here = omega (arith, at);
        there = (step, tt);
        end_there = omega (arith, at, next, long);
        marked = ap (λ x. read x mark) registers ∙ get_or-set_same h.registers mark 1 0 (omega (arith, low, size));
        tails = (no_address h u is step.2, tt);
        others = λ r ne. ap (λ x. read x r) registers ∙ get_or-set_other h.registers mark r 1 0 ne;
      }

  -- ---- forth

  either_inside : (d : Bool) (target at : ℕ) → target ≤ length code → at < length code
      → (if d then target else at + 1) ≤ length code
  either_inside true target at near below = near
  either_inside false target at near below = omega (arith, below)

  next_inside : (x : List ℕ) (at : ℕ) (i : Instr) → at < length code
      → ((target : ℕ) → target_of i ≡ Some target → target ≤ length code) → next_after x at i ≤ length code
  next_inside x at (Branch o a b target) below near =
      either_inside (does_branch o (read x a) (read x b)) target at (near target refl) below
  next_inside x at (Jump target) below near = near target refl
  next_inside x at _ below near = omega (arith, below)

  abbrev mark_step : ℕ → Step
  mark_step at = record { at = at; instr = Li mark 1; address = None; loaded = None; stored = None }

  forth : (h : Hart) (ss : List Step) → h.at ≤ length code → length h.registers ≡ 32 → AreSteps n code h ss
      → NeverGoesBack h ss → length code ≤ (hart_after h ss).at → (us : List Step) × Goes h h ss us
  forth h [] near size steps forward ends =
      let at : h.at ≡ length code = omega (arith, near, ends) in
      let there = ap (slice_get out) at ∙ at_end past (Li mark 1) code 0 in
      (mark_step h.at ∷ [], at_mark h (mark_step h.at) at size (refl, there, (refl, refl, refl)) refl)
  forth h (s ∷ ss) near size steps forward ends =
      let u = with_instr (turned past (h.at, s.instr)) s in
      let e : bare_step s ≡ bare_step u = ap (λ i. with_instr i s) (sym (turned_bare past h.at s.instr)) in
      let same = after_same h s u e (sym (next_same h.registers h.at past s.instr forward.0)) in
      let there = at_there past (Li mark 1) code 0 h.at h.at s.instr (omega arith) steps.0.1 in
      let below = slice_get_within code h.at s.instr steps.0.1 in
      let near_too = next_inside h.registers h.at s.instr below
      (all_at (λ i. (target : ℕ) → target_of i ≡ Some target → target ≤ length code) code h.at s.instr inside steps.0.1) in
      let rest = forth (after_step h s) ss near_too (size_after (dest_of s.instr) _ h.registers ∙ size) steps.1 forward.1 ends in (
        u ∷ rest.0,
        one_more h s u ss rest.0 steps.0 (steps.0.0, there, access_same n h s u e steps.0.2) forward.0 e same rest.1,
      )

  -- ---- and back

  -- past the end nothing follows
  gone : (k : Hart) (us : List Step) → k.at ≡ past → AreSteps n out k us → us ≡ []
  gone k [] at steps = refl
  gone k (v ∷ vs) at steps =
      let long = length_out past (Li mark 1) code 0 in
      let none = slice_get_past out k.at (omega (arith, at, long)) in
      let some = steps.0.1 in absurd (cc)

  is_zero : {X : Type 0} (word : ℕ) → word ≡ 0 → word ≡ 1 → X
  is_zero word e g = absurd (omega (arith, e, g))

  module _ (h : Hart) (u : Step) (us : List Step) (size : length h.registers ≡ 32) (begins : read h.registers mark ≡ 0)
      (step : IsStep n out h u) (more : AreSteps n out (after_step h u) us)
      (marked : read (hart_after (after_step h u) us).registers mark ≡ 1) where
    back_end : h.at ≡ length code → u.instr ≡ Li mark 1 → (ss : List Step) × Goes h h ss (u ∷ us)
    back_end at is =
        let next : (after_step h u).at ≡ h.at + 1 = ap (next_after h.registers h.at) is in
        let none = gone (after_step h u) us (omega (arith, at, next)) more in
        ([], subst (λ vs. Goes h h [] (u ∷ vs)) (sym none) (at_mark h u at size step is))

    module _ (i : Instr) (there : slice_get code h.at ≡ Some i) (is : u.instr ≡ turned past (h.at, i)) where
      abbrev s : Step
      s = with_instr i u

      alike : bare_step s ≡ bare_step u
      alike = ap (λ j. with_instr j u) (sym (turned_bare past h.at i) ∙ ap bare (sym is))

      unmarked : read (after_step h u).registers mark ≡ 0
      unmarked =
          let free = all_at (λ j. (is_same (dest_of j) (Some mark) ≡ false)
          × (list_any (λ source. is_same source (Some mark)) (sources_of j) ≡ false)) code h.at i unnamed there in
          ap (λ x. read x mark) (sym (registers_same h.registers s u alike))
          ∙ other_register (dest_of i) h.registers _ mark free.0
          ∙ begins

      not_back : {X : Type 0} → goes_back h s ≡ true → X
      not_back back =
          let next : (after_step h u).at ≡ past = ap (next_after h.registers h.at) is ∙ next_gone h.registers h.at past i back in
          let none = gone (after_step h u) us next more in
          is_zero _ unmarked (ap (λ vs. read (hart_after (after_step h u) vs).registers mark) (sym none) ∙ marked)

      back_more : goes_back h s ≡ false → (ss : List Step) × Goes (after_step h u) (after_step h u) ss us
          → (ss : List Step) × Goes h h ss (u ∷ us)
      back_more forward rest =
          let next : next_after h.registers h.at i ≡ next_after h.registers h.at u.instr =
          sym (next_same h.registers h.at past i forward) ∙ ap (next_after h.registers h.at) (sym is) in
          let same = after_same h s u alike next in
          let own = access_same n h u s (sym alike) step.2 in
          let onward = subst (λ (k : Hart). Goes k k rest.0 us) (sym same) rest.1 in
          (s ∷ rest.0, one_more h s u rest.0 us (step.0, there, own) step forward alike same onward)

      by_way : (read (after_step h u).registers mark ≡ 0 → (ss : List Step) × Goes (after_step h u) (after_step h u) ss us)
          → (ss : List Step) × Goes h h ss (u ∷ us)
      by_way rest = elim (cases_Bool (goes_back h s)) [
        | inl back ↦ not_back back
        | inr forward ↦ back_more forward (rest unmarked)
      ]

  back : (h : Hart) (us : List Step) → length h.registers ≡ 32 → read h.registers mark ≡ 0 → AreSteps n out h us
      → read (hart_after h us).registers mark ≡ 1 → length out ≤ (hart_after h us).at → (ss : List Step) × Goes h h ss us
  back h [] size begins steps marked ends = is_zero _ begins marked
  back h (u ∷ us) size begins steps marked ends =
      let size_too : length (after_step h u).registers ≡ 32 = size_after (dest_of u.instr) _ h.registers ∙ size in
      elim (at_back past (Li mark 1) code 0 h.at h.at u.instr (omega arith) steps.0.1) [
        | inl x ↦ by_way h u us size begins steps.0 steps.1 marked x.0 x.1 x.2
            (λ zero_too. back (after_step h u) us size_too zero_too steps.1 marked ends)
        | inr x ↦ back_end h u us size begins steps.0 steps.1 marked x.0 x.1
      ]

-- ---- code of which none does

never : (n : ℕ) (code : List Instr) → has_back code ≡ false → (h : Hart) (ss : List Step) → AreSteps n code h ss
    → NeverGoesBack h ss
never n code none h [] steps = tt
never n code none h (s ∷ ss) steps =
    let forward = none_back code 0 h.at h.at s.instr none (omega arith) steps.0.1 in
    (never_back h.registers h.at 0 s.instr forward, never n code none (after_step h s) ss steps.1)

-- ---- both

-- the first is a run of the code in which no step goes back, and the second one of straight code that comes to the mark
pub record AreRuns (n mark : ℕ) (code : List Instr) (registers : List ℕ) (ss us : List Step) : Type 0 where
  pub here : Runs n code registers ss
  pub forward : NeverGoesBack (start_with registers) ss
  pub there : Runs n (straight mark code) registers us
  pub marked : has_back code ≡ true → read (hart_after (start_with registers) us).registers mark ≡ 1
  pub tails : Tails ss us
  pub others : (r : ℕ) → r ≢ mark
      → read (hart_after (start_with registers) us).registers r ≡ read (hart_after (start_with registers) ss).registers r

module _ (n mark : ℕ) (code : List Instr) (registers : List ℕ) where
  abbrev start : Hart
  start = start_with registers

  abbrev either : Bool → List Instr
  either c = if c then out_from (length code + 1) (Li mark 1) 0 code else code

  self : has_back code ≡ false → (ss : List Step) → Runs n code registers ss → AreRuns n mark code registers ss ss
  self none ss run = record {
    here = run;
    forward = never n code none start ss run.0;
    there = subst (λ c. Runs n (either c) registers ss) (sym none) run;
    marked = λ e. absurd (both_ways _ none e);
    tails = tails_self ss;
    others = λ r ne. refl;
  }

  module _ (not_x0 : 0 < mark) (low : mark < 32) (unnamed : IsUnnamed mark code) (inside : GoesInside code)
      (size : length registers ≡ 32) (begins : read registers mark ≡ 0) where
    other : has_back code ≡ true → (ss us : List Step) → Goes n mark code not_x0 low unnamed inside start start ss us
        → AreRuns n mark code registers ss us
    other some ss us goes = record {
      here = (goes.here, goes.end_here);
      forward = goes.forward;
      there = subst (λ c. Runs n (either c) registers us) (sym some) (goes.there, goes.end_there);
      marked = λ e. goes.marked;
      tails = goes.tails;
      others = goes.others;
    }

    pub run_forth : (ss : List Step) → Runs n code registers ss → NeverGoesBack start ss
        → (us : List Step) × AreRuns n mark code registers ss us
    run_forth ss run forward = elim (cases_Bool (has_back code)) [
      | inl some ↦ (let found = forth n mark code not_x0 low unnamed inside start ss (omega arith) size run.0 forward run.1 in
          (found.0, other some ss found.0 found.1))
      | inr none ↦ (ss, self none ss run)
    ]

    pub run_back : (us : List Step) → Runs n (straight mark code) registers us
        → (has_back code ≡ true → read (hart_after start us).registers mark ≡ 1)
        → (ss : List Step) × AreRuns n mark code registers ss us
    run_back us run marked = elim (cases_Bool (has_back code)) [
      | inl some ↦ (let own = subst (λ c. Runs n (either c) registers us) some run in
          let found = back n mark code not_x0 low unnamed inside start us size begins own.0 (marked some) own.1 in
          (found.0, other some found.0 us found.1))
      | inr none ↦ (us, self none us (subst (λ c. Runs n (either c) registers us) none run))
    ]
