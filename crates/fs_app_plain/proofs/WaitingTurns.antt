-- A run of a code whose branches back are those of waiting loops: a step that goes back ends an idle turn of two steps.
use Rattle.std.proofs.Common.{◌≡◌, ◌⊎◌, inl, inr, ℕ, ◌+◌, ◌≤◌, Bool, true, false, not, ◌||◌, if◌then◌else◌, None, Some, List, [], ◌∷◌, ◌++◌, length, append_assoc, refl, ap, sym, subst, ◌∙◌, arith}
use Rattle.std.specs.Prelude.{All, slice_get, option_and_then}
use Rattle.std.specs.List.{list_any}
use Rattle.std.proofs.lemmas.Bool.{both_ways, leb-true, or_cases, or_from, or_left, and_left, not_from_true, false≢true}
use Rattle.std.proofs.lemmas.List.Elements.{All-nil, All-cons}
use Rattle.std.proofs.lemmas.Option.{same_Some, slice_get_within}
use Rattle.fs_instr.specs.declared.instr.Instr.{Instr}
use Rattle.fs_instr.specs.declared.instr.Instr.TheVariants.{Register, Immediate, Shift, Lui, Li, Lw, Sw, Lr, Sc, Amo, Branch, Jump, Fence, FenceTso, FenceI}
use Rattle.fs_instr.specs.Roles.{is_sc, is_lr, dest_of, sources_of}
use Rattle.fs_instr.specs.Instructions.{target_of}
use Rattle.fs_model.specs.declared.hart.Hart.{Hart}
use Rattle.fs_model.specs.declared.step.Step.{Step}
use Rattle.fs_model.specs.Instructions.{read, does_branch, next_after}
use Rattle.fs_model.specs.Runs.{Accesses, IsStep, AreSteps, after_step, hart_after}
use Rattle.fs_model.specs.Operations.{is_same}
use Rattle.fs_app_plain.specs.Turns.{reads, writes, is_read_first, reserves, StoresWhatItLoads, EndsIdleTurn, goes_back}
use Rattle.fs_app_plain.specs.Waiting.{target_at, IsWhole}
use Rattle.fs_app_plain.proofs.KeptRuns.{hart_after_both, first_steps, last_steps}

-- ---- what an instruction goes to

chosen : (b : Bool) (target at : ℕ)
    → ((if b then target else at + 1) ≡ at + 1) ⊎ (Some target ≡ Some (if b then target else at + 1))
chosen true target at = inr refl
chosen false target at = inl refl

-- the next position, or its target
next_cases : (x : List ℕ) (at : ℕ) (i : Instr) → (next_after x at i ≡ at + 1) ⊎ (target_of i ≡ Some (next_after x at i))
next_cases x at (Register op rd first second) = inl refl
next_cases x at (Immediate op rd first immediate) = inl refl
next_cases x at (Shift op rd first amount) = inl refl
next_cases x at (Lui rd upper) = inl refl
next_cases x at (Li rd word) = inl refl
next_cases x at (Lw ann rd base offset) = inl refl
next_cases x at (Sw ann value base offset) = inl refl
next_cases x at (Lr ann rd base) = inl refl
next_cases x at (Sc ann rd value base) = inl refl
next_cases x at (Amo op ann rd value base) = inl refl
next_cases x at (Branch op first second target) = chosen (does_branch op (read x first) (read x second)) target at
next_cases x at (Jump target) = inr refl
next_cases x at (Fence before after) = inl refl
next_cases x at FenceTso = inl refl
next_cases x at FenceI = inl refl

-- what has a target stores nothing and writes no register
target_stores : (n : ℕ) (h : Hart) (s : Step) (i : Instr) (target : ℕ) → target_of i ≡ Some target
    → Accesses n h s i → s.stored ≡ None
target_stores n h s (Branch op first second target) k e a = a.2
target_stores n h s (Jump target) k e a = a.2
target_stores n h s i k e a = absurd (let none : None ≡ Some k = e in cc)

target_writes : (i : Instr) (target : ℕ) → target_of i ≡ Some target → dest_of i ≡ None
target_writes (Branch op first second target) k e = refl
target_writes (Jump target) k e = refl
target_writes i k e = absurd (let none : None ≡ Some k = e in cc)

target_reserves : (i : Instr) (target : ℕ) → target_of i ≡ Some target → (is_lr i || is_sc i) ≡ false
target_reserves (Branch op first second target) k e = refl
target_reserves (Jump target) k e = refl
target_reserves i k e = absurd (let none : None ≡ Some k = e in cc)

-- a step that goes back is at a branch, to a position at or before its own
pub goes_to : (code : List Instr) (h : Hart) (s : Step) → slice_get code h.at ≡ Some s.instr → goes_back h s ≡ true
    → (target_at code h.at ≡ Some (after_step h s).at) × ((after_step h s).at ≤ h.at)
goes_to code h s there back =
    let low : (after_step h s).at ≤ h.at = leb-true (after_step h s).at h.at back in
    elim (next_cases h.registers h.at s.instr) [
      | inl next ↦ absurd (omega (arith, low, next))
      | inr target ↦ (ap (option_and_then target_of) there ∙ target, low)
    ]

-- ---- the last step of some

record LastOf (ss : List Step) : Type 0 where
  pub before : List Step
  pub q : Step
  pub whole : ss ≡ before ++ (q ∷ [])

last_of : (ss : List Step) → (ss ≡ []) ⊎ LastOf ss
last_of [] = inl refl
last_of (s ∷ ss) = elim (last_of ss) [
  | inl none ↦ inr (record { before = []; q = s; whole = ap (λ xs. s ∷ xs) none })
  | inr l ↦ inr (record { before = s ∷ l.before; q = l.q; whole = ap (λ xs. s ∷ xs) l.whole })
]

-- ---- the turn

-- it doesn't read the register that it writes, and is neither lr.w nor sc.w
pub record IsFresh (first : Instr) : Type 0 where
  pub registers : (r : ℕ) → is_same (dest_of first) (Some r) ≡ true
      → list_any (λ source. is_same source (Some r)) (sources_of first) ≡ false
  pub unpaired : (is_lr first || is_sc first) ≡ false

-- a step that goes back, to the instruction right before its own
module _ (n : ℕ) (code : List Instr) (start : Hart) (front : List Step) (s : Step) (rest : List Step)
    (steps : AreSteps n code start (front ++ (s ∷ rest)))
    (ends : length code ≤ (hart_after start (front ++ (s ∷ rest))).at)
    (k : ℕ) (first : Instr) (there : slice_get code k ≡ Some first) (fresh : IsFresh first) (whole : IsWhole code k)
    (own : (hart_after start front).at ≡ k + 1) (back : (after_step (hart_after start front) s).at ≡ k)
    (branch : target_at code (hart_after start front).at ≡ Some k) (from_start : start.at ≡ 0) where
  abbrev here : Hart
  here = hart_after start front

  is_step : IsStep n code here s
  is_step = (last_steps n code start front (s ∷ rest) steps).0

  rest_steps : AreSteps n code (after_step here s) rest
  rest_steps = (last_steps n code start front (s ∷ rest) steps).1

  target : target_of s.instr ≡ Some k
  target = ap (option_and_then target_of) (sym is_step.1) ∙ branch

  -- the step before is the instruction there
  pub record Before : Type 0 where
    pub before : List Step
    pub q : Step
    pub front_is : front ≡ before ++ (q ∷ [])
    pub at : (hart_after start before).at ≡ k
    pub step : IsStep n code (hart_after start before) q
    pub instr : q.instr ≡ first

  came : (before : List Step) (q : Step) → front ≡ before ++ (q ∷ []) → Before
  came before q e =
      let h = hart_after start before in
      let after : here ≡ after_step h q = ap (hart_after start) e ∙ hart_after_both start before (q ∷ []) in
      let all : AreSteps n code start (before ++ (q ∷ [])) =
      subst (AreSteps n code start) e (first_steps n code start front (s ∷ rest) steps) in
      let step : IsStep n code h q = (last_steps n code start before (q ∷ []) all).0 in
      let next : next_after h.registers h.at q.instr ≡ k + 1 = ap (λ (g : Hart). g.at) (sym after) ∙ own in
      elim (next_cases h.registers h.at q.instr) [
        | inl one ↦
            let at : h.at ≡ k = omega (arith, one, next) in
            record {
              before = before;
              q = q;
              front_is = e;
              at = at;
              step = step;
              instr = same_Some q.instr first (sym step.1 ∙ ap (slice_get code) at ∙ there);
            }
        | inr goes ↦ absurd (whole h.at (ap (option_and_then target_of) step.1 ∙ goes ∙ ap Some next))
      ]

  pub came_from : Before
  came_from = elim (last_of front) [
    | inl none ↦
        let at_start = ap (λ xs. (hart_after start xs).at) none in
        absurd (omega (arith, at_start, own, from_start))
    | inr l ↦ came l.before l.q l.whole
  ]

  -- the next step is the same instruction again
  record Again : Type 0 where
    pub u : Step
    pub us : List Step
    pub rest_is : rest ≡ u ∷ us
    pub instr : u.instr ≡ first

  again_of : (xs : List Step) → rest ≡ xs → AreSteps n code (after_step here s) xs → Again
  again_of [] e r =
      let inside = slice_get_within code k first there in
      let end = ap (λ (h : Hart). h.at) (hart_after_both start front (s ∷ rest)) in
      let stays : (hart_after (after_step here s) rest).at ≡ k =
      ap (λ xs. (hart_after (after_step here s) xs).at) e ∙ back in
      absurd (omega (arith, inside, ends, end, stays))
  again_of (u ∷ us) e r =
      let instr = same_Some u.instr first (sym r.0.1 ∙ ap (slice_get code) back ∙ there) in
      record { u = u; us = us; rest_is = e; instr = instr }

  again : Again
  again = again_of rest refl rest_steps

  -- the branch writes nothing, so what the turn writes the instruction does
  written_by_first : (q : Step) (r : ℕ) → list_any (writes r) (q ∷ s ∷ []) ≡ true → q.instr ≡ first
      → is_same (dest_of first) (Some r) ≡ true
  written_by_first q r w e = elim (or_cases (writes r q) (list_any (writes r) (s ∷ [])) w) [
    | inl mine ↦ subst (λ i. is_same (dest_of i) (Some r) ≡ true) e mine
    | inr later ↦ elim (or_cases (writes r s) false later) [
      | inl branches ↦
          let none : is_same None (Some r) ≡ true =
          subst (λ d. is_same d (Some r) ≡ true) (target_writes s.instr k target) branches in
          absurd (false≢true none)
      | inr never ↦ absurd (false≢true never)
    ]
  ]

  written_again : (r : ℕ) → is_same (dest_of first) (Some r) ≡ true → writes r again.u ≡ true
  written_again r w = subst (λ i. is_same (dest_of i) (Some r) ≡ true) (sym again.instr) w

  not_read_first : (r : ℕ) → is_same (dest_of first) (Some r) ≡ true → is_read_first r rest ≡ false
  not_read_first r w =
      subst (λ xs. is_read_first r xs ≡ false) (sym again.rest_is)
      (or_from (reads r again.u) _
      (subst (λ i. list_any (λ source. is_same source (Some r)) (sources_of i) ≡ false) (sym again.instr)
      (fresh.registers r w))
      (and_left (not (writes r again.u)) (is_read_first r again.us)
      (not_from_true (writes r again.u) (written_again r w))))

  written_in_rest : (r : ℕ) → is_same (dest_of first) (Some r) ≡ true → list_any (writes r) rest ≡ true
  written_in_rest r w =
      subst (λ xs. list_any (writes r) xs ≡ true) (sym again.rest_is) (or_left (writes r again.u) _ (written_again r w))

  never_reserved : (b : Before) → list_any reserves (b.q ∷ s ∷ []) ≡ false
  never_reserved b =
      or_from (reserves b.q) _ (subst (λ i. (is_lr i || is_sc i) ≡ false) (sym b.instr) fresh.unpaired)
      (or_from (reserves s) false (target_reserves s.instr k target) refl)

  branch_stores : All StoresWhatItLoads (s ∷ [])
  branch_stores =
      All-cons StoresWhatItLoads s [] (inl (target_stores n here s s.instr k target is_step.2))
      (All-nil StoresWhatItLoads)

  pub ends_idle_turn : (asked : ℕ → Bool) (b : Before) → StoresWhatItLoads b.q → EndsIdleTurn asked start front s rest
  ends_idle_turn asked b stores =
      let ends : front ++ (s ∷ []) ≡ b.before ++ (b.q ∷ (s ∷ [])) =
      ap (λ xs. xs ++ (s ∷ [])) b.front_is ∙ append_assoc b.before (b.q ∷ []) (s ∷ []) in
      let closed : (hart_after start (b.before ++ (b.q ∷ (s ∷ [])))).at ≡ (hart_after start b.before).at =
      ap (λ xs. (hart_after start xs).at) (sym ends) ∙ ap (λ (h : Hart). h.at) (hart_after_both start front (s ∷ []))
      ∙ back ∙ sym b.at in
      record {
        before = b.before;
        first = b.q;
        more = s ∷ [];
        ends = ends;
        idle = record {
          closed = closed;
          stores = All-cons StoresWhatItLoads b.q (s ∷ []) stores branch_stores;
          registers = λ r w. not_read_first r (written_by_first b.q r w b.instr);
          reservation = λ w. absurd (both_ways _ (never_reserved b) w);
        };
        kept = λ r wanted w. written_in_rest r (written_by_first b.q r w b.instr);
      }
