-- Dependencies, pairs and fences between steps of a run, and between the same steps of the fenced run.
use Rattle.std.proofs.Common.{◌≡◌, ℕ, zero, suc, ◌+◌, ◌-◌, ◌<◌, ◌≤◌, nat_lt, Bool, true, false, ◌&&◌, ◌||◌, not, List, [], ◌∷◌, Option, None, Some, refl, ap, sym, subst, ◌∙◌, arith}
use Rattle.std.specs.Prelude.{is_some}
use Rattle.std.specs.List.{list_any}
use Rattle.std.proofs.lemmas.Bool.{ltb-true, false≢true}
use Rattle.fs_instr.specs.Instructions.{roles_of, is_conditional, sources_of, carries_of, data_of, address_of}
use Rattle.fs_kinds.specs.declared.kind.Kind.{Kind}
use Rattle.fs_kinds.specs.declared.kind.Classes.{Classes}
use Rattle.fs_kinds.specs.declared.placement.Entry.{Entry}
use Rattle.fs_model.proofs.FencedPlaces.{bit}
use Rattle.fs_model.specs.declared.step.Step.{Step}
use Rattle.fs_model.specs.Forms.{is_lr, is_sc}
use Rattle.fs_model.specs.Numbers.{between, is_same}
use Rattle.fs_model.specs.Operations.{instr_at, are_paired}
use Rattle.fs_model.specs.Dependencies.{writes, depends_within, depends, address_depends, data_depends, control_depends}
use Rattle.fs_model.specs.Fences.{instr_orders, kind_orders}
use Rattle.fs_model_laws.specs.Fenced.{fenced_steps}
use Rattle.fs_model_laws.proofs.FencedSpread.{any_same, any_spread, any_spread_only, spread_lt, spread_rises}
use Rattle.fs_model_laws.proofs.FencedSteps.{kind_before, has_before, fenced_place, next_place, instr_there, fence_instr_there}
use Rattle.fs_model_laws.proofs.FencedInstr.{IsQuiet, fence_is_quiet, fence_orders, same_roles, same_conditional, same_lr, same_sc, same_orders}

pub and_same : (a b c d : Bool) → a ≡ c → b ≡ d → (a && b) ≡ (c && d)
and_same a b c d e f = ap (λ x. x && b) e ∙ ap (λ x. c && x) f

pub and_when : (c x y : Bool) → (c ≡ true → x ≡ y) → (c && x) ≡ (c && y)
and_when true x y h = h refl
and_when false x y h = refl

pub or_same : (a b c d : Bool) → a ≡ c → b ≡ d → (a || b) ≡ (c || d)
or_same a b c d e f = ap (λ x. x || b) e ∙ ap (λ x. c || x) f

placed_orders : (o : Option Kind) (first second : Classes) (c : Bool)
    → ((kind : Kind) → o ≡ Some kind → c ≡ kind_orders first second (Some kind)) → (is_some o && c) ≡ kind_orders first second o
placed_orders None first second c h = refl
placed_orders (Some kind) first second c h = h kind refl

kind_there : (o : Option Kind) → is_some o ≡ true → (kind : Kind) × (o ≡ Some kind)
kind_there None h = absurd (false≢true h)
kind_there (Some kind) h = (kind, refl)

-- ---- nothing is carried through no register

and_none : (a b : Bool) → b ≡ false → (a && b) ≡ false
and_none true b e = e
and_none false b e = refl

is_same_none : (o : Option ℕ) → is_same o None ≡ false
is_same_none None = refl
is_same_none (Some a) = refl

pub none_passes : (f : ℕ → Bool) → ((m : ℕ) → f m ≡ false) → (ms : List ℕ) → list_any f ms ≡ false
none_passes f h [] = refl
none_passes f h (m ∷ ms) = let first = h m in let rest = none_passes f h ms in cc

none_or_none : (a b : Bool) → a ≡ false → b ≡ false → (a || b) ≡ false
none_or_none a b e g = cc

none_within : (steps : List Step) (d i j : ℕ) → depends_within d steps i j None ≡ false
none_within steps zero i j = refl
none_within steps (suc d) i j =
    none_or_none _ _
    (ap (λ c. c && not (list_any (λ m. writes steps m None) (between i j))) (is_same_none _))
    (none_passes _ (λ m. and_none _ _ (none_within steps d m j)) (between i j))

pub none_depends : (steps : List Step) (i j : ℕ) → depends steps i j None ≡ false
none_depends steps i j = and_none _ _ (none_within steps (j - i) i j)

module _ (p : List Entry) (hart : ℕ) (steps : List Step) where
  abbrev out : List Step
  out = fenced_steps p (hart, steps)

  abbrev to : ℕ → ℕ
  to = fenced_place p hart steps

  abbrev has : ℕ → Bool
  has = has_before p hart steps

  next : (k : ℕ) → to (suc k) ≡ to k + 1 + bit (has (suc k))
  next = next_place p hart steps

  roles_there : (k : ℕ) → roles_of (instr_at out (to k)) ≡ roles_of (instr_at steps k)
  roles_there k = ap roles_of (instr_there p hart steps k) ∙ same_roles p hart (instr_at steps k)

  quiet_there : (k : ℕ) → has (suc k) ≡ true → IsQuiet (instr_at out (to k + 1))
  quiet_there k h =
      let found = kind_there (kind_before p hart steps (suc k)) h in
      subst IsQuiet (sym (fence_instr_there p hart steps k found.0 found.1)) (fence_is_quiet found.0)

  writes_there : (register : Option ℕ) (k : ℕ) → writes out (to k) register ≡ writes steps k register
  writes_there register k = ap (λ r. is_same r.dest register) (roles_there k)

  abbrev carried : List Step → (d i j : ℕ) → Option ℕ → ℕ → Bool
  carried ss d i j register m =
      carries_of (instr_at ss m) && list_any (depends_within d ss i m) (sources_of (instr_at ss m))
      && depends_within d ss m j register

  -- a step between that carries on what it depends on, where what goes to it and from it is the same
  carried_there : (d e i j k : ℕ) (register : Option ℕ)
      → ((source : Option ℕ) → depends_within e out (to i) (to k) source ≡ depends_within d steps i k source)
      → depends_within e out (to k) (to j) register ≡ depends_within d steps k j register
      → carried out e (to i) (to j) register (to k) ≡ carried steps d i j register k
  carried_there d e i j k register before after =
      let carries = ap (λ r. r.carries) (roles_there k) in
      let through = ap (λ r. list_any (depends_within e out (to i) (to k)) r.sources) (roles_there k)
      ∙ any_same (depends_within e out (to i) (to k)) (depends_within d steps i k) before (sources_of (instr_at steps k)) in
      and_same _ _ _ _ (and_same _ _ _ _ carries through) after

  fence_writes : (register : Option ℕ) (k : ℕ) → has (suc k) ≡ true → writes out (to k + 1) register ≡ false
  fence_writes register k h = ap (λ r. is_same r.dest register) (quiet_there k h).roles

  fence_carries : (e i j : ℕ) (register : Option ℕ) (k : ℕ) → has (suc k) ≡ true → carried out e i j register (to k + 1) ≡ false
  fence_carries e i j register k h =
      let ends = λ (sources : List (Option ℕ)). list_any (depends_within e out i (to k + 1)) sources in
      ap (λ r. r.carries && ends r.sources && depends_within e out (to k + 1) j register) (quiet_there k h).roles

  within : (d e i j : ℕ) (register : Option ℕ) → i < j → j ≤ i + d → to j ≤ to i + e
      → depends_within e out (to i) (to j) register ≡ depends_within d steps i j register
  within zero e i j register low near far = absurd (omega (arith, low, near))
  within (suc d) zero i j register low near far =
      let high = spread_rises to has next i j low in absurd (omega (arith, high, far))
  within (suc d) (suc e) i j register low near far =
      let first : (k : ℕ) (source : Option ℕ) → i < k → k < j → depends_within e out (to i) (to k) source
      ≡ depends_within d steps i k source =
      λ k source after before. let rest = spread_rises to has next k j before in
      within d e i k source after (omega (arith, near, before)) (omega (arith, far, rest)) in
      let second : (k : ℕ) → i < k → k < j → depends_within e out (to k) (to j) register ≡ depends_within d steps k j register =
      λ k after before. let start = spread_rises to has next i k after in
      within d e k j register before (omega (arith, near, after)) (omega (arith, far, start)) in
      let written = any_spread_only to has next (λ m. writes out m register) (λ m. writes steps m register) i j low
      (λ k after before. writes_there register k) (fence_writes register) in
      let through = any_spread_only to has next (carried out e (to i) (to j) register) (carried steps d i j register) i j low
      (λ k after before. carried_there d e i j k register (λ source. first k source after before) (second k after before))
      (fence_carries e (to i) (to j) register) in
      or_same _ _ _ _ (and_same _ _ _ _ (writes_there register i) (ap not written)) through

  pub depends_there : (i j : ℕ) (register : Option ℕ) → depends out (to i) (to j) register ≡ depends steps i j register
  depends_there i j register =
      ap (λ c. c && depends_within (to j - to i) out (to i) (to j) register) (spread_lt to has next i j)
      ∙ and_when (nat_lt i j) _ _ (λ h. let low = ltb-true i j h in within (j - i) (to j - to i) i j register low (omega arith)
      (omega arith))

  pub address_there : (i j : ℕ) → address_depends out (to i) (to j) ≡ address_depends steps i j
  address_there i j =
      ap (λ r. depends out (to i) (to j) r.address) (roles_there j) ∙ depends_there i j (address_of (instr_at steps j))

  pub data_there : (i j : ℕ) → data_depends out (to i) (to j) ≡ data_depends steps i j
  data_there i j = ap (λ r. depends out (to i) (to j) r.«data») (roles_there j) ∙ depends_there i j (data_of (instr_at steps j))

  conditional_there : (k : ℕ) → is_conditional (instr_at out (to k)) ≡ is_conditional (instr_at steps k)
  conditional_there k = ap is_conditional (instr_there p hart steps k) ∙ same_conditional p hart (instr_at steps k)

  pub control_there : (i j : ℕ) → i < j → control_depends out (to i) (to j) ≡ control_depends steps i j
  control_there i j low =
      any_spread_only to has next
      (λ m. is_conditional (instr_at out m) && list_any (depends out (to i) m) (sources_of (instr_at out m)))
      (λ m. is_conditional (instr_at steps m) && list_any (depends steps i m) (sources_of (instr_at steps m)))
      i j low
      (λ k after before. and_same _ _ _ _ (conditional_there k)
      (ap (λ r. list_any (depends out (to i) (to k)) r.sources) (roles_there k)
      ∙ any_same (depends out (to i) (to k)) (depends steps i k) (depends_there i k) (sources_of (instr_at steps k))))
      (λ k h. ap (λ c. c && list_any (depends out (to i) (to k + 1)) (sources_of (instr_at out (to k + 1))))
      (quiet_there k h).conditional)

  pub address_between_there : (i j : ℕ) → i < j
      → list_any (address_depends out (to i)) (between (to i) (to j)) ≡ list_any (address_depends steps i) (between i j)
  address_between_there i j low =
      any_spread_only to has next (address_depends out (to i)) (address_depends steps i) i j low
      (λ k after before. address_there i k)
      (λ k h. ap (λ r. depends out (to i) (to k + 1) r.address) (quiet_there k h).roles ∙ none_depends out (to i) (to k + 1))

  pub paired_there : (i j : ℕ) → i < j → are_paired out (to i) (to j) ≡ are_paired steps i j
  paired_there i j low =
      and_same _ _ _ _
      (and_same _ _ _ _
      (and_same _ _ _ _ (spread_lt to has next i j) (ap is_lr (instr_there p hart steps i) ∙ same_lr p hart (instr_at steps i)))
      (ap is_sc (instr_there p hart steps j) ∙ same_sc p hart (instr_at steps j)))
      (ap not (any_spread_only to has next (λ k. is_lr (instr_at out k) || is_sc (instr_at out k))
      (λ k. is_lr (instr_at steps k) || is_sc (instr_at steps k)) i j low
      (λ k after before. ap (λ x. is_lr x || is_sc x) (instr_there p hart steps k)
      ∙ or_same _ _ _ _ (same_lr p hart (instr_at steps k)) (same_sc p hart (instr_at steps k)))
      (λ k h. let q = quiet_there k h in or_same _ _ _ _ q.lr q.sc)))

  pub fences_there : (first second : Classes) (i j : ℕ) → i < j
      → list_any (λ k. instr_orders first second (instr_at out k)) (between (to i) (to j)) ≡
      (list_any (λ k. instr_orders first second (instr_at steps k)) (between i j) || list_any
      (λ k. kind_orders first second (kind_before p hart steps k)) (between i (j + 1)))
  fences_there first second i j low =
      any_spread to has next (λ k. instr_orders first second (instr_at out k))
      (λ k. instr_orders first second (instr_at steps k)) (λ k. kind_orders first second (kind_before p hart steps k)) i j low
      (λ k after before. ap (instr_orders first second) (instr_there p hart steps k)
      ∙ same_orders p hart (instr_at steps k) first second)
      (λ k after before. placed_orders (kind_before p hart steps (suc k)) first second
      (instr_orders first second (instr_at out (to k + 1)))
      (λ kind e. ap (instr_orders first second) (fence_instr_there p hart steps k kind e) ∙ fence_orders first second kind))
