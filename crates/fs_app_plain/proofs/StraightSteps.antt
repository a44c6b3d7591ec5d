-- Steps that differ in the target of a branch alone: their accesses, and the states after them.
use Rattle.std.proofs.Common.{◌≡◌, ℕ, ◌+◌, Bool, true, false, List, Option, refl, ap, sym, subst, ◌∙◌, inl, inr, arith}
use Rattle.std.specs.Prelude.{nat_le, if◌then◌else◌}
use Rattle.std.proofs.lemmas.Bool.{both_ways, lt-leb}
use Rattle.fs_instr.specs.declared.names.BranchOp.{BranchOp}
use Rattle.fs_instr.specs.declared.instr.Instr.{Instr}
use Rattle.fs_instr.specs.declared.instr.Instr.TheVariants.{Lw, Sw, Lr, Sc, Amo, Branch, Jump}
use Rattle.fs_instr.specs.Instructions.{targeted}
use Rattle.fs_model.specs.declared.hart.Hart.{Hart}
use Rattle.fs_model.specs.declared.step.Step.{Step}
use Rattle.fs_model.specs.Instructions.{does_branch, read, address_in, stored_in, next_after}
use Rattle.fs_model.specs.Runs.{IsAtLocation, StoresItsWord, Succeeds, Accesses, executed, paired_after, after_step}
use Rattle.fs_app_plain.specs.OneTurn.{is_back, turned}

-- ---- without targets

abbrev pub bare : Instr → Instr
bare i = targeted 0 i

abbrev pub with_instr : Instr → Step → Step
with_instr i s = record { at = s.at; instr = i; address = s.address; loaded = s.loaded; stored = s.stored }

abbrev pub bare_step : Step → Step
bare_step s = with_instr (bare s.instr) s

-- what doesn't tell targets apart stays
pub same_of_bare : {X : Type 0} (f : Instr → X) → ((o : BranchOp) (a b t : ℕ) → f (Branch o a b 0) ≡ f (Branch o a b t))
    → ((t : ℕ) → f (Jump 0) ≡ f (Jump t)) → (i : Instr) → f (bare i) ≡ f i
same_of_bare f branch jump (Branch o a b t) = branch o a b t
same_of_bare f branch jump (Jump t) = jump t
same_of_bare f branch jump _ = refl

-- and so it is the same of two instructions
pub same_of_both : {X : Type 0} (f : Instr → X) → ((o : BranchOp) (a b t : ℕ) → f (Branch o a b 0) ≡ f (Branch o a b t))
    → ((t : ℕ) → f (Jump 0) ≡ f (Jump t)) → (i j : Instr) → bare i ≡ bare j → f i ≡ f j
same_of_both f branch jump i j e = sym (same_of_bare f branch jump i) ∙ ap f e ∙ same_of_bare f branch jump j

same_address : (x : List ℕ) (i : Instr) → address_in x (bare i) ≡ address_in x i
same_address x i = same_of_bare (address_in x) (λ o a b t. refl) (λ t. refl) i

same_stored : (x : List ℕ) (loaded : Option ℕ) (i : Instr) → stored_in x loaded (bare i) ≡ stored_in x loaded i
same_stored x loaded i = same_of_bare (stored_in x loaded) (λ o a b t. refl) (λ t. refl) i

same_executed : (x : List ℕ) (loaded stored : Option ℕ) (i : Instr) → executed x loaded stored (bare i) ≡ executed x loaded stored i
same_executed x loaded stored i = same_of_bare (executed x loaded stored) (λ o a b t. refl) (λ t. refl) i

same_paired : (h : Hart) (s : Step) (i : Instr) → paired_after h (bare_step s) (bare i) ≡ paired_after h s i
same_paired h s (Lr ann rd base) = refl
same_paired h s (Sc ann rd value base) = refl
same_paired h s (Branch o a b t) = refl
same_paired h s (Jump t) = refl
same_paired h s _ = refl

-- ---- accesses

module _ (n : ℕ) (h : Hart) (s : Step) where
  location_there : IsAtLocation n h s → IsAtLocation n h (bare_step s)
  location_there a = (a.0 ∙ sym (same_address h.registers s.instr), a.1)

  location_back : IsAtLocation n h (bare_step s) → IsAtLocation n h s
  location_back a = (a.0 ∙ same_address h.registers s.instr, a.1)

  stores_there : StoresItsWord h s → StoresItsWord h (bare_step s)
  stores_there e = e ∙ sym (same_stored h.registers s.loaded s.instr)

  stores_back : StoresItsWord h (bare_step s) → StoresItsWord h s
  stores_back e = e ∙ same_stored h.registers s.loaded s.instr

  succeeds_there : Succeeds h s → Succeeds h (bare_step s)
  succeeds_there a = (a.0 ∙ sym (same_address h.registers s.instr), a.1, a.2, stores_there a.3)

  succeeds_back : Succeeds h (bare_step s) → Succeeds h s
  succeeds_back a = (a.0 ∙ same_address h.registers s.instr, a.1, a.2, stores_back a.3)

  accesses_there : (i : Instr) → Accesses n h s i → Accesses n h (bare_step s) (bare i)
  accesses_there (Lw ann rd base offset) a = (location_there a.0, a.1, a.2)
  accesses_there (Sw ann value base offset) a = (location_there a.0, a.1, stores_there a.2)
  accesses_there (Lr ann rd base) a = (location_there a.0, a.1, a.2)
  accesses_there (Sc ann rd value base) a = elim a [
    | inl x ↦ inl (succeeds_there x)
    | inr x ↦ inr x
  ]
  accesses_there (Amo op ann rd value base) a = (location_there a.0, a.1, stores_there a.2)
  accesses_there (Branch o b c t) a = a
  accesses_there (Jump t) a = a
  accesses_there _ a = a

  accesses_back : (i : Instr) → Accesses n h (bare_step s) (bare i) → Accesses n h s i
  accesses_back (Lw ann rd base offset) a = (location_back a.0, a.1, a.2)
  accesses_back (Sw ann value base offset) a = (location_back a.0, a.1, stores_back a.2)
  accesses_back (Lr ann rd base) a = (location_back a.0, a.1, a.2)
  accesses_back (Sc ann rd value base) a = elim a [
    | inl x ↦ inl (succeeds_back x)
    | inr x ↦ inr x
  ]
  accesses_back (Amo op ann rd value base) a = (location_back a.0, a.1, stores_back a.2)
  accesses_back (Branch o b c t) a = a
  accesses_back (Jump t) a = a
  accesses_back _ a = a

-- the access of one is that of the other
pub access_same : (n : ℕ) (h : Hart) (s u : Step) → bare_step s ≡ bare_step u → Accesses n h s s.instr → Accesses n h u u.instr
access_same n h s u e a =
    accesses_back n h u u.instr (subst (λ (v : Step). Accesses n h v v.instr) e (accesses_there n h s s.instr a))

-- ---- states

pub registers_same : (x : List ℕ) (s u : Step) → bare_step s ≡ bare_step u
    → executed x s.loaded s.stored s.instr ≡ executed x u.loaded u.stored u.instr
registers_same x s u e =
    sym (same_executed x s.loaded s.stored s.instr) ∙ ap (λ (v : Step). executed x v.loaded v.stored v.instr) e
    ∙ same_executed x u.loaded u.stored u.instr

abbrev state : ℕ → List ℕ → Option ℕ → Hart
state at registers paired = record { at = at; registers = registers; paired = paired }

-- the state after one is that after the other, where they go on to the same position
pub after_same : (h : Hart) (s u : Step) → bare_step s ≡ bare_step u
    → next_after h.registers h.at s.instr ≡ next_after h.registers h.at u.instr → after_step h s ≡ after_step h u
after_same h s u e next =
    let paired : paired_after h s s.instr ≡ paired_after h u u.instr =
    sym (same_paired h s s.instr) ∙ ap (λ (v : Step). paired_after h v v.instr) e ∙ same_paired h u u.instr in
    ap (λ k. state k (executed h.registers s.loaded s.stored s.instr) (paired_after h s s.instr)) next
    ∙ ap (λ x. state (next_after h.registers h.at u.instr) x (paired_after h s s.instr)) (registers_same h.registers s u e)
    ∙ ap (state (next_after h.registers h.at u.instr) (executed h.registers u.loaded u.stored u.instr)) paired

-- ---- where a turned instruction goes

bare_of_targeted : (past : ℕ) (i : Instr) → bare (targeted past i) ≡ bare i
bare_of_targeted past (Branch o a b t) = refl
bare_of_targeted past (Jump t) = refl
bare_of_targeted past _ = refl

bare_either : (c : Bool) (past : ℕ) (i : Instr) → bare (if c then targeted past i else i) ≡ bare i
bare_either true past i = bare_of_targeted past i
bare_either false past i = refl

pub turned_bare : (past at : ℕ) (i : Instr) → bare (turned past (at, i)) ≡ bare i
turned_bare past at i = bare_either (is_back at i) past i

pub next_is_past : (at : ℕ) → nat_le (at + 1) at ≡ false
next_is_past at = lt-leb (at + 1) at (omega arith)

-- by whether it branches
taken : (d : Bool) (past target at : ℕ) → nat_le target at ≡ true → nat_le (if d then target else at + 1) at ≡ false
    → (if d then past else at + 1) ≡ (if d then target else at + 1)
taken true past target at back forward = absurd (both_ways _ forward back)
taken false past target at back forward = refl

not_taken : (d : Bool) (past target at : ℕ) → nat_le (if d then target else at + 1) at ≡ true
    → (nat_le target at ≡ true) × ((if d then past else at + 1) ≡ past)
not_taken true past target at back = (back, refl)
not_taken false past target at back = absurd (both_ways _ (next_is_past at) back)

module _ (x : List ℕ) (at past : ℕ) where
  abbrev goes : Instr → ℕ
  goes i = next_after x at i

  on_branch : (c : Bool) (o : BranchOp) (a b target : ℕ) → nat_le target at ≡ c → nat_le (goes (Branch o a b target)) at ≡ false
      → goes (if c then Branch o a b past else Branch o a b target) ≡ goes (Branch o a b target)
  on_branch true o a b target back forward = taken (does_branch o (read x a) (read x b)) past target at back forward
  on_branch false o a b target back forward = refl

  on_jump : (c : Bool) (target : ℕ) → nat_le target at ≡ c → nat_le target at ≡ false
      → goes (if c then Jump past else Jump target) ≡ target
  on_jump true target back forward = absurd (both_ways _ forward back)
  on_jump false target back forward = refl

  -- as the instruction does, if that doesn't go back
  pub next_same : (i : Instr) → nat_le (goes i) at ≡ false → goes (turned past (at, i)) ≡ goes i
  next_same (Branch o a b target) forward = on_branch (nat_le target at) o a b target refl forward
  next_same (Jump target) forward = on_jump (nat_le target at) target refl forward
  next_same _ forward = refl

  -- past the end, if it does
  pub next_gone : (i : Instr) → nat_le (goes i) at ≡ true → goes (turned past (at, i)) ≡ past
  next_gone (Branch o a b target) back =
      let found = not_taken (does_branch o (read x a) (read x b)) past target at back in
      ap (λ c. goes (if c then Branch o a b past else Branch o a b target)) found.0 ∙ found.1
  next_gone (Jump target) back = ap (λ c. goes (if c then Jump past else Jump target)) back
  next_gone _ back = absurd (both_ways _ (next_is_past at) back)

  on_either : (d : Bool) (target : ℕ) → nat_le target at ≡ false → nat_le (if d then target else at + 1) at ≡ false
  on_either true target forward = forward
  on_either false target forward = next_is_past at

  -- an instruction that isn't turned never goes back
  pub never_back : (i : Instr) → is_back at i ≡ false → nat_le (goes i) at ≡ false
  never_back (Branch o a b target) forward = on_either (does_branch o (read x a) (read x b)) target forward
  never_back (Jump target) forward = forward
  never_back _ forward = next_is_past at
