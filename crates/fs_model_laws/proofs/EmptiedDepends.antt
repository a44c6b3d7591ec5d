-- Dependencies and pairs between the steps of an emptied run are those of the run.
use Rattle.std.proofs.Common.{◌≡◌, ℕ, zero, suc, ◌-◌, nat_lt, Bool, ◌&&◌, ◌||◌, not, List, map, Option, None, Some, refl, ap, ◌∙◌}
use Rattle.std.specs.Prelude.{option_map, unwrap_or, slice_get}
use Rattle.std.specs.List.{list_any}
use Rattle.std.proofs.lemmas.Option.{slice_get-map}
use Rattle.fs_instr.specs.Instructions.{nop, roles_of, is_conditional, sources_of, carries_of, data_of, address_of}
use Rattle.fs_model.specs.declared.step.Step.{Step}
use Rattle.fs_model.specs.Forms.{is_lr, is_sc}
use Rattle.fs_model.specs.Numbers.{between, is_same}
use Rattle.fs_model.specs.Operations.{instr_at, are_paired}
use Rattle.fs_model.specs.Dependencies.{writes, depends_within, depends, address_depends, data_depends, control_depends}
use Rattle.fs_model_laws.proofs.FencedDepends.{and_same, or_same}
use Rattle.fs_model_laws.proofs.FencedSpread.{any_same}
use Rattle.fs_model_laws.specs.InPlace.{emptied_instr}
use Rattle.fs_model_laws.proofs.Emptying.{emptied_step, same_of_emptied}

instr_of : (o : Option Step) → unwrap_or (option_map (λ s. s.instr) (option_map emptied_step o)) nop
    ≡ emptied_instr (unwrap_or (option_map (λ s. s.instr) o) nop)
instr_of None = refl
instr_of (Some s) = refl

module _ (steps : List Step) where
  abbrev out : List Step
  out = map emptied_step steps

  pub instr_there : (k : ℕ) → instr_at out k ≡ emptied_instr (instr_at steps k)
  instr_there k =
      ap (λ o. unwrap_or (option_map (λ s. s.instr) o) nop) (slice_get-map emptied_step steps k) ∙ instr_of (slice_get steps k)

  roles_there : (k : ℕ) → roles_of (instr_at out k) ≡ roles_of (instr_at steps k)
  roles_there k = ap roles_of (instr_there k) ∙ same_of_emptied roles_of (λ b a. refl) refl (instr_at steps k)

  lr_there : (k : ℕ) → is_lr (instr_at out k) ≡ is_lr (instr_at steps k)
  lr_there k = ap is_lr (instr_there k) ∙ same_of_emptied is_lr (λ b a. refl) refl (instr_at steps k)

  sc_there : (k : ℕ) → is_sc (instr_at out k) ≡ is_sc (instr_at steps k)
  sc_there k = ap is_sc (instr_there k) ∙ same_of_emptied is_sc (λ b a. refl) refl (instr_at steps k)

  conditional_there : (k : ℕ) → is_conditional (instr_at out k) ≡ is_conditional (instr_at steps k)
  conditional_there k =
      ap is_conditional (instr_there k) ∙ same_of_emptied is_conditional (λ b a. refl) refl (instr_at steps k)

  writes_there : (register : Option ℕ) (k : ℕ) → writes out k register ≡ writes steps k register
  writes_there register k = ap (λ r. is_same r.dest register) (roles_there k)

  -- a step between that carries on what it depends on
  abbrev carried : List Step → (d i j : ℕ) → Option ℕ → ℕ → Bool
  carried ss d i j register m =
      carries_of (instr_at ss m) && list_any (depends_within d ss i m) (sources_of (instr_at ss m))
      && depends_within d ss m j register

  -- what is tested of the sources of a step
  sources_there : (f g : Option ℕ → Bool) → ((o : Option ℕ) → f o ≡ g o) → (k : ℕ)
      → list_any f (sources_of (instr_at out k)) ≡ list_any g (sources_of (instr_at steps k))
  sources_there f g same k =
      ap (λ r. list_any f r.sources) (roles_there k) ∙ any_same f g same (sources_of (instr_at steps k))

  within : (d i j : ℕ) (register : Option ℕ) → depends_within d out i j register ≡ depends_within d steps i j register
  within zero i j register = refl
  within (suc d) i j register =
      let written = any_same (λ m. writes out m register) (λ m. writes steps m register) (writes_there register) (between i j) in
      let through = any_same (carried out d i j register) (carried steps d i j register)
      (λ m. and_same _ _ _ _ (and_same _ _ _ _ (ap (λ r. r.carries) (roles_there m))
      (sources_there (depends_within d out i m) (depends_within d steps i m) (within d i m) m)) (within d m j register))
      (between i j) in
      or_same _ _ _ _ (and_same _ _ _ _ (writes_there register i) (ap not written)) through

  pub depends_there : (i j : ℕ) (register : Option ℕ) → depends out i j register ≡ depends steps i j register
  depends_there i j register = ap (λ c. nat_lt i j && c) (within (j - i) i j register)

  pub address_there : (i j : ℕ) → address_depends out i j ≡ address_depends steps i j
  address_there i j =
      ap (λ r. depends out i j r.address) (roles_there j) ∙ depends_there i j (address_of (instr_at steps j))

  pub data_there : (i j : ℕ) → data_depends out i j ≡ data_depends steps i j
  data_there i j =
      ap (λ r. depends out i j r.«data») (roles_there j) ∙ depends_there i j (data_of (instr_at steps j))

  pub control_there : (i j : ℕ) → control_depends out i j ≡ control_depends steps i j
  control_there i j =
      any_same (λ m. is_conditional (instr_at out m) && list_any (depends out i m) (sources_of (instr_at out m)))
      (λ m. is_conditional (instr_at steps m) && list_any (depends steps i m) (sources_of (instr_at steps m)))
      (λ m. and_same _ _ _ _ (conditional_there m) (sources_there (depends out i m) (depends steps i m) (depends_there i m) m))
      (between i j)

  pub address_between_there : (i j : ℕ)
      → list_any (address_depends out i) (between i j) ≡ list_any (address_depends steps i) (between i j)
  address_between_there i j = any_same (address_depends out i) (address_depends steps i) (address_there i) (between i j)

  pub paired_there : (i j : ℕ) → are_paired out i j ≡ are_paired steps i j
  paired_there i j =
      let others = any_same (λ k. is_lr (instr_at out k) || is_sc (instr_at out k))
      (λ k. is_lr (instr_at steps k) || is_sc (instr_at steps k))
      (λ k. or_same _ _ _ _ (lr_there k) (sc_there k)) (between i j) in
      and_same _ _ _ _
      (and_same _ _ _ _ (ap (λ c. nat_lt i j && c) (lr_there i)) (sc_there j))
      (ap not others)
