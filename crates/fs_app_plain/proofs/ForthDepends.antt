-- What is said of steps by their instructions alone is the same of two runs with the same instructions.
use Rattle.std.proofs.Common.{◌≡◌, ℕ, zero, suc, ◌-◌, nat_lt, Bool, ◌&&◌, ◌||◌, not, List, Option, refl, ap, ◌∙◌}
use Rattle.std.specs.List.{list_any}
use Rattle.std.proofs.Math.Path.{fun_ext}
use Rattle.fs_instr.specs.declared.instr.Instr.{Instr}
use Rattle.fs_instr.specs.Roles.{is_lr, is_sc, is_conditional, dest_of, sources_of, carries_of, data_of, address_of}
use Rattle.fs_model.specs.declared.step.Step.{Step}
use Rattle.fs_model.specs.Operations.{between, is_same, instr_at, are_paired, depends_within, depends, address_depends, data_depends, control_depends}

abbrev Dependence : Type 0
Dependence = ℕ → ℕ → Option ℕ → Bool

-- one step further
abbrev further : (ℕ → Instr) → Dependence → Dependence
further g D i j register =
    is_same (dest_of (g i)) register && not (list_any (λ m. is_same (dest_of (g m)) register) (between i j))
    || list_any (λ m. carries_of (g m) && list_any (D i m) (sources_of (g m)) && D m j register) (between i j)

-- a conditional branch between depends on step i
abbrev controls : (ℕ → Instr) → Dependence → (i j : ℕ) → Bool
controls g D i j = list_any (λ m. is_conditional (g m) && list_any (D i m) (sources_of (g m))) (between i j)

module _ (us steps : List Step) (each : (k : ℕ) → instr_at us k ≡ instr_at steps k) where
  instructions : instr_at us ≡ instr_at steps
  instructions = fun_ext each

  within : (d : ℕ) → depends_within d us ≡ depends_within d steps
  within zero = refl
  within (suc d) =
      ap (λ g. further g (depends_within d us)) instructions ∙ ap (further (instr_at steps)) (within d)

  all_depends : depends us ≡ depends steps
  all_depends =
      fun_ext (λ i. fun_ext (λ j. ap (λ (D : Dependence). λ register. nat_lt i j && D i j register) (within (j - i))))

  pub address_there : (i j : ℕ) → address_depends us i j ≡ address_depends steps i j
  address_there i j =
      ap (λ g. depends us i j (address_of (g j))) instructions
      ∙ ap (λ (D : Dependence). D i j (address_of (instr_at steps j))) all_depends

  pub data_there : (i j : ℕ) → data_depends us i j ≡ data_depends steps i j
  data_there i j =
      ap (λ g. depends us i j (data_of (g j))) instructions
      ∙ ap (λ (D : Dependence). D i j (data_of (instr_at steps j))) all_depends

  pub control_there : (i j : ℕ) → control_depends us i j ≡ control_depends steps i j
  control_there i j =
      ap (λ g. controls g (depends us) i j) instructions ∙ ap (λ D. controls (instr_at steps) D i j) all_depends

  pub address_between_there : (i j : ℕ)
      → list_any (address_depends us i) (between i j) ≡ list_any (address_depends steps i) (between i j)
  address_between_there i j = ap (λ p. list_any p (between i j)) (fun_ext (address_there i))

  pub paired_there : (i j : ℕ) → are_paired us i j ≡ are_paired steps i j
  paired_there i j =
      ap (λ g. nat_lt i j && is_lr (g i) && is_sc (g j)
      && not (list_any (λ k. is_lr (g k) || is_sc (g k)) (between i j))) instructions
