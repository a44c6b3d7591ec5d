-- Dependencies and pairs between the first steps of two runs, whose instructions differ there in targets alone.
use Rattle.std.proofs.Common.{◌≡◌, ℕ, zero, suc, ◌+◌, ◌-◌, ◌<◌, ◌≤◌, nat_lt, Bool, ◌&&◌, ◌||◌, not, List, [], ◌∷◌, Option, refl, ap, ◌∙◌, arith}
use Rattle.std.specs.List.{list_any, range_with_len}
use Rattle.fs_instr.specs.Roles.{roles_of, is_lr, is_sc, is_conditional, sources_of, carries_of, data_of, address_of}
use Rattle.fs_model.specs.declared.step.Step.{Step}
use Rattle.fs_model.specs.Operations.{between, is_same, instr_at, are_paired, writes, depends_within, depends, address_depends, data_depends, control_depends}
use Rattle.fs_app_plain.proofs.StraightSteps.{bare, same_of_both}

pub and_same : (a b c d : Bool) → a ≡ c → b ≡ d → (a && b) ≡ (c && d)
and_same a b c d e g = ap (λ u. u && b) e ∙ ap (λ u. c && u) g

pub or_same : (a b c d : Bool) → a ≡ c → b ≡ d → (a || b) ≡ (c || d)
or_same a b c d e g = ap (λ u. u || b) e ∙ ap (λ u. c || u) g

pub any_same : {X : Type 0} (f g : X → Bool) → ((x : X) → f x ≡ g x) → (xs : List X) → list_any f xs ≡ list_any g xs
any_same f g e [] = refl
any_same f g e (x ∷ xs) = or_same _ _ _ _ (e x) (any_same f g e xs)

any_range : (n : ℕ) (f g : ℕ → Bool) (m d : ℕ) → m + d ≤ n → ((k : ℕ) → k < n → f k ≡ g k)
    → list_any f (range_with_len m d) ≡ list_any g (range_with_len m d)
any_range n f g m zero low same = refl
any_range n f g m (suc d) low same =
    or_same _ _ _ _ (same m (omega (arith, low))) (any_range n f g (m + 1) d (omega (arith, low)) same)

-- tests of the numbers between two below n, where the tests agree below n
pub any_between_same : (n : ℕ) (f g : ℕ → Bool) (i j : ℕ) → i < n → j ≤ n → ((k : ℕ) → k < n → f k ≡ g k)
    → list_any f (between i j) ≡ list_any g (between i j)
any_between_same n f g i j low high same = any_range n f g (i + 1) (j - (i + 1)) (omega (arith, low, high)) same

module _ (us ss : List Step) (n : ℕ) (each : (k : ℕ) → k < n → bare (instr_at us k) ≡ bare (instr_at ss k)) where
  roles_there : (k : ℕ) → k < n → roles_of (instr_at us k) ≡ roles_of (instr_at ss k)
  roles_there k low = same_of_both roles_of (λ o a b t. refl) (λ t. refl) (instr_at us k) (instr_at ss k) (each k low)

  lr_there : (k : ℕ) → k < n → is_lr (instr_at us k) ≡ is_lr (instr_at ss k)
  lr_there k low = same_of_both is_lr (λ o a b t. refl) (λ t. refl) (instr_at us k) (instr_at ss k) (each k low)

  sc_there : (k : ℕ) → k < n → is_sc (instr_at us k) ≡ is_sc (instr_at ss k)
  sc_there k low = same_of_both is_sc (λ o a b t. refl) (λ t. refl) (instr_at us k) (instr_at ss k) (each k low)

  conditional_there : (k : ℕ) → k < n → is_conditional (instr_at us k) ≡ is_conditional (instr_at ss k)
  conditional_there k low =
      same_of_both is_conditional (λ o a b t. refl) (λ t. refl) (instr_at us k) (instr_at ss k) (each k low)

  writes_there : (register : Option ℕ) (k : ℕ) → k < n → writes us k register ≡ writes ss k register
  writes_there register k low = ap (λ r. is_same r.dest register) (roles_there k low)

  -- what is tested of the sources of a step
  sources_there : (f g : Option ℕ → Bool) → ((o : Option ℕ) → f o ≡ g o) → (k : ℕ) → k < n
      → list_any f (sources_of (instr_at us k)) ≡ list_any g (sources_of (instr_at ss k))
  sources_there f g same k low =
      ap (λ r. list_any f r.sources) (roles_there k low) ∙ any_same f g same (sources_of (instr_at ss k))

  -- a step between that carries on what it depends on
  abbrev carried : List Step → (d i j : ℕ) → Option ℕ → ℕ → Bool
  carried steps d i j register m =
      carries_of (instr_at steps m) && list_any (depends_within d steps i m) (sources_of (instr_at steps m))
      && depends_within d steps m j register

  within : (d i j : ℕ) (register : Option ℕ) → i < n → j ≤ n
      → depends_within d us i j register ≡ depends_within d ss i j register
  within zero i j register low high = refl
  within (suc d) i j register low high =
      let written = any_between_same n (λ m. writes us m register) (λ m. writes ss m register) i j low high (writes_there register) in
      let through = any_between_same n (carried us d i j register) (carried ss d i j register) i j low high
      (λ m less. and_same _ _ _ _ (and_same _ _ _ _ (ap (λ r. r.carries) (roles_there m less))
      (sources_there (depends_within d us i m) (depends_within d ss i m) (λ o. within d i m o low (omega (arith, less))) m less))
      (within d m j register less high)) in
      or_same _ _ _ _ (and_same _ _ _ _ (writes_there register i low) (ap not written)) through

  depends_there : (i j : ℕ) (register : Option ℕ) → i < n → j ≤ n → depends us i j register ≡ depends ss i j register
  depends_there i j register low high = ap (λ c. nat_lt i j && c) (within (j - i) i j register low high)

  pub address_there : (i j : ℕ) → i < n → j < n → address_depends us i j ≡ address_depends ss i j
  address_there i j low high =
      ap (λ r. depends us i j r.address) (roles_there j high)
      ∙ depends_there i j (address_of (instr_at ss j)) low (omega (arith, high))

  pub data_there : (i j : ℕ) → i < n → j < n → data_depends us i j ≡ data_depends ss i j
  data_there i j low high =
      ap (λ r. depends us i j r.«data») (roles_there j high)
      ∙ depends_there i j (data_of (instr_at ss j)) low (omega (arith, high))

  pub control_there : (i j : ℕ) → i < n → j < n → control_depends us i j ≡ control_depends ss i j
  control_there i j low high =
      any_between_same n (λ m. is_conditional (instr_at us m) && list_any (depends us i m) (sources_of (instr_at us m)))
      (λ m. is_conditional (instr_at ss m) && list_any (depends ss i m) (sources_of (instr_at ss m))) i j low (omega (arith, high))
      (λ m less. and_same _ _ _ _ (conditional_there m less)
      (sources_there (depends us i m) (depends ss i m) (λ o. depends_there i m o low (omega (arith, less))) m less))

  pub address_between_there : (i j : ℕ) → i < n → j < n
      → list_any (address_depends us i) (between i j) ≡ list_any (address_depends ss i) (between i j)
  address_between_there i j low high =
      any_between_same n (address_depends us i) (address_depends ss i) i j low (omega (arith, high)) (λ m less. address_there i m low less)

  pub paired_there : (i j : ℕ) → i < n → j < n → are_paired us i j ≡ are_paired ss i j
  paired_there i j low high =
      let others = any_between_same n (λ k. is_lr (instr_at us k) || is_sc (instr_at us k))
      (λ k. is_lr (instr_at ss k) || is_sc (instr_at ss k)) i j low (omega (arith, high))
      (λ k less. or_same _ _ _ _ (lr_there k less) (sc_there k less)) in
      and_same _ _ _ _ (and_same _ _ _ _ (ap (λ c. nat_lt i j && c) (lr_there i low)) (sc_there j high)) (ap not others)
