-- What an instruction does with registers, where two states of a hart have the same words in those that it reads.
use Rattle.std.proofs.Common.{◌≡◌, ◌⊎◌, ℕ, ◌+◌, List, [], ◌∷◌, Bool, true, false, Option, Some, None, if◌then◌else◌, refl, sym, ap, subst, ◌∙◌, inl, inr}
use Rattle.std.specs.Prelude.{unwrap_or}
use Rattle.std.specs.List.{list_any}
use Rattle.std.proofs.lemmas.Bool.{cases_eq, eq-eqb, ne_eqb, or_cases, or_left, or_right, false≢true}
use Rattle.fs_instr.specs.declared.instr.Instr.{Instr}
use Rattle.fs_instr.specs.declared.instr.Instr.TheVariants.{Register, Immediate, Shift, Lui, Li, Lw, Sw, Lr, Sc, Amo, Branch, Jump, Fence, FenceTso, FenceI}
use Rattle.fs_instr.specs.Roles.{named, dest_of, sources_of, address_of, data_of}
use Rattle.fs_model.specs.Instructions.{word_of, add, computed, computed_with, shifted, combined, does_branch, read, address_in, stored_in, result_in, next_after}
use Rattle.fs_model.specs.Operations.{is_same}

-- ---- sources

-- the register is one of these
abbrev pub IsIn : List (Option ℕ) → Option ℕ → Type 0
IsIn [] register = ⊥
IsIn (r ∷ rs) register = (r ≡ register) ⊎ IsIn rs register

pub has_from : (f : Option ℕ → Bool) (rs : List (Option ℕ)) → list_any f rs ≡ true
    → (p : Option ℕ) × IsIn rs p × (f p ≡ true)
has_from f [] h = absurd (false≢true h)
has_from f (r ∷ rs) h = elim (or_cases (f r) (list_any f rs) h) [
  | inl e ↦ (r, inl refl, e)
  | inr later ↦ (let p = has_from f rs later in (p.0, inr p.1, p.2))
]

pub has_to : (f : Option ℕ → Bool) (rs : List (Option ℕ)) (p : Option ℕ) → IsIn rs p → f p ≡ true → list_any f rs ≡ true
has_to f [] p h e = absurd h
has_to f (r ∷ rs) p (inl here) e = or_left (f r) _ (subst (λ (x : Option ℕ). f x ≡ true) (sym here) e)
has_to f (r ∷ rs) p (inr later) e = or_right (f r) _ (has_to f rs p later e)

-- it has no address, or that is one of its sources
pub address_is_source : (i : Instr) → (address_of i ≡ None) ⊎ IsIn (sources_of i) (address_of i)
address_is_source (Register op rd first second) = inl refl
address_is_source (Immediate op rd first immediate) = inl refl
address_is_source (Shift op rd first amount) = inl refl
address_is_source (Lui rd upper) = inl refl
address_is_source (Li rd word) = inl refl
address_is_source (Lw ann rd base offset) = inr (inl refl)
address_is_source (Sw ann value base offset) = inr (inl refl)
address_is_source (Lr ann rd base) = inr (inl refl)
address_is_source (Sc ann rd value base) = inr (inl refl)
address_is_source (Amo op ann rd value base) = inr (inl refl)
address_is_source (Branch op first second target) = inl refl
address_is_source (Jump target) = inl refl
address_is_source (Fence before after) = inl refl
address_is_source FenceTso = inl refl
address_is_source FenceI = inl refl

pub data_is_source : (i : Instr) → (data_of i ≡ None) ⊎ IsIn (sources_of i) (data_of i)
data_is_source (Register op rd first second) = inl refl
data_is_source (Immediate op rd first immediate) = inl refl
data_is_source (Shift op rd first amount) = inl refl
data_is_source (Lui rd upper) = inl refl
data_is_source (Li rd word) = inl refl
data_is_source (Lw ann rd base offset) = inl refl
data_is_source (Sw ann value base offset) = inr (inr (inl refl))
data_is_source (Lr ann rd base) = inl refl
data_is_source (Sc ann rd value base) = inr (inr (inl refl))
data_is_source (Amo op ann rd value base) = inr (inr (inl refl))
data_is_source (Branch op first second target) = inl refl
data_is_source (Jump target) = inl refl
data_is_source (Fence before after) = inl refl
data_is_source FenceTso = inl refl
data_is_source FenceI = inl refl

-- ---- x0

pub named_cases : (r : ℕ) → (r ≡ 0) ⊎ (named r ≡ Some r)
named_cases r = elim (cases_eq r 0) [
  | inl z ↦ inl z
  | inr ne ↦ inr (ap (λ b. if b then None else Some r) (ne_eqb r 0 ne))
]

named_not_zero : (r : ℕ) → is_same (named r) (Some 0) ≡ false
named_not_zero r = elim (cases_eq r 0) [
  | inl z ↦ ap (λ b. is_same (if b then None else Some r) (Some 0)) (eq-eqb r 0 z)
  | inr ne ↦ ap (λ b. is_same (if b then None else Some r) (Some 0)) (ne_eqb r 0 ne) ∙ ne_eqb r 0 ne
]

-- no instruction writes it
pub dest_not_zero : (i : Instr) → is_same (dest_of i) (Some 0) ≡ false
dest_not_zero (Register op rd first second) = named_not_zero rd
dest_not_zero (Immediate op rd first immediate) = named_not_zero rd
dest_not_zero (Shift op rd first amount) = named_not_zero rd
dest_not_zero (Lui rd upper) = named_not_zero rd
dest_not_zero (Li rd word) = named_not_zero rd
dest_not_zero (Lw ann rd base offset) = named_not_zero rd
dest_not_zero (Sw ann value base offset) = refl
dest_not_zero (Lr ann rd base) = named_not_zero rd
dest_not_zero (Sc ann rd value base) = named_not_zero rd
dest_not_zero (Amo op ann rd value base) = named_not_zero rd
dest_not_zero (Branch op first second target) = refl
dest_not_zero (Jump target) = refl
dest_not_zero (Fence before after) = refl
dest_not_zero FenceTso = refl
dest_not_zero FenceI = refl

-- ---- the same of two lists of registers

-- the registers that the instruction reads, x0 too, have the same words
abbrev pub ReadAlike : List ℕ → List ℕ → Instr → Type 0
ReadAlike x y i = (r : ℕ) → IsIn (sources_of i) (named r) → read x r ≡ read y r

pub result_same : (x y : List ℕ) (loaded stored : Option ℕ) (i : Instr) → ReadAlike x y i
    → result_in x loaded stored i ≡ result_in y loaded stored i
result_same x y loaded stored (Register op rd first second) f =
    ap (λ v. computed op v (read x second)) (f first (inl refl))
    ∙ ap (λ v. computed op (read y first) v) (f second (inr (inl refl)))
result_same x y loaded stored (Immediate op rd first immediate) f =
    ap (λ v. computed_with op v (word_of immediate)) (f first (inl refl))
result_same x y loaded stored (Shift op rd first amount) f = ap (λ v. shifted op v amount) (f first (inl refl))
result_same x y loaded stored (Lui rd upper) f = refl
result_same x y loaded stored (Li rd word) f = refl
result_same x y loaded stored (Lw ann rd base offset) f = refl
result_same x y loaded stored (Sw ann value base offset) f = refl
result_same x y loaded stored (Lr ann rd base) f = refl
result_same x y loaded stored (Sc ann rd value base) f = refl
result_same x y loaded stored (Amo op ann rd value base) f = refl
result_same x y loaded stored (Branch op first second target) f = refl
result_same x y loaded stored (Jump target) f = refl
result_same x y loaded stored (Fence before after) f = refl
result_same x y loaded stored FenceTso f = refl
result_same x y loaded stored FenceI f = refl

pub address_same : (x y : List ℕ) (i : Instr) → ReadAlike x y i → address_in x i ≡ address_in y i
address_same x y (Register op rd first second) f = refl
address_same x y (Immediate op rd first immediate) f = refl
address_same x y (Shift op rd first amount) f = refl
address_same x y (Lui rd upper) f = refl
address_same x y (Li rd word) f = refl
address_same x y (Lw ann rd base offset) f = ap (λ v. Some (add v (word_of offset))) (f base (inl refl))
address_same x y (Sw ann value base offset) f = ap (λ v. Some (add v (word_of offset))) (f base (inl refl))
address_same x y (Lr ann rd base) f = ap (λ v. Some v) (f base (inl refl))
address_same x y (Sc ann rd value base) f = ap (λ v. Some v) (f base (inl refl))
address_same x y (Amo op ann rd value base) f = ap (λ v. Some v) (f base (inl refl))
address_same x y (Branch op first second target) f = refl
address_same x y (Jump target) f = refl
address_same x y (Fence before after) f = refl
address_same x y FenceTso f = refl
address_same x y FenceI f = refl

pub stored_same : (x y : List ℕ) (loaded : Option ℕ) (i : Instr) → ReadAlike x y i
    → stored_in x loaded i ≡ stored_in y loaded i
stored_same x y loaded (Register op rd first second) f = refl
stored_same x y loaded (Immediate op rd first immediate) f = refl
stored_same x y loaded (Shift op rd first amount) f = refl
stored_same x y loaded (Lui rd upper) f = refl
stored_same x y loaded (Li rd word) f = refl
stored_same x y loaded (Lw ann rd base offset) f = refl
stored_same x y loaded (Sw ann value base offset) f = ap (λ v. Some v) (f value (inr (inl refl)))
stored_same x y loaded (Lr ann rd base) f = refl
stored_same x y loaded (Sc ann rd value base) f = ap (λ v. Some v) (f value (inr (inl refl)))
stored_same x y loaded (Amo op ann rd value base) f =
    ap (λ v. Some (combined op (unwrap_or loaded 0) v)) (f value (inr (inl refl)))
stored_same x y loaded (Branch op first second target) f = refl
stored_same x y loaded (Jump target) f = refl
stored_same x y loaded (Fence before after) f = refl
stored_same x y loaded FenceTso f = refl
stored_same x y loaded FenceI f = refl

pub next_same : (x y : List ℕ) (at : ℕ) (i : Instr) → ReadAlike x y i → next_after x at i ≡ next_after y at i
next_same x y at (Register op rd first second) f = refl
next_same x y at (Immediate op rd first immediate) f = refl
next_same x y at (Shift op rd first amount) f = refl
next_same x y at (Lui rd upper) f = refl
next_same x y at (Li rd word) f = refl
next_same x y at (Lw ann rd base offset) f = refl
next_same x y at (Sw ann value base offset) f = refl
next_same x y at (Lr ann rd base) f = refl
next_same x y at (Sc ann rd value base) f = refl
next_same x y at (Amo op ann rd value base) f = refl
next_same x y at (Branch op first second target) f =
    ap (λ v. if does_branch op v (read x second) then target else at + 1) (f first (inl refl))
    ∙ ap (λ v. if does_branch op (read y first) v then target else at + 1) (f second (inr (inl refl)))
next_same x y at (Jump target) f = refl
next_same x y at (Fence before after) f = refl
next_same x y at FenceTso f = refl
next_same x y at FenceI f = refl
