-- Two states of a hart with 64 bits that agree on what doesn't depend on the steps that aren't kept.
use Rattle.std.proofs.Common.{◌≡◌, ◌==◌, ℕ, zero, suc, ◌+◌, List, [], ◌∷◌, length, get_or, set, Bool, true, false, Option, Some, None, is_some, if◌then◌else◌, refl, sym, ap, subst, ◌∙◌, inl, inr, arith}
use Rattle.std.specs.Prelude.{unwrap_or}
use Rattle.std.proofs.lemmas.Bool.{cases_eq, eq-eqb, ne_eqb, true_from_ne_false}
use Rattle.std.proofs.lemmas.List.{get_or-set_other, length-set}
use Rattle.fs_instr.specs.declared.instr.Instr.{Instr}
use Rattle.fs_instr.specs.declared.instr.Instr.TheVariants.{Register, Immediate, Shift, Lui, Li, Lw, Sw, Lr, Sc, Amo, Branch, Jump, Fence, FenceTso, FenceI}
use Rattle.fs_instr.specs.Registers.{named}
use Rattle.fs_instr.specs.Instructions.{dest_of, sources_of, address_of, data_of, carries_of, is_conditional}
use Rattle.fs_model.specs.declared.hart.Hart.{Hart}
use Rattle.fs_model.specs.declared.step.Step.{Step}
use Rattle.fs_model.specs.Numbers.{is_same}
use Rattle.fs_model.specs.Operations.{instr_at}
use Rattle.fs_model.specs.Execute.{read, written}
use Rattle.fs_model.specs.Trace.{paired_after}
use Rattle.fs_model.specs.Dependencies.{writes}
use Rattle.fs_deps.proofs.Chains.{IsIn, Reaches, depends_from, depends_to, write_itself, write_carries, other_keeps}
use Rattle.fs_values.proofs.Clean.{SameAt, Clean, Agree, read_same, paired_same}
use Rattle.fs_app_plain.specs.Instructions64.{doubleword_of, add, computed, computed_with, shifted, combined, does_branch, address_in, stored_in, result_in, next_after}
use Rattle.fs_app_plain.specs.Wide.{executed, after_step}

-- ---- the same of two lists of registers, where the registers that are read are the same

pub result_same : (x y : List ℕ) (lo mo st tt' : Option ℕ) (i : Instr)
    → (carries_of i ≡ true → SameAt x y (sources_of i))
    → lo ≡ mo → is_some st ≡ is_some tt' → result_in x lo st i ≡ result_in y mo tt' i
result_same x y lo mo st tu (Register op rd first second) f l s =
    ap (λ v. computed op v (read x second)) (f refl first (inl refl))
    ∙ ap (λ v. computed op (read y first) v) (f refl second (inr (inl refl)))
result_same x y lo mo st tu (Immediate op rd first immediate) f l s =
    ap (λ v. computed_with op v (doubleword_of immediate)) (f refl first (inl refl))
result_same x y lo mo st tu (Shift op rd first amount) f l s = ap (λ v. shifted op v amount) (f refl first (inl refl))
result_same x y lo mo st tu (Lui rd upper) f l s = refl
result_same x y lo mo st tu (Li rd word) f l s = refl
result_same x y lo mo st tu (Lw ann rd base offset) f l s = ap (λ o. unwrap_or o 0) l
result_same x y lo mo st tu (Sw ann value base offset) f l s = refl
result_same x y lo mo st tu (Lr ann rd base) f l s = ap (λ o. unwrap_or o 0) l
result_same x y lo mo st tu (Sc ann rd value base) f l s = ap (λ b. if b then 0 else 1) s
result_same x y lo mo st tu (Amo op ann rd value base) f l s = ap (λ o. unwrap_or o 0) l
result_same x y lo mo st tu (Branch op first second target) f l s = refl
result_same x y lo mo st tu (Jump target) f l s = refl
result_same x y lo mo st tu (Fence before after) f l s = refl
result_same x y lo mo st tu FenceTso f l s = refl
result_same x y lo mo st tu FenceI f l s = refl

pub address_same : (x y : List ℕ) (i : Instr) → SameAt x y (address_of i ∷ []) → address_in x i ≡ address_in y i
address_same x y (Register op rd first second) f = refl
address_same x y (Immediate op rd first immediate) f = refl
address_same x y (Shift op rd first amount) f = refl
address_same x y (Lui rd upper) f = refl
address_same x y (Li rd word) f = refl
address_same x y (Lw ann rd base offset) f = ap (λ v. Some (add v (doubleword_of offset))) (f base (inl refl))
address_same x y (Sw ann value base offset) f = ap (λ v. Some (add v (doubleword_of offset))) (f base (inl refl))
address_same x y (Lr ann rd base) f = ap (λ v. Some v) (f base (inl refl))
address_same x y (Sc ann rd value base) f = ap (λ v. Some v) (f base (inl refl))
address_same x y (Amo op ann rd value base) f = ap (λ v. Some v) (f base (inl refl))
address_same x y (Branch op first second target) f = refl
address_same x y (Jump target) f = refl
address_same x y (Fence before after) f = refl
address_same x y FenceTso f = refl
address_same x y FenceI f = refl

pub stored_same : (x y : List ℕ) (lo : Option ℕ) (i : Instr) → SameAt x y (data_of i ∷ [])
    → stored_in x lo i ≡ stored_in y lo i
stored_same x y lo (Register op rd first second) f = refl
stored_same x y lo (Immediate op rd first immediate) f = refl
stored_same x y lo (Shift op rd first amount) f = refl
stored_same x y lo (Lui rd upper) f = refl
stored_same x y lo (Li rd word) f = refl
stored_same x y lo (Lw ann rd base offset) f = refl
stored_same x y lo (Sw ann value base offset) f = ap (λ v. Some v) (f value (inl refl))
stored_same x y lo (Lr ann rd base) f = refl
stored_same x y lo (Sc ann rd value base) f = ap (λ v. Some v) (f value (inl refl))
stored_same x y lo (Amo op ann rd value base) f = ap (λ v. Some (combined op (unwrap_or lo 0) v)) (f value (inl refl))
stored_same x y lo (Branch op first second target) f = refl
stored_same x y lo (Jump target) f = refl
stored_same x y lo (Fence before after) f = refl
stored_same x y lo FenceTso f = refl
stored_same x y lo FenceI f = refl

pub next_same : (x y : List ℕ) (at : ℕ) (i : Instr) → (is_conditional i ≡ true → SameAt x y (sources_of i))
    → next_after x at i ≡ next_after y at i
next_same x y at (Register op rd first second) f = refl
next_same x y at (Immediate op rd first immediate) f = refl
next_same x y at (Shift op rd first amount) f = refl
next_same x y at (Lui rd upper) f = refl
next_same x y at (Li rd word) f = refl
next_same x y at (Lw ann rd base offset) f = refl
next_same x y at (Sw ann value base offset) f = refl
next_same x y at (Lr ann rd base) f = refl
next_same x y at (Sc ann rd value base) f = refl
next_same x y at (Amo op ann rd value base) f = refl
next_same x y at (Branch op first second target) f =
    ap (λ v. if does_branch op v (read x second) then target else at + 1) (f refl first (inl refl))
    ∙ ap (λ v. if does_branch op (read y first) v then target else at + 1) (f refl second (inr (inl refl)))
next_same x y at (Jump target) f = refl
next_same x y at (Fence before after) f = refl
next_same x y at FenceTso f = refl
next_same x y at FenceI f = refl

-- ---- a word set at one place

same_set : (x y : List ℕ) (d v w : ℕ) → length x ≡ length y → v ≡ w → get_or (set x d v) d 0 ≡ get_or (set y d w) d 0
same_set [] [] d v w l e = refl
same_set [] (b ∷ y) d v w l e = absurd (omega (arith, l))
same_set (a ∷ x) [] d v w l e = absurd (omega (arith, l))
same_set (a ∷ x) (b ∷ y) zero v w l e = e
same_set (a ∷ x) (b ∷ y) (suc d) v w l e = same_set x y d v w (omega (arith, l)) e

-- ---- states that agree

module _ (steps : List Step) (kept : ℕ → Bool) where
  module _ (i : ℕ) (h g : Hart) (s u : Step) (agree : Agree steps kept i h g) (here : instr_at steps i ≡ s.instr) (instr : u.instr ≡ s.instr)
      (address : s.address ≡ u.address) (stored : is_some s.stored ≡ is_some u.stored)
      (loaded : kept i ≡ true → s.loaded ≡ u.loaded)
      (next : next_after h.registers h.at s.instr ≡ next_after g.registers g.at s.instr) where
    -- a register that the step doesn't write
    clean_before : (r : ℕ) → writes steps i (Some r) ≡ false → Clean steps kept (suc i) (Some r)
        → Clean steps kept i (Some r)
    clean_before r w clean l k d =
        clean l k (depends_to steps l (suc i) (Some r) (other_keeps steps l i (Some r) w (depends_from steps l i (Some r) d)))

    -- one that it writes
    is_kept : (r : ℕ) → writes steps i (Some r) ≡ true → Clean steps kept (suc i) (Some r) → kept i ≡ true
    is_kept r w clean =
        true_from_ne_false (kept i) (λ k. clean i k (depends_to steps i (suc i) (Some r) (write_itself steps i (Some r) w)))

    sources_clean : (r : ℕ) → writes steps i (Some r) ≡ true → Clean steps kept (suc i) (Some r)
        → carries_of s.instr ≡ true
        → SameAt h.registers g.registers (sources_of s.instr)
    sources_clean r w clean c q is_in =
        read_same steps kept i h g agree q (λ l k d.
        let reach : Reaches steps l i = (
          named q,
          subst (λ (j : Instr). IsIn (sources_of j) (named q)) (sym here) is_in,
          depends_from steps l i (named q) d,
        ) in
        clean l k (depends_to steps l (suc i) (Some r) (write_carries steps l i (Some r) w (ap carries_of here ∙ c) reach)))

    words : ℕ → Option ℕ → Type 0
    words r dest = read (written dest (result_in h.registers s.loaded s.stored s.instr) h.registers) r
        ≡ read (written dest (result_in g.registers u.loaded u.stored s.instr) g.registers) r

    registers_more : (dest : Option ℕ) → dest_of s.instr ≡ dest → (r : ℕ) → Clean steps kept (suc i) (Some r)
        → words r dest
    unfolding words
    registers_more None e r clean =
        agree.registers r (clean_before r (ap (λ j. is_same (dest_of j) (Some r)) here ∙ ap (λ o. is_same o (Some r)) e) clean)
    registers_more (Some d) e r clean =
        let written_here : writes steps i (Some r) ≡ (d == r) = ap (λ j. is_same (dest_of j) (Some r)) here ∙ ap (λ o. is_same o (Some r)) e in
        elim (cases_eq d r) [
          | inl same ↦ (
              let w = written_here ∙ eq-eqb d r same in
              let result = result_same h.registers g.registers s.loaded u.loaded s.stored u.stored s.instr (sources_clean r w clean)
              (loaded (is_kept r w clean)) stored in
              let at_d = same_set h.registers g.registers d _ _ agree.size result in
              subst (λ (k : ℕ). read (set h.registers d (result_in h.registers s.loaded s.stored s.instr)) k
              ≡ read (set g.registers d (result_in g.registers u.loaded u.stored s.instr)) k) same at_d)
          | inr ne ↦ (
              let before = agree.registers r (clean_before r (written_here ∙ ne_eqb d r ne) clean) in
              get_or-set_other h.registers d r _ 0 (λ q. ne (sym q)) ∙ before ∙ sym (get_or-set_other g.registers d r _ 0 (λ q. ne (sym q))))
        ]

    size_more : (dest : Option ℕ) (v w : ℕ) → length (written dest v h.registers) ≡ length (written dest w g.registers)
    size_more None v w = agree.size
    size_more (Some d) v w = length-set h.registers d v ∙ agree.size ∙ sym (length-set g.registers d w)

    pub agree_more : Agree steps kept (suc i) (after_step h s) (after_step g u)
    unfolding words
    agree_more = record {
      at = next ∙ ap (λ j. next_after g.registers g.at j) (sym instr);
      paired = paired_same h g s u s.instr agree.paired address ∙ ap (λ j. paired_after g u j) (sym instr);
      size = size_more (dest_of s.instr) _ _ ∙ ap (λ j. length (executed g.registers u.loaded u.stored j)) (sym instr);
      registers = λ r clean. registers_more (dest_of s.instr) refl r clean
          ∙ ap (λ j. read (executed g.registers u.loaded u.stored j) r) (sym instr);
    }
