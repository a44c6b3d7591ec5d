-- The code of a hart from its labels and instructions.
use Rattle.std.proofs.Common.{◌≡◌, ◌⊎◌, inl, inr, ℕ, ◌+◌, ◌<◌, ◌≤◌, zero, suc, List, [], ◌∷◌, length, Option, Some, None, Bool, true, false, nat_lt, refl, sym, ap, ◌∙◌, subst, arith, zero-add}
use Rattle.std.proofs.lemmas.Bool.Decides.{nat_tests}
use Rattle.fs_instr.specs.Instructions.{targeted}
use Rattle.fs_instr.specs.declared.instr.Instr.{Instr}
use Rattle.fs_kinds.specs.declared.fault.Fault.{Fault}
use Rattle.fs_litmus_syntax.specs.Cells.{Item, Label, Instruction}
use Rattle.fs_litmus_syntax.specs.Labels.{StandsAt, here, past_label, past_instruction, IsBranch, this, after_label, after_instruction, IsTwice, again, later, IsStray, IsLabelFault, twice, stray, AreResolved, none, label, plain, branch, IsCode, instruction_count, position, with_position, resolved}
use Rattle.fs_kinds.specs.FaultOrder.{IsFirstOf, earliest}
use Rattle.fs_kinds.proofs.FirstFault.{first_join}
use Rattle.fs_litmus_syntax.proofs.LabelLemmas.{IsPosition, StandsFirst, position_is, GoesWrong, stray_if, wrong_of}

-- ---- a hart without a fault has a code

-- the first of the faults of labels and branches
pub label_first : (hart : List Item) (o r : Option Fault) → IsFirstOf (IsTwice hart) o → IsFirstOf (IsStray hart hart) r → IsFirstOf (IsLabelFault hart) (earliest o r)
label_first hart o r h k = first_join (IsTwice hart) (IsStray hart hart) (IsLabelFault hart) (λ g t. twice t) (λ g s. stray s) (λ g f. either f) o r h k where
  either : {g : Fault} → IsLabelFault hart g → IsTwice hart g ⊎ IsStray hart hart g
  either (twice t) = inl t
  either (stray s) = inr s

-- a branch from n to w goes to this position ahead
pub record GoesTo (hart : List Item) (w : List ℕ) (n : ℕ) : Type 0 where
  pub target : ℕ
  pub at : position w hart ≡ Some target
  pub stands : StandsFirst w hart target
  pub ahead : n < target

goes_ahead : (hart : List Item) (w : List ℕ) (n p : ℕ) (b : Bool) → nat_lt n p ≡ b → position w hart ≡ Some p → StandsFirst w hart p → (GoesWrong hart w n → ⊥) → GoesTo hart w n
goes_ahead hart w n p true e at s h = record { target = p; at = at; stands = s; ahead = grind (arith, nat_tests) }
goes_ahead hart w n p false e at s h = let low : p ≤ n = grind (arith, nat_tests) in absurd (h (inr (p, s.line, s.stands, low)))

goes_at : (hart : List Item) (w : List ℕ) (n : ℕ) (o : Option ℕ) → position w hart ≡ o → IsPosition w hart o → (GoesWrong hart w n → ⊥) → GoesTo hart w n
goes_at hart w n None e s h = absurd (h (inl s))
goes_at hart w n (Some p) e s h = goes_ahead hart w n p (nat_lt n p) refl e s h

code_resolved : (hart : List Item) (n : ℕ) (xs : List Item) → ((w : List ℕ) (m k : ℕ) → IsBranch w m k xs → GoesTo hart w (n + m)) → AreResolved hart n xs (resolved hart xs)
code_resolved hart n [] h = none
code_resolved hart n (Label w k ∷ xs) h = label (code_resolved hart n xs (λ v m j b. h v m j (after_label b)))
code_resolved hart n (Instruction i None k ∷ xs) h =
    plain (code_resolved hart (suc n) xs (λ v m j b. let same : n + suc m ≡ suc n + m = omega arith in subst (λ q. GoesTo hart v q) same (h v (suc m) j (after_instruction b))))
code_resolved hart n (Instruction i (Some w) k ∷ xs) h =
    let go = h w zero k this in
    let ahead : n < go.target = (let low = go.ahead in omega arith) in
    let rest : AreResolved hart (suc n) xs (resolved hart xs) = code_resolved hart (suc n) xs (λ v m j b. let same : n + suc m ≡ suc n + m = omega arith in subst (λ q. GoesTo hart v q) same (h v (suc m) j (after_instruction b))) in
    subst (λ o. AreResolved hart n (Instruction i (Some w) k ∷ xs) (with_position i o ∷ resolved hart xs)) (sym go.at) (branch go.stands.stands ahead rest)

pub code_is : (hart : List Item) → ((f : Fault) → ¬ IsLabelFault hart f) → IsCode hart (resolved hart hart)
code_is hart h = record {
  once = λ f t. h f (twice t);
  resolved = code_resolved hart 0 hart (λ w m k b. subst (λ q. GoesTo hart w q) (sym (zero-add m)) (goes_at hart w m (position w hart) refl (position_is w hart) (λ wrong. h _ (stray (stray_if b wrong)))));
}

pub code_count : (hart xs : List Item) → length (resolved hart xs) ≡ instruction_count xs
code_count hart [] = refl
code_count hart (Label w k ∷ xs) = code_count hart xs
code_count hart (Instruction i t k ∷ xs) = ap (λ n. suc n) (code_count hart xs)

-- ---- and only one, and no fault

-- a label that doesn't stand twice has one position
stands_same : {w v : List ℕ} {p q k j : ℕ} {hart : List Item} → ((f : Fault) → ¬ IsTwice hart f) → StandsAt w p k hart → StandsAt v q j hart → v ≡ w → p ≡ q
stands_same h here here e = refl
stands_same {q = q} {j = j} h (here {xs = xs}) (past_label t) e = absurd (h _ (again (subst (λ u. StandsAt u q j xs) e t)))
stands_same {p = p} {k = k} h (past_label {xs = xs} s) here e = absurd (h _ (again (subst (λ u. StandsAt u p k xs) (sym e) s)))
stands_same h (past_label s) (past_label t) e = stands_same (λ f g. h f (later g)) s t e
stands_same h (past_instruction s) (past_instruction t) e = ap (λ n. suc n) (stands_same (λ f g. h f (later g)) s t e)

stands_once : {w : List ℕ} {p q k j : ℕ} {hart : List Item} → ((f : Fault) → ¬ IsTwice hart f) → StandsAt w p k hart → StandsAt w q j hart → p ≡ q
stands_once h s t = stands_same h s t refl

resolved_only : {hart xs : List Item} {n : ℕ} {a b : List Instr} → ((f : Fault) → ¬ IsTwice hart f) → AreResolved hart n xs a → AreResolved hart n xs b → a ≡ b
resolved_only h none none = refl
resolved_only h (label r) (label s) = resolved_only h r s
resolved_only h (plain {i = i} r) (plain s) = ap (λ l. i ∷ l) (resolved_only h r s)
resolved_only h (branch {p = p} {i = i} {code = a} s l r) (branch {p = q} {code = b} t m u) =
    ap (λ x. targeted x i ∷ a) (stands_once h s t) ∙ ap (λ l. targeted q i ∷ l) (resolved_only h r u)

pub code_only : {hart : List Item} {a b : List Instr} → IsCode hart a → IsCode hart b → a ≡ b
code_only h k = resolved_only h.once h.resolved k.resolved

-- a branch of the code goes ahead
pub record GoesOn (hart : List Item) (w : List ℕ) (n : ℕ) : Type 0 where
  pub target : ℕ
  pub line : ℕ
  pub stands : StandsAt w target line hart
  pub ahead : n < target

goes_on : {hart xs : List Item} {n : ℕ} {a : List Instr} {w : List ℕ} {m k : ℕ} → AreResolved hart n xs a → IsBranch w m k xs → GoesOn hart w (n + m)
goes_on none b = elim b [ ]
goes_on (label r) (after_label b) = goes_on r b
goes_on {hart = hart} {n = n} {w = w} (plain r) (after_instruction {n = m} b) = let same : suc n + m ≡ n + suc m = omega arith in subst (λ q. GoesOn hart w q) same (goes_on r b)
goes_on {n = n} (branch {p = p} {k = k} s l r) this = record { target = p; line = k; stands = s; ahead = omega arith }
goes_on {hart = hart} {n = n} {w = w} (branch s l r) (after_instruction {n = m} b) = let same : suc n + m ≡ n + suc m = omega arith in subst (λ q. GoesOn hart w q) same (goes_on r b)

not_wrong : (hart : List Item) (w : List ℕ) (m : ℕ) → ((f : Fault) → ¬ IsTwice hart f) → GoesOn hart w (0 + m) → GoesWrong hart w m → ⊥
not_wrong hart w m h g (inl missed) = missed g.target g.line g.stands
not_wrong hart w m h g (inr (p, k, s, low)) =
    let same = stands_once h g.stands s in
    let ahead = g.ahead in
    omega arith

pub code_clean : {hart : List Item} {a : List Instr} {f : Fault} → IsCode hart a → IsLabelFault hart f → ⊥
code_clean {f = f} h (twice t) = h.once f t
code_clean {hart = hart} h (stray s) =
    let wrong = wrong_of s in
    not_wrong hart wrong.0 wrong.1 h.once (goes_on h.resolved wrong.3) wrong.4
