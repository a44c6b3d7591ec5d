-- Labels and branches of a hart.
use Rattle.std.proofs.Common.{◌≡◌, ◌⊎◌, inl, inr, ℕ, ◌+◌, ◌<◌, ◌≤◌, zero, suc, List, [], ◌∷◌, ◌++◌, length, take, get_or, is_some, Option, Some, None, option_map, Bool, true, false, cond, refl, sym, ap, ◌∙◌, subst, arith, add-one}
use Rattle.std.proofs.Math.Seq.{take-suc}
use Rattle.std.proofs.lemmas.List.{map-append, take_all}
use Rattle.std.proofs.lemmas.Slice.Eq.{bytes_eq-Decides}
use Rattle.std.proofs.lemmas.Bool.Decides.{nat_tests}
use Rattle.std.specs.Str.{bytes_eq}
use Rattle.fs_instr.specs.declared.instr.Instr.{Instr}
use Rattle.fs_kinds.specs.declared.fault.Fault.{Fault}
use Rattle.fs_kinds.specs.declared.fault.Fault.TheVariants.{BadLabel}
use Rattle.fs_kinds.specs.FaultOrder.{IsFirstOf, earliest}
use Rattle.fs_kinds.proofs.FirstFault.{first_join, this_first, same_first}
use Rattle.fs_litmus_syntax.specs.declared.listing.Mark.{Mark}
use Rattle.fs_litmus_syntax.specs.inner.Listings.{item_at, marked}
use Rattle.fs_litmus_syntax.specs.Cells.{Item, Label, Instruction}
use Rattle.fs_litmus_syntax.specs.Labels.{StandsAt, IsBranch, IsTwice, IsStray, instruction_count, position, is_ahead, with_label, resolved, stray_of, number_after}
use Rattle.fs_litmus_syntax.specs.Labels.{here, past_label, past_instruction, this, after_label, after_instruction, again, later, missing, behind}

-- one mark more
pub items_more : (code : List Instr) (xs : List Mark) (i : ℕ) (d x : Mark) → i < length xs → get_or xs i d ≡ x → marked code (take (i + 1) xs) ≡ marked code (take i xs) ++ item_at code x ∷ []
items_more code xs i d x h e =
    let more : take (i + 1) xs ≡ take i xs ++ get_or xs i d ∷ [] = rw add-one (take-suc xs i d h) in
    ap (λ l. marked code l) more ∙ map-append (λ m. item_at code m) (take i xs) (get_or xs i d ∷ []) ∙ ap (λ y. marked code (take i xs) ++ item_at code y ∷ []) e

-- all marks
pub marked_whole : (code : List Instr) (marks seen : List Mark) (i : ℕ) → seen ≡ marks → length seen ≤ i → marked code (take i seen) ≡ marked code marks
marked_whole code marks seen i e h = ap (λ l. marked code l) (take_all i seen h ∙ e)

-- ---- one label or one instruction more

pub count-label : (xs : List Item) (w : List ℕ) (k : ℕ) → instruction_count (xs ++ Label w k ∷ []) ≡ instruction_count xs
count-label [] w k = refl
count-label (Label v j ∷ xs) w k = count-label xs w k
count-label (Instruction i t j ∷ xs) w k = ap (λ n. suc n) (count-label xs w k)

pub count-instruction : (xs : List Item) (i : Instr) (t : Option (List ℕ)) (k : ℕ) → instruction_count (xs ++ Instruction i t k ∷ []) ≡ suc (instruction_count xs)
count-instruction [] i t k = refl
count-instruction (Label v j ∷ xs) i t k = count-instruction xs i t k
count-instruction (Instruction h s j ∷ xs) i t k = ap (λ n. suc n) (count-instruction xs i t k)

pub position-instruction : (w : List ℕ) (xs : List Item) (i : Instr) (t : Option (List ℕ)) (k : ℕ) → position w (xs ++ Instruction i t k ∷ []) ≡ position w xs
position-instruction w [] i t k = refl
position-instruction w (Label v j ∷ xs) i t k = ap (λ p. cond (bytes_eq w v) (Some 0) p) (position-instruction w xs i t k)
position-instruction w (Instruction h s j ∷ xs) i t k = ap (λ p. option_map (λ n. suc n) p) (position-instruction w xs i t k)

-- the first of two positions
abbrev pub first_or : Option ℕ → Option ℕ → Option ℕ
first_or None q = q
first_or (Some p) q = Some p

first_or_cond : (b c : Bool) (p : Option ℕ) (n : ℕ) → cond b (Some 0) (first_or p (cond c (Some n) None)) ≡ first_or (cond b (Some 0) p) (cond c (Some n) None)
first_or_cond true c p n = refl
first_or_cond false c p n = refl

first_or_suc : (p : Option ℕ) (c : Bool) (n : ℕ) → option_map (λ m. suc m) (first_or p (cond c (Some n) None)) ≡ first_or (option_map (λ m. suc m) p) (cond c (Some (suc n)) None)
first_or_suc (Some p) c n = refl
first_or_suc None true n = refl
first_or_suc None false n = refl

pub position-label : (w : List ℕ) (xs : List Item) (v : List ℕ) (k : ℕ) → position w (xs ++ Label v k ∷ []) ≡ first_or (position w xs) (cond (bytes_eq w v) (Some (instruction_count xs)) None)
position-label w [] v k = refl
position-label w (Label u j ∷ xs) v k =
    ap (λ p. cond (bytes_eq w u) (Some 0) p) (position-label w xs v k) ∙ first_or_cond (bytes_eq w u) (bytes_eq w v) (position w xs) (instruction_count xs)
position-label w (Instruction i t j ∷ xs) v k =
    ap (λ p. option_map (λ n. suc n) p) (position-label w xs v k) ∙ first_or_suc (position w xs) (bytes_eq w v) (instruction_count xs)

pub resolved-more : (hart xs ys : List Item) → resolved hart (xs ++ ys) ≡ resolved hart xs ++ resolved hart ys
resolved-more hart [] ys = refl
resolved-more hart (Label w k ∷ xs) ys = resolved-more hart xs ys
resolved-more hart (Instruction i t k ∷ xs) ys = ap (λ l. with_label hart i t ∷ l) (resolved-more hart xs ys)

-- ---- positions

not_true : (b : Bool) → (b ≡ true → ⊥) → b ≡ false
not_true true h = absurd (h refl)
not_true false h = refl

bytes_same : (w v : List ℕ) → bytes_eq w v ≡ true → w ≡ v
bytes_same w v h = (bytes_eq-Decides w v).0 h

bytes_refl : (w : List ℕ) → bytes_eq w w ≡ true
bytes_refl w = (bytes_eq-Decides w w).1 refl

-- a label's position: where it stands first
pub record StandsFirst (w : List ℕ) (xs : List Item) (p : ℕ) : Type 0 where
  pub line : ℕ
  pub stands : StandsAt w p line xs
  pub first : (q k : ℕ) → StandsAt w q k xs → p ≤ q

abbrev pub IsPosition : List ℕ → List Item → Option ℕ → Type 0
IsPosition w xs None = (p k : ℕ) → ¬ StandsAt w p k xs
IsPosition w xs (Some p) = StandsFirst w xs p

stands_label : {w v : List ℕ} {p k j : ℕ} {xs : List Item} → StandsAt w p k (Label v j ∷ xs) → (w ≡ v) ⊎ StandsAt w p k xs
stands_label here = inl refl
stands_label (past_label h) = inr h

position_label : (w v : List ℕ) (j : ℕ) (xs : List Item) (b : Bool) (o : Option ℕ) → bytes_eq w v ≡ b → IsPosition w xs o → IsPosition w (Label v j ∷ xs) (cond b (Some 0) o)
position_label w v j xs true o e h =
    let same = bytes_same w v e in
    record { line = j; stands = subst (λ u. StandsAt w zero j (Label u j ∷ xs)) same here; first = λ q k s. omega arith }
position_label w v j xs false None e h = λ p k s.
    elim (stands_label s) [ inl same ↦ (let t = bytes_refl w in let f = subst (λ u. bytes_eq w u ≡ false) (sym same) e in cc (t, f)) | inr l ↦ h p k l ]
position_label w v j xs false (Some p) e h =
    record {
      line = h.line;
      stands = past_label h.stands;
      first = λ q k s.
          elim (stands_label s) [ inl same ↦ absurd (let t = bytes_refl w in let f = subst (λ u. bytes_eq w u ≡ false) (sym same) e in cc (t, f)) | inr l ↦ h.first q k l ];
    }

past : {w : List ℕ} {i : Instr} {t : Option (List ℕ)} {j : ℕ} {xs : List Item} (p q k : ℕ) → ((r l : ℕ) → StandsAt w r l xs → p ≤ r) → StandsAt w q k (Instruction i t j ∷ xs) → suc p ≤ q
past p q k h (past_instruction {p = r} s) = let low = h r k s in omega arith

not_past : {w : List ℕ} {i : Instr} {t : Option (List ℕ)} {j : ℕ} {xs : List Item} (q k : ℕ) → ((r l : ℕ) → ¬ StandsAt w r l xs) → StandsAt w q k (Instruction i t j ∷ xs) → ⊥
not_past q k h (past_instruction {p = r} s) = h r k s

position_instruction : (w : List ℕ) (i : Instr) (t : Option (List ℕ)) (j : ℕ) (xs : List Item) (o : Option ℕ) → IsPosition w xs o → IsPosition w (Instruction i t j ∷ xs) (option_map (λ p. suc p) o)
position_instruction w i t j xs None h = λ p k s. not_past p k h s
position_instruction w i t j xs (Some p) h =
    record { line = h.line; stands = past_instruction h.stands; first = λ q k s. past p q k h.first s }

no_label : (w : List ℕ) (p k : ℕ) → StandsAt w p k [] → ⊥
no_label w p k h = elim h [ ]

pub position_is : (w : List ℕ) (xs : List Item) → IsPosition w xs (position w xs)
position_is w [] = λ p k h. no_label w p k h
position_is w (Label v j ∷ xs) = position_label w v j xs (bytes_eq w v) (position w xs) refl (position_is w xs)
position_is w (Instruction i t j ∷ xs) = position_instruction w i t j xs (position w xs) (position_is w xs)

-- ---- one item more: labels

pub stands_still : {w : List ℕ} {p k : ℕ} {xs : List Item} (ys : List Item) → StandsAt w p k xs → StandsAt w p k (xs ++ ys)
stands_still ys here = here
stands_still ys (past_label h) = past_label (stands_still ys h)
stands_still ys (past_instruction h) = past_instruction (stands_still ys h)

stands_last : (w : List ℕ) (k : ℕ) (xs : List Item) → StandsAt w (instruction_count xs) k (xs ++ Label w k ∷ [])
stands_last w k [] = here
stands_last w k (Label v j ∷ xs) = past_label (stands_last w k xs)
stands_last w k (Instruction i t j ∷ xs) = past_instruction (stands_last w k xs)

stands_before : {w v : List ℕ} {p k j : ℕ} (xs : List Item) → StandsAt w p k (xs ++ Label v j ∷ []) → StandsAt w p k xs ⊎ ((w ≡ v) × (k ≡ j))
stands_before [] here = inr (refl, refl)
stands_before [] (past_label h) = elim h [ ]
stands_before (Label u l ∷ xs) here = inl here
stands_before (Label u l ∷ xs) (past_label h) = elim (stands_before xs h) [ inl s ↦ inl (past_label s) | inr e ↦ inr e ]
stands_before (Instruction i t l ∷ xs) (past_instruction h) = elim (stands_before xs h) [ inl s ↦ inl (past_instruction s) | inr e ↦ inr e ]

stands_without : {w : List ℕ} {p k : ℕ} (i : Instr) (t : Option (List ℕ)) (j : ℕ) (xs : List Item) → StandsAt w p k (xs ++ Instruction i t j ∷ []) → StandsAt w p k xs
stands_without i t j [] (past_instruction h) = elim h [ ]
stands_without i t j (Label u l ∷ xs) here = here
stands_without i t j (Label u l ∷ xs) (past_label h) = past_label (stands_without i t j xs h)
stands_without i t j (Instruction i2 t2 l ∷ xs) (past_instruction h) = past_instruction (stands_without i t j xs h)

pub twice_still : {xs : List Item} {f : Fault} (ys : List Item) → IsTwice xs f → IsTwice (xs ++ ys) f
twice_still ys (again h) = again (stands_still ys h)
twice_still ys (later h) = later (twice_still ys h)

pub twice_new : {w : List ℕ} {p j : ℕ} {xs : List Item} (k : ℕ) → StandsAt w p j xs → IsTwice (xs ++ Label w k ∷ []) (BadLabel k)
twice_new {w = w} k (here {xs = xs}) = again (stands_last w k xs)
twice_new k (past_label h) = later (twice_new k h)
twice_new k (past_instruction h) = later (twice_new k h)

-- the label stands a second time
pub record IsAgain (w : List ℕ) (k : ℕ) (xs : List Item) (f : Fault) : Type 0 where
  pub fault : f ≡ BadLabel k
  pub position : ℕ
  pub line : ℕ
  pub stands : StandsAt w position line xs

again_label : {w v : List ℕ} {k j : ℕ} {f : Fault} {xs : List Item} → IsTwice xs f ⊎ IsAgain w k xs f → IsTwice (Label v j ∷ xs) f ⊎ IsAgain w k (Label v j ∷ xs) f
again_label (inl h) = inl (later h)
again_label (inr h) = inr (record { fault = h.fault; position = h.position; line = h.line; stands = past_label h.stands })

again_instruction : {w : List ℕ} {i : Instr} {t : Option (List ℕ)} {k j : ℕ} {f : Fault} {xs : List Item} → IsTwice xs f ⊎ IsAgain w k xs f → IsTwice (Instruction i t j ∷ xs) f ⊎ IsAgain w k (Instruction i t j ∷ xs) f
again_instruction (inl h) = inl (later h)
again_instruction (inr h) = inr (record { fault = h.fault; position = suc h.position; line = h.line; stands = past_instruction h.stands })

pub twice_before : {w : List ℕ} {k : ℕ} {f : Fault} (xs : List Item) → IsTwice (xs ++ Label w k ∷ []) f → IsTwice xs f ⊎ IsAgain w k xs f
twice_before [] (again h) = elim h [ ]
twice_before [] (later h) = elim h [ ]
twice_before {w = w} {k = k} (Label v j ∷ xs) (again {line = line} h) = elim (stands_before xs h) [ inl s ↦ inl (again s) | inr e ↦ inr (record { fault = ap BadLabel e.1; position = zero; line = j; stands = subst (λ u. StandsAt w zero j (Label u j ∷ xs)) (sym e.0) here }) ]
twice_before (Label v j ∷ xs) (later h) = again_label (twice_before xs h)
twice_before (Instruction i t j ∷ xs) (later h) = again_instruction (twice_before xs h)

pub twice_without : {f : Fault} (i : Instr) (t : Option (List ℕ)) (k : ℕ) (xs : List Item) → IsTwice (xs ++ Instruction i t k ∷ []) f → IsTwice xs f
twice_without i t k [] (later h) = elim h [ ]
twice_without i t k (Label v j ∷ xs) (again h) = again (stands_without i t k xs h)
twice_without i t k (x ∷ xs) (later h) = later (twice_without i t k xs h)

-- ---- one item more: branches

branch_still : {w : List ℕ} {n k : ℕ} {xs : List Item} (ys : List Item) → IsBranch w n k xs → IsBranch w n k (xs ++ ys)
branch_still ys this = this
branch_still ys (after_label h) = after_label (branch_still ys h)
branch_still ys (after_instruction h) = after_instruction (branch_still ys h)

branch_last : (w : List ℕ) (i : Instr) (k : ℕ) (xs : List Item) → IsBranch w (instruction_count xs) k (xs ++ Instruction i (Some w) k ∷ [])
branch_last w i k [] = this
branch_last w i k (Label v j ∷ xs) = after_label (branch_last w i k xs)
branch_last w i k (Instruction h t j ∷ xs) = after_instruction (branch_last w i k xs)

-- the last instruction is this branch
pub record IsLast (w : List ℕ) (n k : ℕ) (t : Option (List ℕ)) (j : ℕ) (xs : List Item) : Type 0 where
  pub target : t ≡ Some w
  pub number : n ≡ instruction_count xs
  pub line : k ≡ j

branch_before : {w : List ℕ} {n k : ℕ} (i : Instr) (t : Option (List ℕ)) (j : ℕ) (xs : List Item) → IsBranch w n k (xs ++ Instruction i t j ∷ []) → IsBranch w n k xs ⊎ IsLast w n k t j xs
branch_before i t j [] this = inr (record { target = refl; number = refl; line = refl })
branch_before i t j [] (after_instruction h) = elim h [ ]
branch_before i t j (Label v l ∷ xs) (after_label h) = elim (branch_before i t j xs h) [ inl b ↦ inl (after_label b) | inr e ↦ inr (record { target = e.target; number = e.number; line = e.line }) ]
branch_before i t j (Instruction i2 t2 l ∷ xs) this = inl this
branch_before i t j (Instruction i2 t2 l ∷ xs) (after_instruction h) = elim (branch_before i t j xs h) [ inl b ↦ inl (after_instruction b) | inr e ↦ inr (record { target = e.target; number = ap (λ n. suc n) e.number; line = e.line }) ]

branch_without : {w : List ℕ} {n k : ℕ} (v : List ℕ) (j : ℕ) (xs : List Item) → IsBranch w n k (xs ++ Label v j ∷ []) → IsBranch w n k xs
branch_without v j [] (after_label h) = elim h [ ]
branch_without v j (Label u l ∷ xs) (after_label h) = after_label (branch_without v j xs h)
branch_without v j (Instruction i t l ∷ xs) this = this
branch_without v j (Instruction i t l ∷ xs) (after_instruction h) = after_instruction (branch_without v j xs h)

-- ---- strays

stray_still : {hart xs : List Item} {f : Fault} (ys : List Item) → IsStray hart xs f → IsStray hart (xs ++ ys) f
stray_still ys (missing b h) = missing (branch_still ys b) h
stray_still ys (behind b s h) = behind (branch_still ys b) s h

stray_without : {hart : List Item} {f : Fault} (v : List ℕ) (j : ℕ) (xs : List Item) → IsStray hart (xs ++ Label v j ∷ []) f → IsStray hart xs f
stray_without v j xs (missing b h) = missing (branch_without v j xs b) h
stray_without v j xs (behind b s h) = behind (branch_without v j xs b) s h

-- a branch from n to w, where its label stands
abbrev pub GoesWrong : List Item → List ℕ → ℕ → Type 0
GoesWrong hart w n = ((p k : ℕ) → ¬ StandsAt w p k hart) ⊎ ((p : ℕ) × (k : ℕ) × StandsAt w p k hart × (p ≤ n))

wrong_if : (hart : List Item) (w : List ℕ) (n : ℕ) (o : Option ℕ) → IsPosition w hart o → is_ahead n o ≡ false → GoesWrong hart w n
wrong_if hart w n None h e = inl h
wrong_if hart w n (Some p) h e =
    let low : p ≤ n = grind (arith, nat_tests) in
    inr (p, h.line, h.stands, low)

right_if : (hart : List Item) (w : List ℕ) (n : ℕ) (o : Option ℕ) → IsPosition w hart o → is_ahead n o ≡ true → GoesWrong hart w n → ⊥
right_if hart w n None h e g = cc
right_if hart w n (Some p) h e (inl missed) = missed p h.line h.stands
right_if hart w n (Some p) h e (inr (q, k, s, low)) =
    let ahead : n < p = grind (arith, nat_tests) in
    let first : p ≤ q = h.first q k s in
    omega arith

pub wrong_of : {hart xs : List Item} {f : Fault} → IsStray hart xs f → (w : List ℕ) × (n : ℕ) × (k : ℕ) × IsBranch w n k xs × GoesWrong hart w n × (f ≡ BadLabel k)
wrong_of (missing {w = w} {n = n} {line = k} b h) = (w, n, k, b, inl h, refl)
wrong_of (behind {w = w} {n = n} {line = k} {p = p} {k = j} b s h) = (w, n, k, b, inr (p, j, s, h), refl)

pub stray_if : {hart xs : List Item} {w : List ℕ} {n k : ℕ} → IsBranch w n k xs → GoesWrong hart w n → IsStray hart xs (BadLabel k)
stray_if b (inl h) = missing b h
stray_if b (inr (p, j, s, h)) = behind b s h

-- whether the last item is a stray branch
abbrev pub stray_at : List Item → List Item → Item → Option Fault
stray_at hart xs x = stray_of (λ w. position w hart) (instruction_count xs) x

stray_new_at : (hart xs : List Item) (i : Instr) (w : List ℕ) (k : ℕ) (b : Bool) (g : Fault) → is_ahead (instruction_count xs) (position w hart) ≡ b → cond b None (Some (BadLabel k)) ≡ Some g → IsStray hart (xs ++ Instruction i (Some w) k ∷ []) g
stray_new_at hart xs i w k true g e f = cc
stray_new_at hart xs i w k false g e f =
    let same : BadLabel k ≡ g = cc in
    subst (λ y. IsStray hart (xs ++ Instruction i (Some w) k ∷ []) y) same (stray_if (branch_last w i k xs) (wrong_if hart w (instruction_count xs) (position w hart) (position_is w hart) e))

pub stray_new : (hart xs : List Item) (x : Item) (g : Fault) → stray_at hart xs x ≡ Some g → IsStray hart (xs ++ x ∷ []) g
stray_new hart xs (Label w k) g e = cc
stray_new hart xs (Instruction i None k) g e = cc
stray_new hart xs (Instruction i (Some w) k) g e = stray_new_at hart xs i w k (is_ahead (instruction_count xs) (position w hart)) g refl e

stray_last : (hart xs : List Item) (w : List ℕ) (k : ℕ) (b : Bool) (f : Fault) → is_ahead (instruction_count xs) (position w hart) ≡ b → GoesWrong hart w (instruction_count xs) → f ≡ BadLabel k → cond b None (Some (BadLabel k)) ≡ Some f
stray_last hart xs w k true f e h same = absurd (right_if hart w (instruction_count xs) (position w hart) (position_is w hart) e h)
stray_last hart xs w k false f e h same = ap Some (sym same)

stray_cases : (hart xs : List Item) (i : Instr) (t : Option (List ℕ)) (k : ℕ) (f : Fault) (w : List ℕ) (n j : ℕ) → IsBranch w n j xs ⊎ IsLast w n j t k xs → GoesWrong hart w n → f ≡ BadLabel j → IsStray hart xs f ⊎ (stray_at hart xs (Instruction i t k) ≡ Some f)
stray_cases hart xs i t k f w n j (inl b) h e = inl (subst (λ y. IsStray hart xs y) (sym e) (stray_if b h))
stray_cases hart xs i None k f w n j (inr b) h e = absurd (let t = b.target in cc t)
stray_cases hart xs i (Some v) k f w n j (inr b) h e =
    let target : v ≡ w = (let t = b.target in cc t) in
    let wrong : GoesWrong hart v (instruction_count xs) = subst (λ m. GoesWrong hart v m) b.number (subst (λ u. GoesWrong hart u n) (sym target) h) in
    inr (stray_last hart xs v k (is_ahead (instruction_count xs) (position v hart)) f refl wrong (e ∙ ap BadLabel b.line))

pub stray_before : (hart xs : List Item) (x : Item) (f : Fault) → IsStray hart (xs ++ x ∷ []) f → IsStray hart xs f ⊎ (stray_at hart xs x ≡ Some f)
stray_before hart xs (Label w k) f h = inl (stray_without w k xs h)
stray_before hart xs (Instruction i t k) f h =
    let s = wrong_of h in
    stray_cases hart xs i t k f s.0 s.1 s.2 (branch_before i t k xs s.3) s.4 s.5

pub stray_kept : {hart xs : List Item} {f : Fault} (x : Item) → IsStray hart xs f → IsStray hart (xs ++ x ∷ []) f
stray_kept x h = stray_still (x ∷ []) h

-- the fault of an item by another account of where labels stand
pub stray_of_same : (g h : List ℕ → Option ℕ) (n : ℕ) (x : Item) → ((w : List ℕ) → g w ≡ h w) → stray_of g n x ≡ stray_of h n x
stray_of_same g h n (Label w k) e = refl
stray_of_same g h n (Instruction i None k) e = refl
stray_of_same g h n (Instruction i (Some w) k) e = ap (λ o. cond (is_ahead n o) None (Some (BadLabel k))) (e w)

pub count_more : (xs : List Item) (x : Item) → instruction_count (xs ++ x ∷ []) ≡ number_after (instruction_count xs) x
count_more xs (Label w k) = count-label xs w k
count_more xs (Instruction i t k) = count-instruction xs i t k ∙ sym (add-one (instruction_count xs))

-- ---- the steps of the loops over the items of a hart

pub after_small : (n i : ℕ) (x : Item) → n ≤ i → number_after n x ≤ i + 1
after_small n i (Label w k) h = omega arith
after_small n i (Instruction j t k) h = omega arith

pub count_step : (code : List Instr) (xs : List Mark) (i : ℕ) (d x : Mark) (n : ℕ) → i < length xs → get_or xs i d ≡ x → n ≡ instruction_count (marked code (take i xs)) → number_after n (item_at code x) ≡ instruction_count (marked code (take (i + 1) xs))
count_step code xs i d x n h at e =
    ap (λ m. number_after m (item_at code x)) e ∙ sym (count_more (marked code (take i xs)) (item_at code x)) ∙ ap (λ l. instruction_count l) (sym (items_more code xs i d x h at))

pub stray_step : (code : List Instr) (hart : List Item) (xs : List Mark) (i : ℕ) (d y : Mark) (n : ℕ) (where_is : List ℕ → Option ℕ) (o : Option Fault) → i < length xs → get_or xs i d ≡ y → n ≡ instruction_count (marked code (take i xs)) → ((w : List ℕ) → where_is w ≡ position w hart) → IsFirstOf (IsStray hart (marked code (take i xs))) o → IsFirstOf (IsStray hart (marked code (take (i + 1) xs))) (earliest o (stray_of where_is n (item_at code y)))
stray_step code hart xs i d y n where_is o h at e same f =
    let seen = marked code (take i xs) in
    let x = item_at code y in
    let found : stray_of where_is n x ≡ stray_at hart seen x = stray_of_same where_is (λ w. position w hart) n x same ∙ ap (λ m. stray_of (λ w. position w hart) m x) e in
    let whole : IsFirstOf (IsStray hart (seen ++ x ∷ [])) (earliest o (stray_at hart seen x)) = first_join (IsStray hart seen) (λ g. stray_at hart seen x ≡ Some g) (IsStray hart (seen ++ x ∷ [])) (λ g k. stray_kept x k) (λ g k. stray_new hart seen x g k) (λ g k. stray_before hart seen x g k) o (stray_at hart seen x) f (this_first (stray_at hart seen x)) in
    subst (λ l. IsFirstOf (IsStray hart l) (earliest o (stray_of where_is n x))) (sym (items_more code xs i d y h at)) (subst (λ r. IsFirstOf (IsStray hart (seen ++ x ∷ [])) (earliest o r)) (sym found) whole)

-- what is known of the labels and instructions of these items: how many instructions, where each label stands first,
-- and the first that stands twice
pub record LabelsRead (xs : List Item) (n : ℕ) (where_is : List ℕ → Option ℕ) (o : Option Fault) : Type 0 where
  pub count : n ≡ instruction_count xs
  pub positions : (w : List ℕ) → where_is w ≡ position w xs
  pub twice : IsFirstOf (IsTwice xs) o

pub carried : {M : Type 0} (find : M → List ℕ → Option ℕ) (xs ys : List Item) (n n2 : ℕ) (m m2 : M) (o o2 : Option Fault) → ys ≡ xs → n2 ≡ n → m2 ≡ m → o2 ≡ o → LabelsRead xs n (find m) o → LabelsRead ys n2 (find m2) o2
carried find xs ys n n2 m m2 o o2 e f g h r =
    record {
      count = f ∙ r.count ∙ ap (λ l. instruction_count l) (sym e);
      positions = λ w. ap (λ k. find k w) g ∙ r.positions w ∙ ap (λ l. position w l) (sym e);
      twice = subst (λ l. IsFirstOf (IsTwice l) o2) (sym e) (subst (λ p. IsFirstOf (IsTwice xs) p) (sym h) r.twice);
    }

first_or_none : (o : Option ℕ) → first_or o None ≡ o
first_or_none None = refl
first_or_none (Some p) = refl

position_present : (w v : List ℕ) (xs : List Item) (k : ℕ) (b : Bool) (o : Option ℕ) → bytes_eq w v ≡ b → position v xs ≡ o → is_some o ≡ true → position w xs ≡ position w (xs ++ Label v k ∷ [])
position_present w v xs k true None e f g = cc
position_present w v xs k true (Some p) e f g =
    let same : w ≡ v = bytes_same w v e in
    let at : position w xs ≡ Some p = ap (λ u. position u xs) same ∙ f in
    at ∙ sym (position-label w xs v k ∙ ap (λ q. first_or q (cond (bytes_eq w v) (Some (instruction_count xs)) None)) at)
position_present w v xs k false o e f g =
    sym (position-label w xs v k ∙ ap (λ b. first_or (position w xs) (cond b (Some (instruction_count xs)) None)) e ∙ first_or_none (position w xs))

bytes_sym : (w v : List ℕ) (b : Bool) → bytes_eq v w ≡ b → bytes_eq w v ≡ b
bytes_sym w v true h = (bytes_eq-Decides w v).1 (sym (bytes_same v w h))
bytes_sym w v false h = not_true (bytes_eq w v) (λ e. let t = (bytes_eq-Decides v w).1 (sym (bytes_same w v e)) in cc (t, h))

position_absent : (w v : List ℕ) (xs : List Item) (k n : ℕ) (b : Bool) → bytes_eq v w ≡ b → position v xs ≡ None → n ≡ instruction_count xs → cond b (Some n) (position w xs) ≡ position w (xs ++ Label v k ∷ [])
position_absent w v xs k n true e f g =
    let same : w ≡ v = sym (bytes_same v w e) in
    let at : position w xs ≡ None = ap (λ u. position u xs) same ∙ f in
    ap Some g ∙ sym (position-label w xs v k ∙ ap (λ q. first_or q (cond (bytes_eq w v) (Some (instruction_count xs)) None)) at ∙ ap (λ b. cond b (Some (instruction_count xs)) None) (bytes_sym w v true e))
position_absent w v xs k n false e f g =
    sym (position-label w xs v k ∙ ap (λ b. first_or (position w xs) (cond b (Some (instruction_count xs)) None)) (bytes_sym w v false e) ∙ first_or_none (position w xs))

stands_if : (v : List ℕ) (xs : List Item) (o : Option ℕ) → position v xs ≡ o → is_some o ≡ true → (p : ℕ) × (j : ℕ) × StandsAt v p j xs
stands_if v xs None e f = absurd (cc)
stands_if v xs (Some p) e f =
    let at : StandsFirst v xs p = subst (λ q. IsPosition v xs q) e (position_is v xs) in
    (p, at.line, at.stands)

absent_if : (v : List ℕ) (xs : List Item) (o : Option ℕ) → position v xs ≡ o → is_some o ≡ false → position v xs ≡ None
absent_if v xs None e f = e
absent_if v xs (Some p) e f = absurd (cc)

again_or : (v : List ℕ) (k : ℕ) (xs : List Item) (f : Fault) → IsTwice xs f ⊎ IsAgain v k xs f → IsTwice xs f ⊎ (Some (BadLabel k) ≡ Some f)
again_or v k xs f (inl h) = inl h
again_or v k xs f (inr h) = inr (ap Some (sym h.fault))

pub label_again : (xs : List Item) (n : ℕ) (where_is : List ℕ → Option ℕ) (o : Option Fault) (v : List ℕ) (k : ℕ) → LabelsRead xs n where_is o → is_some (where_is v) ≡ true → LabelsRead (xs ++ Label v k ∷ []) n where_is (earliest o (Some (BadLabel k)))
label_again xs n where_is o v k r h =
    let found : is_some (position v xs) ≡ true = ap (λ q. is_some q) (sym (r.positions v)) ∙ h in
    let s = stands_if v xs (position v xs) refl found in
    record {
      count = r.count ∙ sym (count-label xs v k);
      positions = λ w. r.positions w ∙ position_present w v xs k (bytes_eq w v) (position v xs) refl refl found;
      twice = first_join (IsTwice xs) (λ g. Some (BadLabel k) ≡ Some g) (IsTwice (xs ++ Label v k ∷ [])) (λ g t. twice_still (Label v k ∷ []) t) (λ g e. let same : BadLabel k ≡ g = cc in subst (λ y. IsTwice (xs ++ Label v k ∷ []) y) same (twice_new k s.2)) (λ g t. again_or v k xs g (twice_before xs t)) o (Some (BadLabel k)) r.twice (this_first (Some (BadLabel k)));
    }

not_again : (v : List ℕ) (k : ℕ) (xs : List Item) (f : Fault) → position v xs ≡ None → IsTwice xs f ⊎ IsAgain v k xs f → IsTwice xs f
not_again v k xs f e (inl h) = h
not_again v k xs f e (inr h) = let none : IsPosition v xs None = subst (λ q. IsPosition v xs q) e (position_is v xs) in absurd (none h.position h.line h.stands)

pub label_new : (xs : List Item) (n : ℕ) (where_is new_where : List ℕ → Option ℕ) (o : Option Fault) (v : List ℕ) (k : ℕ) → LabelsRead xs n where_is o → is_some (where_is v) ≡ false → ((w : List ℕ) → new_where w ≡ cond (bytes_eq v w) (Some n) (where_is w)) → LabelsRead (xs ++ Label v k ∷ []) n new_where o
label_new xs n where_is new_where o v k r h after =
    let absent : position v xs ≡ None = absent_if v xs (position v xs) refl (ap (λ q. is_some q) (sym (r.positions v)) ∙ h) in
    record {
      count = r.count ∙ sym (count-label xs v k);
      positions = λ w. after w ∙ ap (λ q. cond (bytes_eq v w) (Some n) q) (r.positions w) ∙ position_absent w v xs k n (bytes_eq v w) refl absent r.count;
      twice = same_first (IsTwice xs) (IsTwice (xs ++ Label v k ∷ [])) o (λ g t. twice_still (Label v k ∷ []) t) (λ g t. not_again v k xs g absent (twice_before xs t)) r.twice;
    }

pub instruction_read : (xs : List Item) (n : ℕ) (where_is : List ℕ → Option ℕ) (o : Option Fault) (i : Instr) (t : Option (List ℕ)) (k : ℕ) → LabelsRead xs n where_is o → LabelsRead (xs ++ Instruction i t k ∷ []) (n + 1) where_is o
instruction_read xs n where_is o i t k r =
    record {
      count = add-one n ∙ ap (λ m. suc m) r.count ∙ sym (count-instruction xs i t k);
      positions = λ w. r.positions w ∙ sym (position-instruction w xs i t k);
      twice = same_first (IsTwice xs) (IsTwice (xs ++ Instruction i t k ∷ [])) o (λ g h. twice_still (Instruction i t k ∷ []) h) (λ g h. twice_without i t k xs h) r.twice;
    }

some_suc : (o : Option ℕ) (p : ℕ) → option_map (λ q. suc q) o ≡ Some p → (q : ℕ) × (o ≡ Some q) × (suc q ≡ p)
some_suc None p e = absurd (cc)
some_suc (Some q) p e = (q, refl, cc)

position_small_at : (w : List ℕ) (xs : List Item) (p : ℕ) (b : Bool) (n : ℕ) → ((q : ℕ) → position w xs ≡ Some q → q ≤ n) → cond b (Some 0) (position w xs) ≡ Some p → p ≤ n
position_small_at w xs p true n h e = let zero_is : 0 ≡ p = cc in omega arith
position_small_at w xs p false n h e = h p e

pub position_small : (w : List ℕ) (xs : List Item) (p : ℕ) → position w xs ≡ Some p → p ≤ instruction_count xs
position_small w [] p e = absurd (cc)
position_small w (Label v k ∷ xs) p e = position_small_at w xs p (bytes_eq w v) (instruction_count xs) (λ q h. position_small w xs q h) e
position_small w (Instruction i t k ∷ xs) p e =
    let before = some_suc (position w xs) p e in
    let low = position_small w xs before.0 before.1 in
    let same = before.2 in
    omega arith

pub resolved_next : (code : List Instr) (hart : List Item) (xs : List Mark) (i : ℕ) (d x : Mark) → i < length xs → get_or xs i d ≡ x → resolved hart (marked code (take (i + 1) xs)) ≡ resolved hart (marked code (take i xs)) ++ resolved hart (item_at code x ∷ [])
resolved_next code hart xs i d x h e = ap (λ l. resolved hart l) (items_more code xs i d x h e) ∙ resolved-more hart (marked code (take i xs)) (item_at code x ∷ [])
