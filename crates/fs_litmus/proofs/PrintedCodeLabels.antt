-- The items of a printed code mean the code: each label stands once, and each branch goes ahead to the position of its
-- label.
use Rattle.std.proofs.Common.{◌≡◌, ℕ, ◌+◌, ◌<◌, ◌≤◌, ◌^◌, zero, suc, List, [], ◌∷◌, drop, length, slice_get, Bool, true, false, ◌||◌, eqb, Some, Option, option_and_then, refl, sym, ap, ◌∙◌, subst, arith, add-one}
use Rattle.std.proofs.lemmas.Bool.Decides.{nat_tests}
use Rattle.std.proofs.lemmas.Fmt.{decimal_injective}
use Rattle.fs_instr.specs.Instructions.{targeted, target_of}
use Rattle.fs_instr.specs.PrintedTokens.{label_of}
use Rattle.fs_instr.specs.declared.instr.Instr.{Instr}
use Rattle.fs_instr.specs.declared.instr.Instr.TheVariants as instr
use Rattle.fs_kinds.specs.declared.fault.Fault.{Fault}
use Rattle.fs_litmus_syntax.specs.Cells.{Item, Label, Instruction}
use Rattle.fs_litmus_syntax.specs.Labels.{StandsAt, here, past_label, past_instruction, IsTwice, again, later, AreResolved, none, label, plain, branch, IsCode}
use Rattle.fs_model.specs.Printed.{is_target, goes_to}
use Rattle.fs_model.specs.Test.{GoesForward}
use Rattle.fs_litmus.proofs.PrintedCodeCells.{label_name}
use Rattle.fs_litmus.proofs.PrintedCodeItems.{ArePrinted, finish, end_label, bare, labelled}

-- ---- where labels stand

names_apart : (a b : ℕ) → a < 2 ^ 32 → b < 2 ^ 32 → label_name a ≡ label_name b → a ≡ b
names_apart a b low high e = decimal_injective a b (omega (arith, low)) (omega (arith, high)) (ap (drop 1) e)

one_further : (n p : ℕ) → n + 1 + p ≡ n + suc p
one_further n p = omega arith

not_both : {b : Bool} → b ≡ false → b ≡ true → ⊥
not_both e f = cc

-- a label that stands at a position is the position's
pub record IsOwn (w : List ℕ) (n p most : ℕ) : Type 0 where
  pub name : w ≡ label_name (n + p)
  pub within : p ≤ most

own_later : {w : List ℕ} {n p most : ℕ} → IsOwn w (n + 1) p most → IsOwn w n (suc p) (suc most)
own_later {n = n} {p = p} h = let low = h.within in record { name = h.name ∙ ap label_name (one_further n p); within = omega (arith, low) }

own_here : {n : ℕ} (most : ℕ) → IsOwn (label_name n) n 0 most
own_here {n = n} most = let same : n ≡ n + 0 = omega arith in record { name = ap label_name same; within = omega arith }

stands_own : {code more : List Instr} {n : ℕ} {xs : List Item} {w : List ℕ} {p line : ℕ} → ArePrinted code n more xs → StandsAt w p line xs → IsOwn w n p (length more)
stands_own (finish t) s = elim s [ ]
stands_own (end_label t) here = own_here 0
stands_own (end_label t) (past_label s) = elim s [ ]
stands_own (bare t h) (past_instruction s) = own_later (stands_own h s)
stands_own (labelled {more = more} t h) here = own_here (suc (length more))
stands_own (labelled t h) (past_label (past_instruction s)) = own_later (stands_own h s)

-- a label stands at a position
pub record Stands (w : List ℕ) (p : ℕ) (xs : List Item) : Type 0 where
  pub line : ℕ
  pub stands : StandsAt w p line xs

stands_here : (n : ℕ) {line : ℕ} {xs : List Item} → Stands (label_name (n + 0)) 0 (Label (label_name n) line ∷ xs)
stands_here n {line = line} {xs = xs} =
    let same : n ≡ n + 0 = omega arith in
    record { line = line; stands = subst (λ k. StandsAt (label_name k) 0 line (Label (label_name n) line ∷ xs)) same here }

stands_later : (n : ℕ) {p k : ℕ} {i : Instr} {target : Option (List ℕ)} {xs : List Item} → Stands (label_name (n + 1 + p)) p xs → Stands (label_name (n + suc p)) (suc p) (Instruction i target k ∷ xs)
stands_later n {p = p} {k = k} {i = i} {target = target} {xs = xs} h =
    record { line = h.line; stands = subst (λ m. StandsAt (label_name m) (suc p) h.line (Instruction i target k ∷ xs)) (one_further n p) (past_instruction h.stands) }

-- each position that a branch goes to has its label
label_stands : {code more : List Instr} {n : ℕ} {xs : List Item} → ArePrinted code n more xs → (p : ℕ) → p ≤ length more → is_target code (n + p) ≡ true → Stands (label_name (n + p)) p xs
label_stands {code} {n = n} (finish t) zero h e = let same : n + 0 ≡ n = omega arith in absurd (not_both t (subst (λ k. is_target code k ≡ true) same e))
label_stands (finish t) (suc p) h e = absurd (omega (arith, h))
label_stands (end_label {n = n} t) zero h e = stands_here n
label_stands (end_label t) (suc p) h e = absurd (omega (arith, h))
label_stands {code} {n = n} (bare t k) zero h e = let same : n + 0 ≡ n = omega arith in absurd (not_both t (subst (λ k. is_target code k ≡ true) same e))
label_stands {code} {n = n} (bare t k) (suc p) h e = stands_later n (label_stands k p (omega (arith, h)) (subst (λ k. is_target code k ≡ true) (sym (one_further n p)) e))
label_stands (labelled {n = n} t k) zero h e = stands_here n
label_stands {code} {n = n} (labelled t k) (suc p) h e =
    let s = stands_later n (label_stands k p (omega (arith, h)) (subst (λ k. is_target code k ≡ true) (sym (one_further n p)) e)) in
    record { line = s.line; stands = past_label s.stands }

-- ---- no label stands twice

stands_not_again : {code more : List Instr} (n : ℕ) {xs : List Item} {p line : ℕ} → ArePrinted code (n + 1) more xs → n + 1 + length more < 2 ^ 32 → StandsAt (label_name n) p line xs → ⊥
stands_not_again n {p = p} h small s =
    let own = stands_own h s in
    let low = own.within in
    let same = names_apart n (n + 1 + p) (omega (arith, small)) (omega (arith, small, low)) own.name in
    omega (arith, same)

once : {code more : List Instr} {n : ℕ} {xs : List Item} {f : Fault} → ArePrinted code n more xs → n + length more < 2 ^ 32 → IsTwice xs f → ⊥
once (finish t) small k = elim k [ ]
once (end_label t) small (again s) = elim s [ ]
once (end_label t) small (later k) = elim k [ ]
once (bare t h) small (later k) = once h (omega (arith, small)) k
once (labelled {n = n} t h) small (again (past_instruction s)) = stands_not_again n h (omega (arith, small)) s
once (labelled t h) small (later (later k)) = once h (omega (arith, small)) k

-- ---- branches

-- the target of an instruction, where it has one, is ahead, and its label stands there
abbrev Goes : List Item → ℕ → Instr → Type 0
Goes hart n i = (t : ℕ) → target_of i ≡ Some t → (n < t) × Stands (label_name t) t hart

resolved_one : (hart xs : List Item) (n line : ℕ) (i : Instr) (more : List Instr) → Goes hart n i → AreResolved hart (suc n) xs more → AreResolved hart n (Instruction (targeted 0 i) (label_of i) line ∷ xs) (i ∷ more)
resolved_one hart xs n line (instr.Branch o a b t) more g h = let x = g t refl in branch (x.1).stands x.0 h
resolved_one hart xs n line (instr.Jump t) more g h = let x = g t refl in branch (x.1).stands x.0 h
resolved_one hart xs n line _ more g h = plain h

abbrev AllGo : List Item → ℕ → List Instr → Type 0
AllGo hart n more = (at t : ℕ) → option_and_then target_of (slice_get more at) ≡ Some t → (n + at < t) × Stands (label_name t) t hart

go_first : (hart : List Item) (n : ℕ) (i : Instr) (more : List Instr) → AllGo hart n (i ∷ more) → Goes hart n i
go_first hart n i more h t e = let x = h 0 t e in let low = x.0 in (omega (arith, low), x.1)

go_later : (hart : List Item) (n : ℕ) (i : Instr) (more : List Instr) → AllGo hart n (i ∷ more) → AllGo hart (n + 1) more
go_later hart n i more h at t e = let x = h (suc at) t e in let low = x.0 in (omega (arith, low), x.1)

resolve : {code more : List Instr} {n : ℕ} {hart xs : List Item} → ArePrinted code n more xs → AllGo hart n more → AreResolved hart n xs more
resolve (finish t) g = none
resolve (end_label t) g = label none
resolve {hart = hart} (bare {n = n} {line = line} {i = i} {more = more} {xs = xs} t h) g =
    resolved_one hart xs n line i more (go_first hart n i more g) (subst (λ k. AreResolved hart k xs more) (add-one n) (resolve h (go_later hart n i more g)))
resolve {hart = hart} (labelled {n = n} {line = line} {i = i} {more = more} {xs = xs} t h) g =
    label (resolved_one hart xs n line i more (go_first hart n i more g) (subst (λ k. AreResolved hart k xs more) (add-one n) (resolve h (go_later hart n i more g))))

-- ---- the whole code

or_true : (a b : Bool) → b ≡ true → (a || b) ≡ true
or_true true b e = refl
or_true false b e = e

goes_there : (i : Instr) (t : ℕ) (b : Bool) → target_of i ≡ Some t → (goes_to t (target_of i) || b) ≡ true
goes_there i t b e =
    let same : eqb t t ≡ true = grind (arith, nat_tests) in
    ap (λ o. goes_to t o || b) e ∙ ap (λ x. x || b) same

-- where a branch goes to is a target
is_target_of : (code : List Instr) (at t : ℕ) → option_and_then target_of (slice_get code at) ≡ Some t → is_target code t ≡ true
is_target_of [] at t e = absurd (cc)
is_target_of (i ∷ code) zero t e = goes_there i t (is_target code t) e
is_target_of (i ∷ code) (suc at) t e = or_true (goes_to t (target_of i)) (is_target code t) (is_target_of code at t e)

pub items_mean : (code : List Instr) (hart : List Item) → ArePrinted code 0 code hart → GoesForward code → length code < 2 ^ 32 → IsCode hart code
items_mean code hart h forward small =
    record {
      once = λ f k. once h (omega (arith, small)) k;
      resolved = resolve h (λ at t e. let ahead = forward at t e in let low = ahead.0 in let same : 0 + t ≡ t = omega arith in (omega (arith, low), subst (λ k. Stands (label_name k) t hart) same (label_stands h t ahead.1 (subst (λ k. is_target code k ≡ true) (sym same) (is_target_of code at t e)))));
    }
