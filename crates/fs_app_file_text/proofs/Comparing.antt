-- When two instructions are the same, and two lists.
use Rattle.std.proofs.Common.{rules, ◌≡◌, ℕ, Bool, true, ◌==◌, List, [], ◌∷◌, refl, ap₂}
use Rattle.std.specs.Cmp.Lexicographic.{pointwise}
use Rattle.std.proofs.lemmas.Bool.{and_parts, false≢true}
use Rattle.fs_instr.specs.declared.instr.Instr.{Instr}
use Rattle.fs_instr.specs.declared.instr.Instr.TheVariants.{Register, Immediate, Shift, Lui, Li, Lw, Sw, Lr, Sc, Amo, Branch, Jump, Fence, FenceTso, FenceI}
use Rattle.fs_instr.specs.declared.letters.Letters.{Letters}
use Rattle.fs_instr.specs.contracts.letters.LettersPartialEq.TheImpl as letters_test
use Rattle.fs_instr.specs.contracts.instr.InstrPartialEq.TheImpl as instr_test
use Rattle.fs_instr.specs.declared.names.RegOp.{RegOp}
use Rattle.fs_instr.specs.declared.names.RegOp.TheVariants as register
use Rattle.fs_instr.specs.contracts.names.RegOpPartialEq.TheImpl as register_test
use Rattle.fs_instr.specs.declared.names.ImmOp.{ImmOp}
use Rattle.fs_instr.specs.declared.names.ImmOp.TheVariants as immediate
use Rattle.fs_instr.specs.contracts.names.ImmOpPartialEq.TheImpl as immediate_test
use Rattle.fs_instr.specs.declared.names.ShiftOp.{ShiftOp}
use Rattle.fs_instr.specs.declared.names.ShiftOp.TheVariants as shift
use Rattle.fs_instr.specs.contracts.names.ShiftOpPartialEq.TheImpl as shift_test
use Rattle.fs_instr.specs.declared.names.BranchOp.{BranchOp}
use Rattle.fs_instr.specs.declared.names.BranchOp.TheVariants as branch
use Rattle.fs_instr.specs.contracts.names.BranchOpPartialEq.TheImpl as branch_test
use Rattle.fs_instr.specs.declared.names.AmoOp.{AmoOp}
use Rattle.fs_instr.specs.declared.names.AmoOp.TheVariants as amo
use Rattle.fs_instr.specs.contracts.names.AmoOpPartialEq.TheImpl as amo_test

-- ---- instructions

same_register : (a b : RegOp) → register_test.eq-value.it a b ≡ true → a ≡ b
same_register register.Add register.Add e = refl
same_register register.Sub register.Sub e = refl
same_register register.Xor register.Xor e = refl
same_register register.Or register.Or e = refl
same_register register.And register.And e = refl
same_register register.Sll register.Sll e = refl
same_register register.Srl register.Srl e = refl
same_register register.Sra register.Sra e = refl
same_register register.Slt register.Slt e = refl
same_register register.Sltu register.Sltu e = refl
same_register a b e = absurd (false≢true e)

same_immediate : (a b : ImmOp) → immediate_test.eq-value.it a b ≡ true → a ≡ b
same_immediate immediate.Addi immediate.Addi e = refl
same_immediate immediate.Xori immediate.Xori e = refl
same_immediate immediate.Ori immediate.Ori e = refl
same_immediate immediate.Andi immediate.Andi e = refl
same_immediate immediate.Slti immediate.Slti e = refl
same_immediate immediate.Sltiu immediate.Sltiu e = refl
same_immediate a b e = absurd (false≢true e)

same_shift : (a b : ShiftOp) → shift_test.eq-value.it a b ≡ true → a ≡ b
same_shift shift.Slli shift.Slli e = refl
same_shift shift.Srli shift.Srli e = refl
same_shift shift.Srai shift.Srai e = refl
same_shift a b e = absurd (false≢true e)

same_branch : (a b : BranchOp) → branch_test.eq-value.it a b ≡ true → a ≡ b
same_branch branch.Beq branch.Beq e = refl
same_branch branch.Bne branch.Bne e = refl
same_branch branch.Blt branch.Blt e = refl
same_branch branch.Bge branch.Bge e = refl
same_branch branch.Bltu branch.Bltu e = refl
same_branch branch.Bgeu branch.Bgeu e = refl
same_branch a b e = absurd (false≢true e)

same_amo : (a b : AmoOp) → amo_test.eq-value.it a b ≡ true → a ≡ b
same_amo amo.Swap amo.Swap e = refl
same_amo amo.Add amo.Add e = refl
same_amo amo.Xor amo.Xor e = refl
same_amo amo.And amo.And e = refl
same_amo amo.Or amo.Or e = refl
same_amo amo.Min amo.Min e = refl
same_amo amo.Max amo.Max e = refl
same_amo amo.Minu amo.Minu e = refl
same_amo amo.Maxu amo.Maxu e = refl
same_amo a b e = absurd (false≢true e)

same_letters : (l m : Letters) → letters_test.eq-value.it l m ≡ true → l ≡ m
same_letters l m e = search rules

same_instr : (i j : Instr) → instr_test.eq-value.it i j ≡ true → i ≡ j
same_instr (Register o rd a b) (Register p sd c d) e = search (rules, same_register o p)
same_instr (Immediate o rd a z) (Immediate p sd b y) e = search (rules, same_immediate o p)
same_instr (Shift o rd a n) (Shift p sd b m) e = search (rules, same_shift o p)
same_instr (Lui rd n) (Lui sd m) e = search rules
same_instr (Li rd n) (Li sd m) e = search rules
same_instr (Lw ann rd a z) (Lw other sd b y) e = search rules
same_instr (Sw ann v a z) (Sw other w b y) e = search rules
same_instr (Lr ann rd a) (Lr other sd b) e = search rules
same_instr (Sc ann rd v a) (Sc other sd w b) e = search rules
same_instr (Amo o ann rd v a) (Amo p other sd w b) e = search (rules, same_amo o p)
same_instr (Branch o a b t) (Branch p c d s) e = search (rules, same_branch o p)
same_instr (Jump t) (Jump s) e = search rules
same_instr (Fence b a) (Fence c d) e =
    let parts = and_parts (letters_test.eq-value.it b c) (letters_test.eq-value.it a d) e in
    ap₂ Fence (same_letters b c parts.0) (same_letters a d parts.1)
same_instr FenceTso FenceTso e = refl
same_instr FenceI FenceI e = refl
same_instr i j e = absurd (false≢true e)

-- ---- lists

pointwise_same : {X : Type 0} (E : X → X → Bool) → ((x y : X) → E x y ≡ true → x ≡ y) → (xs ys : List X) → pointwise E xs ys ≡ true → xs ≡ ys
pointwise_same E same [] [] e = refl
pointwise_same E same [] (y ∷ ys) e = absurd (false≢true e)
pointwise_same E same (x ∷ xs) [] e = absurd (false≢true e)
pointwise_same E same (x ∷ xs) (y ∷ ys) e =
    let parts = and_parts (E x y) (pointwise E xs ys) e in
    ap₂ (λ u us. u ∷ us) (same x y parts.0) (pointwise_same E same xs ys parts.1)

pub codes_same : (xs ys : List (List Instr)) → pointwise (pointwise instr_test.eq-value.it) xs ys ≡ true → xs ≡ ys
codes_same xs ys e = pointwise_same (pointwise instr_test.eq-value.it) (pointwise_same instr_test.eq-value.it same_instr) xs ys e

same_number : (m n : ℕ) → (m == n) ≡ true → m ≡ n
same_number m n e = search rules

pub starts_same : (xs ys : List (List ℕ)) → pointwise (pointwise (λ m n. m == n)) xs ys ≡ true → xs ≡ ys
starts_same xs ys e = pointwise_same (pointwise (λ m n. m == n)) (pointwise_same (λ m n. m == n) same_number) xs ys e
