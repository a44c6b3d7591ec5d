-- The print of a program and an outcome is that of a test, and reads as it.
use Rattle.std.proofs.Common.{◌≡◌, ◌++◌, ℕ, List, [], ◌∷◌, map, All, Box, refl, ap, ap₂, sym, subst, ◌∙◌}
use Rattle.std.specs.Prelude.{codes, length, if◌then◌else◌}
use Rattle.std.specs.List.{enumerate_from}
use Rattle.std.specs.declared.alloc.Global.{Global}
use denote.RawPtr.{null_ptr}
use Rattle.fs_instr.specs.declared.instr.Instr.{Instr}
use Rattle.fs_instr.specs.declared.instr.Instr.TheVariants.{Register, Immediate, Shift, Lui, Li, Lw, Sw, Lr, Sc, Amo, Branch, Jump, Fence, FenceTso, FenceI}
use Rattle.fs_instr.specs.OfTable.{IsOfTable}
use Rattle.fs_model.specs.declared.outcome.Outcome as read
use Rattle.fs_model.specs.declared.outcome.Outcome.TheVariants as outcome
use Rattle.fs_model.specs.declared.test.Test.{Test}
use Rattle.fs_model.specs.Executions.{Condition, Always, Never, RegisterIs, LocationIs, Deny, Both, Either, Outcome}
use Rattle.fs_model.specs.OfTests.{program_of, outcome_of, condition_of}
use Rattle.fs_model.specs.Printed as model
use Rattle.fs_model.specs.Printed.{printed, ended, is_target, label, end_cells, header, rows_text, locations_text, starts_text, quantifier_text, condition_text}
use Rattle.fs_model.specs.Runs.{Program}
use Rattle.fs_model.specs.Test.{IsTest, IsSame}
use Rattle.fs_litmus.specs.Reads.{Reads}
use Rattle.fs_litmus.proofs.ReadsOnce.{reads_once}
use Rattle.fs_litmus.proofs.PrintedReads.{printable, reads}
use Rattle.fs_app_guarantees.specs.Print.{cell, column, print, IsInstruction, IsPrintable, OfPrint}
use Rattle.fs_app_guarantees.proofs.Assembled.{alike}
use Rattle.fs_app_guarantees.proofs.Kept.{each}

-- ---- what is printed

maps_alike : {X Y : Type 0} (f g : X → Y) → ((x : X) → f x ≡ g x) → (xs : List X) → map f xs ≡ map g xs
maps_alike f g same [] = refl
maps_alike f g same (x ∷ xs) = ap₂ (λ y ys. y ∷ ys) (same x) (maps_alike f g same xs)

cells_alike : (code : List Instr) (numbered : ℕ × Instr) → model.cell code numbered ≡ cell code numbered
cells_alike code numbered =
    ap (λ text. (if is_target code numbered.0 then label numbered.0 ++ codes " " else []) ++ text) (sym (alike numbered.1))

columns_alike : (code : List Instr) → model.column code ≡ column code
columns_alike code = ap (λ cells. cells ++ end_cells code) (maps_alike (model.cell code) (cell code) (cells_alike code) (enumerate_from 0 code))

pub printed_is : (t : Test) → printed t ≡ print t.name (program_of t) (outcome_of t)
unfolding printed
printed_is t =
    ap (λ (columns : List (List (List ℕ))).
    ended (codes "RISCV " ++ t.name)
    ++ ended (codes "{")
    ++ locations_text t.locations
    ++ starts_text t.locations t.starts
    ++ ended (codes "}")
    ++ ended (header (length t.codes))
    ++ rows_text columns
    ++ ended (quantifier_text t.quantifier ++ codes " " ++ condition_text t.locations (condition_of t.condition)))
    (maps_alike model.column column columns_alike t.codes)

-- ---- the test of a program and an outcome

-- some place in memory
abbrev somewhere : Box (Unit {0}) Global
somewhere = record { ptr = null_ptr; alloc = record { memory = record { seal = tt } }; value = tt }

pub tree : Condition → read.Outcome
tree Always = outcome.Always
tree Never = outcome.Never
tree (RegisterIs hart reg word) = outcome.RegisterIs hart reg word
tree (LocationIs location word) = outcome.LocationIs location word
tree (Deny c) = outcome.Deny' somewhere (tree c)
tree (Both c d) = outcome.Both' somewhere (tree c) somewhere (tree d)
tree (Either c d) = outcome.Either' somewhere (tree c) somewhere (tree d)

tree_means : (c : Condition) → condition_of (tree c) ≡ c
unfolding tree
tree_means Always = refl
tree_means Never = refl
tree_means (RegisterIs hart reg word) = refl
tree_means (LocationIs location word) = refl
tree_means (Deny c) = ap Deny (tree_means c)
tree_means (Both c d) = ap₂ Both (tree_means c) (tree_means d)
tree_means (Either c d) = ap₂ Either (tree_means c) (tree_means d)

abbrev pub test_of : (name : List ℕ) → Program → Outcome → Test
test_of name t o = record {
  name = name;
  codes = t.codes;
  starts = t.starts;
  locations = t.locations;
  quantifier = o.quantifier;
  condition = tree o.condition;
}

pub outcome_same : (name : List ℕ) (t : Program) (o : Outcome) → outcome_of (test_of name t o) ≡ o
outcome_same name t o = ap (λ c. record { quantifier = o.quantifier; condition = c }) (tree_means o.condition)

-- ---- which can be printed

of_table : (i : Instr) → IsInstruction i → IsOfTable i
of_table (Register op rd first second) h = h
of_table (Immediate op rd first immediate) h = h
of_table (Shift op rd first amount) h = h
of_table (Lui rd upper) h = h
of_table (Li rd word) h = h
of_table (Lw ann rd base offset) h = h
of_table (Sw ann value base offset) h = h
of_table (Lr ann rd base) h = h
of_table (Sc ann rd value base) h = h
of_table (Amo op ann rd value base) h = h
of_table (Branch op first second target) h = h
of_table (Jump target) h = h
of_table (Fence before after) h = h
of_table FenceTso h = h
of_table FenceI h = h

instruction : (i : Instr) → IsOfTable i → IsInstruction i
instruction (Register op rd first second) h = h
instruction (Immediate op rd first immediate) h = h
instruction (Shift op rd first amount) h = h
instruction (Lui rd upper) h = h
instruction (Li rd word) h = h
instruction (Lw ann rd base offset) h = h
instruction (Sw ann value base offset) h = h
instruction (Lr ann rd base) h = h
instruction (Sc ann rd value base) h = h
instruction (Amo op ann rd value base) h = h
instruction (Branch op first second target) h = h
instruction (Jump target) h = h
instruction (Fence before after) h = h
instruction FenceTso h = h
instruction FenceI h = h

pub to_test : (t : Test) → IsPrintable t.name (program_of t) (outcome_of t) → IsTest t
to_test t h = record {
  utf8 = h.utf8;
  bounded = record {
    starts = h.starts;
    forward = h.forward;
    atoms = h.atoms;
    harts = h.harts;
    lengths = h.lengths;
    accesses = h.accesses;
    locations = h.locations;
    depth = h.depth;
  };
  title = h.title;
  some_hart = h.some_hart;
  registers = h.registers;
  instructions = each (All IsInstruction) (All IsOfTable) (each IsInstruction IsOfTable of_table) t.codes h.instructions;
  named = h.named;
  distinct = h.distinct;
  words = h.words;
}

pub from_test : (t : Test) → IsTest t → IsPrintable t.name (program_of t) (outcome_of t)
from_test t h = record {
  utf8 = h.utf8;
  title = h.title;
  some_hart = h.some_hart;
  harts = h.bounded.harts;
  starts = h.bounded.starts;
  registers = h.registers;
  lengths = h.bounded.lengths;
  instructions = each (All IsOfTable) (All IsInstruction) (each IsOfTable IsInstruction instruction) t.codes h.instructions;
  forward = h.bounded.forward;
  accesses = h.bounded.accesses;
  locations = h.bounded.locations;
  named = h.named;
  distinct = h.distinct;
  words = h.words;
  atoms = h.bounded.atoms;
  depth = h.bounded.depth;
}

-- ---- what is true of each test of this print

pub of_tests : (test : List ℕ) (P : Program → Outcome → Type 0) → ((t : Test) → IsTest t → test ≡ printed t → P (program_of t) (outcome_of t))
    → OfPrint test P
of_tests test P each_test name t o h e =
    let u : Test = test_of name t o in
    let same : outcome_of u ≡ o = outcome_same name t o in
    let is : IsTest u = to_test u (subst (λ (p : Outcome). IsPrintable name t p) (sym same) h) in
    let shown : test ≡ printed u = e ∙ ap (λ (p : Outcome). print name t p) (sym same) ∙ sym (printed_is u) in
    subst (λ (p : Outcome). P t p) same (each_test u is shown)

pub printed_reads : (t : Test) → IsTest t → Reads (printed t) t
printed_reads t h = reads t (printable t h) h.bounded.lengths

pub same_program : (t u : Test) → IsSame t u → program_of t ≡ program_of u
same_program t u s =
    ap (λ c. record { codes = c; starts = t.starts; locations = t.locations }) s.codes
    ∙ ap (λ r. record { codes = u.codes; starts = r; locations = t.locations }) s.starts
    ∙ ap (λ l. record { codes = u.codes; starts = u.starts; locations = l }) s.locations

pub same_outcome : (t u : Test) → IsSame t u → outcome_of t ≡ outcome_of u
same_outcome t u s =
    ap (λ q. record { quantifier = q; condition = condition_of t.condition }) s.quantifier
    ∙ ap (λ c. record { quantifier = u.quantifier; condition = c }) s.condition

of_alike : (P : Program → Outcome → Type 0) (t u : Program) (o p : Outcome) → t ≡ u → o ≡ p → P t o → P u p
of_alike P t u o p same alike h = subst (λ (x : Program). P x p) same (subst (λ (x : Outcome). P t x) alike h)

-- what is true of a test is true of the same one
pub of_same : (P : Program → Outcome → Type 0) (t u : Test) → IsSame t u → P (program_of t) (outcome_of t) → P (program_of u) (outcome_of u)
of_same P t u s = of_alike P (program_of t) (program_of u) (outcome_of t) (outcome_of u) (same_program t u s) (same_outcome t u s)

pub of_same_back : (P : Program → Outcome → Type 0) (t u : Test) → IsSame t u → P (program_of u) (outcome_of u) → P (program_of t) (outcome_of t)
of_same_back P t u s = of_alike P (program_of u) (program_of t) (outcome_of u) (outcome_of t) (sym (same_program t u s)) (sym (same_outcome t u s))

-- what is true of the test that was read is true of each of this print
pub of_read : (test : List ℕ) (P : Program → Outcome → Type 0) (u : Test) → Reads test u → P (program_of u) (outcome_of u) → OfPrint test P
of_read test P u r h = of_tests test P
    (λ t is e. of_same P u t (reads_once test u t r (subst (λ (bytes : List ℕ). Reads bytes t) (sym e) (printed_reads t is))) h)

-- ---- a print is of one program and one outcome

pub one_print : (name other : List ℕ) (t u : Program) (o p : Outcome) → IsPrintable name t o → IsPrintable other u p
    → print name t o ≡ print other u p → (t ≡ u) × (o ≡ p)
one_print name other t u o p h k e =
    let first : Test = test_of name t o in
    let here : outcome_of first ≡ o = outcome_same name t o in
    let is : IsTest first = to_test first (subst (λ (q : Outcome). IsPrintable name t q) (sym here) h) in
    let shown : print other u p ≡ printed first = sym e ∙ ap (λ (q : Outcome). print name t q) (sym here) ∙ sym (printed_is first) in
    let read : Reads (print other u p) first = subst (λ (bytes : List ℕ). Reads bytes first) (sym shown) (printed_reads first is) in
    let same = of_read (print other u p) (λ v q. (t ≡ v) × (o ≡ q)) first read (refl, sym here) in
    same other u p k refl
