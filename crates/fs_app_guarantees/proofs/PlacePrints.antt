-- What `place` prints is the print of the fenced program; without FENCE words, of the program that was read.
use Rattle.std.proofs.Common.{◌≡◌, ℕ, ◌+◌, ◌++◌, Bool, false, Option, None, Some, List, [], ◌∷◌, map, filter, flat_map, length, is_some, unwrap_or, Ok, refl, ap, ap₂, sym, subst, ◌∙◌, append-nil, arith}
use Rattle.std.specs.List.{enumerate_from, range_with_len}
use Rattle.fs_instr.specs.declared.instr.Instr.{Instr}
use Rattle.fs_instr.specs.declared.instr.Instr.TheVariants.{Register, Immediate, Shift, Lui, Li, Lw, Sw, Lr, Sc, Amo, Branch, Jump, Fence, FenceTso, FenceI}
use Rattle.fs_kinds.specs.declared.kind.Kind.{Kind}
use Rattle.fs_kinds.specs.declared.placement.Entry.{Entry}
use Rattle.fs_kinds.specs.declared.slot.Slot.{Slot}
use Rattle.fs_kinds.specs.Placement.{all_with, kind_at}
use Rattle.fs_kinds.specs.PriceTable.{PriceTable}
use Rattle.fs_model.specs.declared.test.Test.{Test}
use Rattle.fs_model.specs.Answers.{slot_at, is_filled, position, moved, fences, with_fence, fenced_code, fenced}
use Rattle.fs_model.specs.Executions.{Outcome}
use Rattle.fs_model.specs.Fenced as tests
use Rattle.fs_model.specs.OfTests.{program_of, outcome_of}
use Rattle.fs_model.specs.Placed.{word_of, placed, IsPlaced}
use Rattle.fs_model.specs.Printed.{printed}
use Rattle.fs_model.specs.Runs.{Program}
use Rattle.fs_model.specs.Slots.{slots}
use Rattle.fs_model.specs.Test.{IsSame}
use Rattle.fs_model_laws.proofs.FencedExecutions.{none_at}
use Rattle.fs_litmus.specs.Reads.{Reads}
use Rattle.fs_litmus.proofs.ReadsOnce.{reads_once}
use Rattle.fs_litmus.proofs.ReadsTest.{is_test}
use Rattle.fs_app_place_and_order.specs.Place.{ArePriced, IsFencedText, cost_line}
use Rattle.fs_litmus.proofs.Fencing.{read_back}
use Rattle.fs_app_guarantees.specs.Print.{OfPrint}
use Rattle.fs_app_guarantees.proofs.InPrint.{of_tests, of_same, of_same_back, printed_reads}

-- ---- a placement with no fence leaves the program as it is

none_pass : (f : ℕ → Bool) → ((k : ℕ) → f k ≡ false) → (ks : List ℕ) → filter f ks ≡ []
none_pass f none [] = refl
none_pass f none (k ∷ ks) = rw (none k) (none_pass f none ks)

module _ (p : List Entry) (none : (s : Slot) → kind_at s p ≡ None) where
  label_stays : (hart at : ℕ) → position p hart at ≡ at
  label_stays hart at =
      ap (λ ks. at + length ks) (none_pass (is_filled p hart) (λ k. ap is_some (none (slot_at hart k))) (range_with_len 0 at)) ∙ omega arith

  instruction_stays : (hart : ℕ) (i : Instr) → moved p hart i ≡ i
  instruction_stays hart (Register op rd first second) = refl
  instruction_stays hart (Immediate op rd first immediate) = refl
  instruction_stays hart (Shift op rd first amount) = refl
  instruction_stays hart (Lui rd upper) = refl
  instruction_stays hart (Li rd word) = refl
  instruction_stays hart (Lw ann rd base offset) = refl
  instruction_stays hart (Sw ann value base offset) = refl
  instruction_stays hart (Lr ann rd base) = refl
  instruction_stays hart (Sc ann rd value base) = refl
  instruction_stays hart (Amo op ann rd value base) = refl
  instruction_stays hart (Branch op first second target) = ap (Branch op first second) (label_stays hart target)
  instruction_stays hart (Jump target) = ap Jump (label_stays hart target)
  instruction_stays hart (Fence before after) = refl
  instruction_stays hart FenceTso = refl
  instruction_stays hart FenceI = refl

  code_stays : (hart n : ℕ) (code : List Instr) → flat_map (with_fence p hart) (enumerate_from n code) ≡ code
  code_stays hart n [] = refl
  code_stays hart n (i ∷ code) =
      ap (λ (kind : Option Kind). (fences kind ++ moved p hart i ∷ []) ++ flat_map (with_fence p hart) (enumerate_from (n + 1) code)) (none (slot_at hart n))
      ∙ ap₂ (λ j rest. j ∷ rest) (instruction_stays hart i) (code_stays hart (n + 1) code)

  codes_stay : (n : ℕ) (codes : List (List Instr)) → map (fenced_code p) (enumerate_from n codes) ≡ codes
  codes_stay n [] = refl
  codes_stay n (code ∷ codes) = ap₂ (λ c rest. c ∷ rest) (code_stays n 0 code) (codes_stay (n + 1) codes)

  pub program_stays : (t : Program) → fenced t p ≡ t
  program_stays t = ap (λ codes. record t { codes = codes }) (codes_stay 0 t.codes)

-- no words place no fence
pub nothing_placed : (ss : List Slot) (p : List Entry) → IsPlaced None ss [] (Some p) → p ≡ all_with None ss
nothing_placed ss p h = from_words h.0 h.1 h.2
  where
    from_words : (words : List (Slot × Kind)) → map word_of words ≡ [] → placed None (all_with None ss) words ≡ Some p → p ≡ all_with None ss
    from_words [] e found = ap (λ o. unwrap_or o p) (sym found)
    from_words (w ∷ words) e found = absurd (let none : word_of w ∷ map word_of words ≡ [] = e in cc)

-- ---- what is printed

no_table : (table : Option PriceTable) → ArePriced None table → table ≡ None
no_table None h = refl
no_table (Some table) h = absurd h

-- the words place the fences whatever they cost
pub placed_so : (file test : List ℕ) (words : List (List ℕ)) (a : IsFencedText file None words test)
    → IsPlaced None (slots a.the_test) words (Some a.placement)
placed_so file test words a = subst (λ (table : Option PriceTable). IsPlaced table (slots a.the_test) words (Some a.placement)) (no_table a.table a.priced) a.placed

-- what is true of the fenced program is true of each whose print `place` prints
pub of_placed : (file test : List ℕ) (words : List (List ℕ)) (P : Program → Outcome → Type 0) (a : IsFencedText file None words test)
    → P (fenced (program_of a.the_test) a.placement) (outcome_of a.the_test) → OfPrint test P
of_placed file test words P a h =
    let f = a.the_test in
    let q = a.placement in
    let shown : test ≡ printed (tests.fenced f q) =
    a.shown ∙ ap (λ (line : List ℕ). printed (tests.fenced f q) ++ line) (ap (λ (table : Option PriceTable). cost_line table q) (no_table a.table a.priced)) ∙ append-nil (printed (tests.fenced f q)) in
    of_tests test P
    (λ t is e.
    let same : IsSame t (tests.fenced f q) = read_back f q (printed t) (Ok t) (is_test file f a.reads) (sym e ∙ shown) (printed_reads t is) in
    of_same_back P t (tests.fenced f q) same h)

-- and what is true of the test that was read, of each whose print `place` prints without words
pub of_file : (file test : List ℕ) (P : Program → Outcome → Type 0) (u : Test) → Reads file u → IsFencedText file None [] test
    → P (program_of u) (outcome_of u) → OfPrint test P
of_file file test P u r a h =
    let f = a.the_test in
    let none : a.placement ≡ all_with None (slots f) = nothing_placed (slots f) a.placement (placed_so file test [] a) in
    let stays : fenced (program_of f) a.placement ≡ program_of f =
    ap (λ (p : List Entry). fenced (program_of f) p) none ∙ program_stays (all_with None (slots f)) (none_at (slots f)) (program_of f) in
    of_placed file test [] P a (subst (λ (t : Program). P t (outcome_of f)) (sym stays) (of_same P u f (reads_once file u f r a.reads) h))
