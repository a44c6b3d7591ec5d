-- The instructions of a code are those of the table.
use Rattle.std.proofs.Common.{ℕ, ◌<◌, ◌≤◌, List, length, get_or, arith}
use Rattle.std.specs.Prelude.{All}
use Rattle.std.proofs.lemmas.List.Elements.{All-cons, All-nil}
use Rattle.fs_litmus_tokens.specs.Tokens.{Lined}
use Rattle.fs_instr.specs.Instructions.{targeted}
use Rattle.fs_instr.specs.OfTable.{IsOfTable}
use Rattle.fs_instr.specs.declared.instr.Instr.{Instr}
use Rattle.fs_instr.specs.declared.instr.Instr.TheVariants as instr
use Rattle.fs_instr.proofs.OfTableLemmas.{spelled_of_table}
use Rattle.fs_litmus_syntax.specs.Cells.{Item}
use Rattle.fs_litmus_syntax.specs.Labels.{AreResolved, none, label, plain, branch, instruction_count}
use Rattle.fs_litmus_syntax.specs.Codes.{IsHart, AreCodes}
use Rattle.fs_litmus.proofs.Forward.{AreSpelled, nothing, past, spelled, cells_spelled, stands_within, resolved_length}
use Rattle.fs_litmus.proofs.Interpreting.{get_or_there}

targeted_of_table : (p : ℕ) (i : Instr) → p < 256 → IsOfTable i → IsOfTable (targeted p i)
targeted_of_table p (instr.Branch o a b t) low h = (h.0, h.1, low)
targeted_of_table p (instr.Jump t) low h = low
targeted_of_table p _ low h = h

resolved_of_table : {hart xs : List Item} {n : ℕ} {code : List Instr} → instruction_count hart ≤ 32 → AreSpelled xs → AreResolved hart n xs code → All IsOfTable code
resolved_of_table few nothing none = All-nil IsOfTable
resolved_of_table few (past s) (label h) = resolved_of_table few s h
resolved_of_table few (spelled sp s) (plain {i = i} {code = code} h) = All-cons IsOfTable i code (spelled_of_table sp) (resolved_of_table few s h)
resolved_of_table few (spelled sp s) (branch {p = p} {i = i} {code = code} at ahead h) =
    let within = stands_within at in
    let low : p < 256 = omega (arith, within, few) in
    All-cons IsOfTable (targeted p i) code (targeted_of_table p i low (spelled_of_table sp)) (resolved_of_table few s h)

hart_of_table : (cells : List (List Lined)) (code : List Instr) → length code ≤ 32 → IsHart cells code → All IsOfTable code
hart_of_table cells code short h =
    let count = resolved_length h.means.resolved in
    let few : instruction_count h.hart ≤ 32 = omega (arith, count, short) in
    resolved_of_table few (cells_spelled h.are) h.means.resolved

pub codes_of_table : (columns : ℕ) (cells : List (List Lined)) (codes : List (List Instr)) → AreCodes columns cells codes → All (λ code. length code ≤ 32) codes → All (All IsOfTable) codes
codes_of_table columns cells codes h short k d low = hart_of_table _ (get_or codes k d) (short k d low) (h.each k (get_or codes k d) (get_or_there codes k d low))
