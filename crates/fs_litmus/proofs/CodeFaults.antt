-- The faults of codes have the numbers 3 to 6.
use Rattle.std.proofs.Common.{ℕ, ◌≤◌, List, arith}
use Rattle.fs_litmus_tokens.specs.Tokens.{Lined}
use Rattle.fs_kinds.specs.FaultLine.{number}
use Rattle.fs_kinds.specs.declared.fault.Fault.{Fault}
use Rattle.fs_litmus_syntax.specs.Cells.{Item, IsCellFault, syntax, unknown, annotation, AreFaulty, here, later}
use Rattle.fs_litmus_syntax.specs.Labels.{IsTwice, again, later as later_twice, IsStray, missing, behind, IsLabelFault, twice, stray}
use Rattle.fs_litmus_syntax.specs.Codes.{IsHartFault, of_cell, of_label, IsFault, fault}

cell_low : {ts : List Lined} {f : Fault} → IsCellFault ts f → number f ≤ 6
cell_low (syntax a m) = omega arith
cell_low (unknown a m) = omega arith
cell_low (annotation a m) = omega arith

faulty_low : {cs : List (List Lined)} {f : Fault} → AreFaulty cs f → number f ≤ 6
faulty_low (here h) = cell_low h
faulty_low (later h) = faulty_low h

twice_low : {xs : List Item} {f : Fault} → IsTwice xs f → number f ≤ 6
twice_low (again h) = omega arith
twice_low (later_twice h) = twice_low h

stray_low : {hart xs : List Item} {f : Fault} → IsStray hart xs f → number f ≤ 6
stray_low (missing b n) = omega arith
stray_low (behind b s l) = omega arith

label_low : {hart : List Item} {f : Fault} → IsLabelFault hart f → number f ≤ 6
label_low (twice h) = twice_low h
label_low (stray h) = stray_low h

hart_low : {cs : List (List Lined)} {f : Fault} → IsHartFault cs f → number f ≤ 6
hart_low (of_cell h) = faulty_low h
hart_low (of_label a h) = label_low h

pub code_low : {columns : ℕ} {cells : List (List Lined)} {f : Fault} → IsFault columns cells f → number f ≤ 6
code_low (fault n h) = hart_low h
