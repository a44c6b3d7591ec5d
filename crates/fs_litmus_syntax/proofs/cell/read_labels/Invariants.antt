use Rattle.std.proofs.Common.{◌≡◌, ◌≤◌, ◌-◌, ◌++◌, List, length, drop}
use Rattle.fs_litmus_tokens.specs.Tokens.{Lined, views}
use Rattle.fs_litmus_syntax.specs.Cells.{Item, AreLabels}
use Rattle.fs_litmus_syntax.proofs.cell.read_labels.Given as goal

abbrev pub invariant-loop-name : goal.invariant-loop-name
invariant-loop-name l = record {
  room : l.taken ≤ length l.cell;
  added : List Item;
  new_is : l.listing ≡ l.initial.listing ++ added;
  labels : (xs : List Item) (rest : List Lined) → AreLabels (views (drop l.taken l.cell)) xs rest → AreLabels (views l.cell) (added ++ xs) rest;
}

abbrev pub decreases-loop-name : goal.decreases-loop-name
decreases-loop-name l = length l.cell - l.taken
