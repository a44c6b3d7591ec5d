use Rattle.std.proofs.Common.{[], ◌∷◌, ◌++◌, ◌∙◌, ap, append_assoc}
use Rattle.fs_litmus_syntax.specs.Cells.{Label}
use Rattle.fs_litmus_syntax.proofs.CellLemmas.{label_more, labels_end, room_after}
use Rattle.fs_litmus_syntax.proofs.cell.read_labels.Goals as goal

pub loop-name-preserved : goal.loop-name-preserved
loop-name-preserved c =
    let new_label = Label c.in-Some.name.now c.in-Some.line ∷ [] in
    record {
      room = room_after c.args.cell.now _ c.loop-name.taken c.skip.ensures c.in-Some.ensures.room c.loop-name.invariant.room;
      added = c.loop-name.invariant.added ++ new_label;
      new_is = c.in_ok-push_label.ensures ∙ ap (λ l. l ++ new_label) c.loop-name.invariant.new_is ∙ append_assoc c.args.listing.now c.loop-name.invariant.added new_label;
      labels = λ xs rest h. label_more c.args.cell.now _ c.loop-name.taken c.loop-name.invariant.added c.in-Some.name.now c.in-Some.line c.skip.ensures c.in-Some.ensures.value c.loop-name.invariant.labels xs rest h;
    }

pub returns-clause-labels : goal.returns-clause-labels
returns-clause-labels c = record {
  added = c.loop-name.invariant.added;
  are = labels_end c.args.cell.now _ c.loop-name.taken c.loop-name.invariant.added c.skip.ensures c.in_default.ensures.value c.loop-name.invariant.labels;
  new_is = c.loop-name.invariant.new_is;
}
