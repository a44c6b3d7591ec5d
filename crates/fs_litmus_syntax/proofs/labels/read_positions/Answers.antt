use Rattle.std.proofs.Common.{◌∙◌, sym, arith}
use Rattle.std.proofs.lemmas.Map.Text.{hash_map_updates_str}
use Rattle.std.specs.Str.{bytes_eq}
use Rattle.indexmap.specs.IndexMap.{get_by}
use Rattle.fs_litmus_syntax.proofs.LabelLemmas.{items_more, carried, label_again, label_new, instruction_read}
use Rattle.fs_litmus_syntax.proofs.labels.read_positions.Goals as goal
use Rattle.fs_litmus_syntax.proofs.labels.read_positions.Goals.{in-Label+then-contains_key, in-Label+else-contains_key+in_ok-insert-in-Label, in-Instruction}

pub loop-mark-preserved : goal.loop-mark-preserved
loop-mark-preserved c =
    elim c.match-mark.branch [
      | in-Label+then-contains_key w ↦ record {
        small = omega arith;
        read = λ code. carried (λ m u. get_by (λ k. bytes_eq u k.now) m) _ _ _ _ _ _ _ _ (items_more _ _ _ _ _ c.loop-mark-test.true w.in-Label.is) w.number-is w.positions-is (w.fault-is ∙ w.earliest-fault.ensures) (label_again _ _ _ _ _ _ (c.loop-mark.invariant.read code) (sym w.contains_key.ensures ∙ w.if-contains_key.true));
      }
      | in-Label+else-contains_key+in_ok-insert-in-Label w ↦ record {
        small = omega arith;
        read = λ code. carried (λ m u. get_by (λ k. bytes_eq u k.now) m) _ _ _ _ _ _ _ _ (items_more _ _ _ _ _ c.loop-mark-test.true w.in-Label.is) w.number-is w.positions-is w.fault-is (label_new _ _ _ _ _ _ _ (c.loop-mark.invariant.read code) (sym w.contains_key.ensures ∙ w.if-contains_key.false) (λ u. hash_map_updates_str w.in-Label.name.now c.loop-mark.positions w.insert.new.self _ w.in_ok-insert-in-Label.ensures.updates u));
      }
      | in-Instruction w ↦ record {
        small = omega arith;
        read = λ code. carried (λ m u. get_by (λ k. bytes_eq u k.now) m) _ _ _ _ _ _ _ _ (items_more _ _ _ _ _ c.loop-mark-test.true w.in-Instruction.is) w.number-is w.positions-is w.fault-is (instruction_read _ _ _ _ _ _ _ (c.loop-mark.invariant.read code));
      }
    ]
