use Rattle.std.proofs.Common.{◌∙◌, sym, refl, arith}
use Rattle.fs_app_error_messages.proofs.Walking.{alike, second_step, inner_step, outer_step, plain_step, comment_here}
use Rattle.fs_app_error_messages.proofs.walk.comment_len.Goals as goal
use Rattle.fs_app_error_messages.proofs.walk.comment_len.Goals.{then-is_second, else-is_second+then-ends_comment+else-inner-eq0, else-is_second+else-ends_comment+then-begins_comment, else-is_second+else-ends_comment+else-begins_comment}

pub returns-then-inner-eq0-clause-value : goal.returns-then-inner-eq0-clause-value
returns-then-inner-eq0-clause-value c =
    comment_here c.args.bytes.now c.loop-i.i 0 _ c.loop-i-test.true c.from-after.ensures _ c.ends_comment.ensures c.if-ends_comment.true
    ∙ alike _ _ _ _ _ (sym c.if-inner-eq0.true) (sym c.if-is_second.false)
    ∙ c.loop-i.invariant.same

pub loop-i-preserved : goal.loop-i-preserved
loop-i-preserved c =
    record {
      few = elim c.if-is_second.branch [
        | then-is_second w ↦ omega (arith, w.inner-is, c.loop-i.invariant.few)
        | else-is_second+then-ends_comment+else-inner-eq0 w ↦ omega (arith, w.inner-is, c.loop-i.invariant.few)
        | else-is_second+else-ends_comment+then-begins_comment w ↦ omega (arith, w.inner-is, c.loop-i.invariant.few)
        | else-is_second+else-ends_comment+else-begins_comment w ↦ omega (arith, w.inner-is, c.loop-i.invariant.few)
      ];
      same = elim c.if-is_second.branch [
        | then-is_second w ↦
            alike _ _ _ _ _ w.inner-is w.is_second-is
            ∙ second_step c.args.bytes.now c.loop-i.i 0 _ c.loop-i-test.true c.from-after.ensures _
            ∙ alike _ _ _ _ _ refl (sym w.if-is_second.true)
        | else-is_second+then-ends_comment+else-inner-eq0 w ↦
            alike _ _ _ _ _ w.inner-is w.is_second-is
            ∙ inner_step c.args.bytes.now c.loop-i.i 0 _ c.loop-i-test.true c.from-after.ensures _ _ (grind (arith, w.if-inner-eq0.false)) w.ends_comment.ensures w.if-ends_comment.true
            ∙ alike _ _ _ _ _ refl (sym w.if-is_second.false)
        | else-is_second+else-ends_comment+then-begins_comment w ↦
            alike _ _ _ _ _ w.inner-is w.is_second-is
            ∙ outer_step c.args.bytes.now c.loop-i.i 0 _ c.loop-i-test.true c.from-after.ensures _ _ _ w.ends_comment.ensures w.if-ends_comment.false w.begins_comment.ensures w.if-begins_comment.true
            ∙ alike _ _ _ _ _ refl (sym w.if-is_second.false)
        | else-is_second+else-ends_comment+else-begins_comment w ↦
            alike _ _ _ _ _ w.inner-is (w.is_second-is ∙ w.if-is_second.false)
            ∙ plain_step c.args.bytes.now c.loop-i.i 0 _ c.loop-i-test.true c.from-after.ensures _ _ _ w.ends_comment.ensures w.if-ends_comment.false w.begins_comment.ensures w.if-begins_comment.false
            ∙ alike _ _ _ _ _ refl (sym w.if-is_second.false)
      ] ∙ c.loop-i.invariant.same;
    }
