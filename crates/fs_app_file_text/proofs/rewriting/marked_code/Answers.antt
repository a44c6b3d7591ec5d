use Rattle.std.proofs.Common.{map, ap, ◌∙◌, arith}
use Rattle.fs_app_file_text.specs.Rewritten.{marked_instr}
use Rattle.fs_model.proofs.Numbered.{numbered_push_plain, numbered_end}
use Rattle.fs_app_file_text.proofs.rewriting.marked_code.Goals as goal

pub loop-at-preserved : goal.loop-at-preserved
loop-at-preserved c =
    let at = c.loop-at.at in
    numbered_push_plain (marked_instr c.args.placement.now c.args.hart) c.args.code.now at c.index-code-at.result c.loop-at.made.items c.push.new.self.items c.marked_instr.result
    (omega arith) c.index-code-at.is c.in_ok-push.ensures.items c.loop-at.invariant c.marked_instr.ensures

pub returns : goal.returns
returns c =
    c.loop-at.invariant ∙ ap (map (marked_instr c.args.placement.now c.args.hart)) (numbered_end c.args.code.now c.loop-at.at (omega arith))
