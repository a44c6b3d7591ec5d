use Rattle.std.proofs.Common.{◌++◌, ◌∙◌, arith, ap, flat_map}
use Rattle.fs_model.proofs.Numbered.{numbered_end, numbered_text}
use Rattle.fs_app_audit.specs.Audit.{written_fence}
use Rattle.fs_app_audit.proofs.findings.push_fences.Goals as goal

pub loop-at-preserved : goal.loop-at-preserved
loop-at-preserved c =
    numbered_text (written_fence c.args.hart c.args.code.now) c.args.code.now c.loop-at.at c.index-code-at.result
    c.args.fences.now.items c.loop-at.fences.items _
    (omega arith) c.index-code-at.is c.in_ok-push_fence.ensures c.loop-at.invariant

pub returns : goal.returns
returns c =
    c.loop-at.invariant
    ∙ ap (λ is. c.args.fences.now.items ++ flat_map (written_fence c.args.hart c.args.code.now) is)
    (numbered_end c.args.code.now c.loop-at.at (omega arith))
