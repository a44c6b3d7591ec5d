use Rattle.std.proofs.Common.{◌++◌, ◌∙◌, arith, ap, flat_map}
use Rattle.fs_model.proofs.Numbered.{numbered_end, numbered_flat}
use Rattle.fs_app_audit.specs.Audit.{code_fences}
use Rattle.fs_app_audit.proofs.findings.written_fences.Goals as goal

pub loop-hart-preserved : goal.loop-hart-preserved
loop-hart-preserved c =
    numbered_flat code_fences c.args.codes.now c.loop-hart.hart c.index-codes-hart.result
    c.loop-hart.fences.items _ (omega arith) c.index-codes-hart.is
    (c.in_ok-push_fences.ensures ∙ ap (λ code. c.loop-hart.fences.items ++ code_fences (c.loop-hart.hart, code)) c.as_slice.ensures) c.loop-hart.invariant

pub returns : goal.returns
returns c = c.loop-hart.invariant ∙ ap (flat_map code_fences) (numbered_end c.args.codes.now c.loop-hart.hart (omega arith))
