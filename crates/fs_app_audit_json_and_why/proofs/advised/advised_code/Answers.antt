use Rattle.std.proofs.Common.{map, ap, ◌∙◌, arith}
use Rattle.fs_model.proofs.Numbered.{numbered_push_plain, numbered_end}
use Rattle.fs_model_laws.specs.InPlace.{followed_instr}
use Rattle.fs_app_audit_json_and_why.specs.Advised.{is_changed}
use Rattle.fs_app_audit_json_and_why.proofs.advised.advised_code.Goals as goal

pub loop-at-preserved : goal.loop-at-preserved
loop-at-preserved c =
    let f = followed_instr (is_changed c.args.test.now c.args.placement.now) c.args.placement.now c.args.hart in
    numbered_push_plain f c.args.code.now c.loop-at.at c.index-code-at.result c.loop-at.made.items c.push.new.self.items c.advised_instr.result
    (omega arith) c.index-code-at.is c.in_ok-push.ensures.items c.loop-at.invariant c.advised_instr.ensures

pub returns : goal.returns
returns c =
    let f = followed_instr (is_changed c.args.test.now c.args.placement.now) c.args.placement.now c.args.hart in
    c.new.ensures ∙ c.loop-at.invariant ∙ ap (map f) (numbered_end c.args.code.now c.loop-at.at (omega arith))
