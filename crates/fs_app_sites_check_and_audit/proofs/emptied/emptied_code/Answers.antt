use Rattle.std.proofs.Common.{◌∙◌, [], arith, ap, map}
use Rattle.fs_model.proofs.Numbered.{numbered_end}
use Rattle.fs_model_laws.specs.InPlace.{followed_instr}
use Rattle.fs_app_sites.specs.Sites.{copy_value}
use Rattle.fs_app_sites_check_and_audit.specs.Copies.{is_copied}
use Rattle.fs_app_sites_check_and_audit.proofs.Pushed.{pushed_numbered}
use Rattle.fs_app_sites_check_and_audit.proofs.emptied.emptied_code.Goals as goal

pub loop-at-preserved : goal.loop-at-preserved
loop-at-preserved c =
    pushed_numbered (followed_instr (is_copied (map copy_value c.args.copies.now)) [] c.args.hart) c.args.code.now
    c.loop-at.at c.index-code-at.result c.loop-at.made.items _ _ (omega arith) c.index-code-at.is c.in_ok-push.ensures.items
    c.emptied_instr.ensures c.loop-at.invariant

pub returns : goal.returns
returns c =
    c.new.ensures
    ∙ c.loop-at.invariant
    ∙ ap (map (followed_instr (is_copied (map copy_value c.args.copies.now)) [] c.args.hart))
    (numbered_end c.args.code.now c.loop-at.at (omega arith))
