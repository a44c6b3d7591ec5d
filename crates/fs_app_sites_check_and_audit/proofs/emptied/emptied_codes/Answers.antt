use Rattle.std.proofs.Common.{◌∙◌, [], arith, ap, map}
use Rattle.fs_model.proofs.Numbered.{numbered_end}
use Rattle.fs_model_laws.specs.InPlace.{followed_code}
use Rattle.fs_app_sites.specs.Sites.{copy_value}
use Rattle.fs_app_sites_check_and_audit.specs.Copies.{is_copied}
use Rattle.fs_app_sites_check_and_audit.proofs.Pushed.{pushed_numbered}
use Rattle.fs_app_sites_check_and_audit.proofs.emptied.emptied_codes.Goals as goal

pub loop-hart-preserved : goal.loop-hart-preserved
loop-hart-preserved c =
    let made = followed_code (is_copied (map copy_value c.args.copies.now)) [] in
    let hart = c.loop-hart.hart in
    pushed_numbered made c.args.codes.now hart c.index-codes-hart.result c.loop-hart.made.items _ _ (omega arith)
    c.index-codes-hart.is c.in_ok-push.ensures.items
    (c.in_ok-emptied_code.ensures ∙ ap (λ code. made (hart, code)) c.as_slice.ensures) c.loop-hart.invariant

pub returns : goal.returns
returns c =
    c.loop-hart.invariant
    ∙ ap (map (followed_code (is_copied (map copy_value c.args.copies.now)) [])) (numbered_end c.args.codes.now c.loop-hart.hart (omega arith))
