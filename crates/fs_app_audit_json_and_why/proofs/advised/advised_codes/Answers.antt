use Rattle.std.proofs.Common.{map, ap, ◌∙◌, arith}
use Rattle.std.specs.List.{enumerate_from}
use Rattle.fs_model.proofs.Numbered.{numbered_push_plain, numbered_end}
use Rattle.fs_model_laws.specs.InPlace.{followed_code}
use Rattle.fs_app_audit_json_and_why.specs.Advised.{is_changed}
use Rattle.fs_app_audit_json_and_why.proofs.advised.advised_codes.Goals as goal

pub loop-hart-preserved : goal.loop-hart-preserved
loop-hart-preserved c =
    let hart = c.loop-hart.hart in
    let f = followed_code (is_changed c.args.test.now c.args.placement.now) c.args.placement.now in
    numbered_push_plain f c.as_slice-codes.result.now hart c.index-codes-hart.result c.loop-hart.made.items c.push.new.self.items
    c.in_ok-advised_code.field-0 (omega arith) c.index-codes-hart.is c.in_ok-push.ensures.items c.loop-hart.invariant
    (c.in_ok-advised_code.ensures ∙ ap (λ code. f (hart, code)) c.as_slice.ensures)

pub returns : goal.returns
returns c =
    let f = followed_code (is_changed c.args.test.now c.args.placement.now) c.args.placement.now in
    c.new.ensures
    ∙ c.loop-hart.invariant
    ∙ ap (map f) (numbered_end c.as_slice-codes.result.now c.loop-hart.hart (omega arith))
    ∙ ap (λ codes. map f (enumerate_from 0 codes)) c.as_slice-codes.ensures
