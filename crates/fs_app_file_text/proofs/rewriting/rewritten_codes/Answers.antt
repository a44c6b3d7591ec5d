use Rattle.std.proofs.Common.{map, ap, ◌∙◌, arith}
use Rattle.fs_app_file_text.specs.Rewritten.{rewritten_code}
use Rattle.fs_model.proofs.Numbered.{numbered_push_plain, numbered_end}
use Rattle.fs_app_file_text.proofs.rewriting.rewritten_codes.Goals as goal

pub loop-hart-preserved : goal.loop-hart-preserved
loop-hart-preserved c =
    let hart = c.loop-hart.hart in
    numbered_push_plain (rewritten_code c.args.placement.now) c.args.codes.now hart c.index-codes-hart.result c.loop-hart.made.items c.push.new.self.items c.in_ok-rewritten_code.field-0
    (omega arith) c.index-codes-hart.is c.in_ok-push.ensures.items c.loop-hart.invariant
    (c.in_ok-rewritten_code.ensures ∙ ap (λ code. rewritten_code c.args.placement.now (hart, code)) c.as_slice.ensures)

pub returns : goal.returns
returns c =
    c.new.ensures ∙ c.loop-hart.invariant ∙ ap (map (rewritten_code c.args.placement.now)) (numbered_end c.args.codes.now c.loop-hart.hart (omega arith))
