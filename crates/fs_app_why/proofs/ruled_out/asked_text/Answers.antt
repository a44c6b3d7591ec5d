use Rattle.std.proofs.Common.{◌∙◌, Bool, IfOk, IfSome, ap, string_bytes, subst, sym}
use Rattle.std.specs.Arc.{arc_value}
use Rattle.fs_app_why.specs.Why.{TellsForbidden, TellsUnless, lacks_written, unwritten_text}
use Rattle.fs_app_why.proofs.ruled_out.asked_text.Goals as goal

pub returns-then-lacks_written-clause-some : goal.returns-then-lacks_written-clause-some
returns-then-lacks_written-clause-some c =
    let telling = c.args.telling in
    let P = TellsForbidden (arc_value c.args.test.now) c.args.lines.now telling c.args.placement.now in
    subst (λ (lacks : Bool). TellsUnless lacks (unwritten_text telling) P (string_bytes c.in_ok-text.text))
    (sym c.if-lacks_written.true ∙ c.lacks_written.ensures ∙ ap (lacks_written telling) c.deref.ensures) c.in_ok-text.ensures

pub returns-clause-some : goal.returns-clause-some
returns-clause-some c =
    let telling = c.args.telling in
    let P = TellsForbidden (arc_value c.args.test.now) c.args.lines.now telling c.args.placement.now in
    subst (λ (lacks : Bool). IfOk c.forbidden_text.result (λ found. IfSome found (λ text.
    TellsUnless lacks (unwritten_text telling) P (string_bytes text))))
    (sym c.if-lacks_written.false ∙ c.lacks_written.ensures ∙ ap (lacks_written telling) c.deref.ensures) c.forbidden_text.ensures.some
