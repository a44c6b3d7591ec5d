use Rattle.std.proofs.Common.{◌∙◌, Bool, IfOk, string_bytes, subst, sym}
use Rattle.fs_app_place_and_order.proofs.Faults.{IfErr-handed}
use Rattle.fs_app_audit.specs.Audit.{of_anew, of_memory}
use Rattle.fs_app_why.specs.Why.{TellsUnless, unwritten_text}
use Rattle.fs_app_audit_json_and_why.specs.Why.{TellsInPlace, of_audit}
use Rattle.fs_app_audit_json_and_why.proofs.why.forbidden_text.Goals as goal

pub returns-in_err-text-clause-fault : goal.returns-in_err-text-clause-fault
returns-in_err-text-clause-fault c =
    IfErr-handed c.from_residual.result _ _ c.from_residual.ensures.1 (λ file priced. of_audit (of_anew of_memory))

pub returns-then-lacks_written-clause-told : goal.returns-then-lacks_written-clause-told
returns-then-lacks_written-clause-told c =
    let telling = c.args.page.telling in
    let P = TellsInPlace c.args.page.test.now c.args.prices.now c.args.page.lines.now telling in
    subst (λ (lacks : Bool). TellsUnless lacks (unwritten_text telling) P (string_bytes c.in_ok-text.text))
    (sym c.if-lacks_written.true ∙ c.lacks_written.ensures) c.in_ok-text.ensures

pub returns-clause-told : goal.returns-clause-told
returns-clause-told c =
    let telling = c.args.page.telling in
    let P = TellsInPlace c.args.page.test.now c.args.prices.now c.args.page.lines.now telling in
    subst (λ (lacks : Bool). IfOk c.in_place_text.result (λ text. TellsUnless lacks (unwritten_text telling) P (string_bytes text)))
    (sym c.if-lacks_written.false ∙ c.lacks_written.ensures) c.in_place_text.ensures.told
