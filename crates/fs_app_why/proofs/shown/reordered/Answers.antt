use Rattle.std.proofs.Common.{IfSome, refl, subst, sym, ◌∙◌}
use Rattle.fs_model.specs.Witness.{Witness}
use Rattle.fs_cert_evidence.specs.Shown.{ShowsAs}
use Rattle.fs_check.specs.Ordered.{execution_in}
use Rattle.fs_app_why.proofs.Reordering.{reordered_told}
use Rattle.fs_app_why.proofs.shown.reordered.Goals as goal

pub returns-then-same-clause-some : goal.returns-then-same-clause-some
returns-then-same-clause-some c = λ w chosen shown.
    let t = c.args.test.now in
    let p = c.args.placement.now in
    let v : Witness = record { choices = c.args.choices.now; order = c.args.order.now } in
    let o = c.in-Some.other in
    let others : ShowsAs t p v (execution_in o) =
    subst (λ found. IfSome found (λ x. ShowsAs t p v (execution_in x))) c.in-Some.is (c.in_ok-other.ensures.some v refl refl) in
    reordered_told t p w v (execution_in c.args.found.now) (execution_in o) chosen shown others (sym c.in_ok-same.ensures ∙ c.if-same.true)
