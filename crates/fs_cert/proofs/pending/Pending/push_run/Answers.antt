use Rattle.std.proofs.Common.{◌+◌, ◌-◌, ◌∙◌, ap, ◌∷◌, arith}
use Rattle.fs_cert.proofs.Runs.{one_before}
use Rattle.fs_cert.proofs.pending.Pending.push_run.Goals as goal

pub loop-place-preserved : goal.loop-place-preserved
loop-place-preserved c =
    c.in_ok-push.ensures
    ∙ (ap (λ nodes. (c.args.first + (c.loop-place.place - 1)) ∷ nodes) c.loop-place.invariant
    ∙ one_before c.args.first c.loop-place.place c.args.count c.args.self.now (omega (arith, c.loop-place-test.true)) (omega (arith, c.loop-place.auto.place)))
