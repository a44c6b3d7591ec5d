use Rattle.std.proofs.Common.{◌∙◌}
use Rattle.fs_hart.specs.Steps.{steps_in}
use Rattle.fs_model_brute_force.proofs.Cases.{any_among}
use Rattle.fs_model_brute_force.proofs.rules.Executed.ppo.Goals as goal

pub returns : goal.returns
returns c x same of =
    let e = c.args.self.now in
    c.any_rule.ensures
    ∙ any_among x e.operations.now (steps_in e.traces.now) e.placement.now e.sources.now c.args.a c.args.b same of
