use Rattle.std.proofs.Common.{◌∙◌}
use Rattle.fs_hart.specs.Steps.{steps_in}
use Rattle.fs_model_brute_force.proofs.Cases.{among_is_rule}
use Rattle.fs_model_brute_force.proofs.rules.Executed.rule.Goals as goal

pub returns : goal.returns
returns c x same of =
    let e = c.args.self.now in
    c.rule_among.ensures
    ∙ among_is_rule x e.operations.now (steps_in e.traces.now) e.placement.now e.sources.now c.args.a c.args.b c.args.n same of
