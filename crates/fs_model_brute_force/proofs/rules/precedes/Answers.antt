use Rattle.std.proofs.Common.{◌∙◌, ap₂}
use Rattle.fs_model.specs.Operations.{precedes}
use Rattle.fs_model_brute_force.proofs.rules.precedes.Goals as goal

pub returns : goal.returns
returns c = c.precedes.ensures ∙ ap₂ precedes c.numbered.ensures c.numbered-2.ensures
