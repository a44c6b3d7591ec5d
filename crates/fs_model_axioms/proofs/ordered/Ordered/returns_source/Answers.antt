use Rattle.std.proofs.Common.{◌∙◌}
use Rattle.fs_model.specs.Source.{source_in}
use Rattle.fs_model_axioms.proofs.ordered.Ordered.returns_source.Goals as goal

pub returns : goal.returns
returns c x e =
    c.returns_source.ensures x (source_in x c.args.self.now.listed) (c.operations.ensures ∙ e) (c.source.ensures x e)
