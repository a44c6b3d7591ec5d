use Rattle.std.proofs.Common.{◌∙◌, ap}
use Rattle.fs_model.specs.Source.{source_in}
use Rattle.fs_model.specs.Tests.{keeps_atomicity}
use Rattle.fs_model_axioms.proofs.ordered.Ordered.keeps_atomicity.Goals as goal

pub returns : goal.returns
returns c x e of =
    let rf = source_in x c.args.self.now.listed in
    c.keeps_atomicity.ensures x rf (c.operations.ensures ∙ e) of (c.source.ensures x e)
    ∙ ap (λ order. keeps_atomicity x rf order c.args.r c.args.w) (c.order.ensures x e)
