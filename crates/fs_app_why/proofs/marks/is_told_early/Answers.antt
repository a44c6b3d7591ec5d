use Rattle.std.proofs.Common.{◌∙◌, ap}
use Rattle.fs_model.specs.declared.operation.Operation.{Operation}
use Rattle.fs_app_why.specs.Traces.{marks_early}
use Rattle.fs_app_why.proofs.marks.is_told_early.Goals as goal

pub returns : goal.returns
returns c = c.marks_early.ensures ∙ ap (λ (o : Operation). marks_early c.args.told.now o.hart) c.operation.ensures
