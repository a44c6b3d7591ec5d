use Rattle.std.proofs.Common.{ap, ◌∙◌}
use Rattle.fs_model.specs.Fenced.{fenced}
use Rattle.fs_model.specs.Printed.{printed}
use Rattle.fs_app_file_text.proofs.Unfenced.{unfenced}
use Rattle.fs_app_file_text.proofs.reread.print.Goals as goal

pub returns-in-Ok-clause-ok : goal.returns-in-Ok-clause-ok
returns-in-Ok-clause-ok c =
    c.in-Ok.ensures.ok ∙ ap (λ p. printed (fenced c.args.test.now p)) c.in_ok-none.ensures.ok
    ∙ ap printed (unfenced c.args.test.now c.deref.result.now)
