use Rattle.std.proofs.Common.{◌∙◌, ap, sym}
use Rattle.std.proofs.lemmas.Result.{on_ok_weaker}
use Rattle.fs_model.specs.declared.outcome.Outcome.{Outcome}
use Rattle.fs_model.specs.Condition.{condition_of}
use Rattle.fs_model.specs.Shows.{final_register, final_word}
use Rattle.fs_hart.specs.Steps.{steps_in}
use Rattle.fs_check.specs.Ordered.{runs_in}
use Rattle.fs_app_why.specs.Traces.{cells_in}
use Rattle.fs_app_why.proofs.ends.+push_cells.Goals as goal

pub returns-in-LocationIs : goal.returns-in-LocationIs
returns-in-LocationIs t c =
    let test = c.args.test.now in
    let o = c.args.ordered.now in
    on_ok_weaker c.push_location.result
    (λ is. is
    ∙ ap (λ (said : Outcome). cells_in test.locations (final_register test (steps_in o.candidate.traces))
    (final_word (runs_in test o) o.order.listed) c.args.cells.now.items (condition_of said)) (sym c.in-LocationIs.is))
    c.push_location.ensures
