use Rattle.fs_model_laws.proofs.FencedChoices.{keeps_choices, keeps_apart}
use Rattle.fs_model_laws.proofs.fenced.fences_keep_runs.Goals as goal

pub returns-clause-choices : goal.returns-clause-choices
returns-clause-choices c = keeps_choices

pub returns-clause-apart : goal.returns-clause-apart
returns-clause-apart c = keeps_apart
