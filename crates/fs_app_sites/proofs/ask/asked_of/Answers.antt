use Rattle.std.proofs.Common.{subst, sym}
use Rattle.serde_json.specs.View.{view}
use Rattle.fs_sites.specs.Questions.{IsQuestion}
use Rattle.fs_app_sites.proofs.Questions.{is-question}
use Rattle.fs_app_sites.proofs.ask.asked_of.Goals as goal

pub returns-clause-question : goal.returns-clause-question
returns-clause-question c =
    subst IsQuestion (sym c.in_ok-question.ensures.value) (is-question _ (view c.args.prices.now) _ c.requires.top c.requires.sound)
