use Rattle.std.proofs.Common.{string_bytes, subst, sym}
use Rattle.fs_app_sites.specs.Solved.{IsSolved}
use Rattle.fs_app.specs.Answers.{AnswersSites, answered}
use Rattle.fs_app.proofs.sites.answer_sites.Goals as goal

pub returns-in-Ok : goal.returns-in-Ok
returns-in-Ok g c =
    let output = c.in-Ok.solved.output in
    let found = c.in-Ok.ensures in
    subst (AnswersSites c.args.sites.now c.read_prices.new.self) (sym c.noted.ensures)
    (answered found.0 found.1 c.in_ok-read_prices.ensures.name
    (subst (λ prices. IsSolved c.args.sites.now.json found.0 prices (string_bytes output.text) output.status) c.deref-4.ensures.value found.2))
