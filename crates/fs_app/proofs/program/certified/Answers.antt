use Rattle.std.proofs.Common.{◌≡◌, ℕ, List, IfOk, None, refl, rules, string_bytes, subst, sym}
use Rattle.fs_app_solve_and_check.specs.Found.{lines_of}
use Rattle.fs_app_solve_and_check.specs.Solve.{IsCertified}
use Rattle.fs_app.specs.Answers.{IsSolvedAndTold, IsSolvedIn}
use Rattle.fs_app.specs.Telling.{telling_of}
use Rattle.fs_app.proofs.Told.{solved_alone}
use Rattle.fs_app.proofs.program.certified.Goals as goal

pub returns-then-not-needs_certificate : goal.returns-then-not-needs_certificate
returns-then-not-needs_certificate g c =
    let no : telling_of c.args.solve.now.why ≡ None = search rules in
    solved_alone c.args.solve.now.json (telling_of c.args.solve.now.why) _ _ _ c.args.output no c.requires.answer

pub returns : goal.returns
returns g c =
    let test : List ℕ = c.args.papers.now.test.bytes.items in
    let prices : List ℕ = c.args.papers.now.prices.bytes.items in
    let lines : List ℕ = lines_of c.args.found.now.solved.answer in
    let certified : IsCertified test prices lines c.args.output.status (string_bytes c.in_ok-certificate.certificate) =
    c.in_ok-certificate.ensures.certificate test prices lines c.requires.found.0 c.args.output.status
    c.requires.found.1 c.requires.prints refl in
    subst (λ (it : List ℕ). IfOk c.solve_why.result
    (IsSolvedAndTold c.args.solve.now.json (telling_of c.args.solve.now.why) it prices)) c.deref.ensures.value
    (subst (λ asked. IfOk c.solve_why.result (IsSolvedAndTold c.args.solve.now.json asked c.deref.result.now prices))
    c.telling_of.ensures
    (c.solve_why.ensures c.args.solve.now.json prices lines
    (subst (λ (it : List ℕ). IsSolvedIn c.args.solve.now.json it prices lines (string_bytes c.args.output.text)
    c.args.output.status) (sym c.deref.ensures.value) c.requires.answer)
    (subst (λ (it : List ℕ). IsCertified it prices lines c.args.output.status c.as_bytes-2.result.now)
    (sym c.deref.ensures.value)
    (subst (λ (it : List ℕ). IsCertified test prices lines c.args.output.status it)
    (sym c.as_bytes-2.ensures.value) certified))))
