use Rattle.std.proofs.Common.{rules, ◌≡◌, refl, sym, ap, subst, true, false, string_bytes, ◌∙◌}
use Rattle.fs_report.specs.Objects.{json_line}
use Rattle.fs_app_solve_and_check.specs.Found.{Prints, lines_of, value_of}
use Rattle.fs_app_solve_and_check.specs.Solve.{IsSolved}
use Rattle.fs_app_solve_and_check.proofs.Founding.{one-answer}
use Rattle.fs_app.specs.Answers.{in_form}
use Rattle.fs_app.proofs.program.printed.Goals as goal

pub returns-then-not-is_json-clause-answer : goal.returns-then-not-is_json-clause-answer
returns-then-not-is_json-clause-answer c = λ test prices limit is.
    let answer = c.args.found.now.solved.answer in
    let object = json_line (value_of answer) in
    let same = c.in_ok-output.ensures.lines in
    let no : c.args.is_json ≡ false = search rules in
    record {
      object = object;
      answer = subst (λ text. IsSolved test prices text c.in_ok-output.output.status) same (c.in_ok-output.ensures.answer test prices limit is);
      alike = one-answer answer object refl;
      shown = same ∙ ap (λ form. in_form form (lines_of answer) object) (sym no);
    }

pub returns-then-not-is_json-clause-prints : goal.returns-then-not-is_json-clause-prints
returns-then-not-is_json-clause-prints c =
    subst (λ text. Prints c.args.found.now.solved.answer text c.in_ok-output.output.status) c.in_ok-output.ensures.lines
    c.in_ok-output.ensures.prints

pub returns-clause-answer : goal.returns-clause-answer
returns-clause-answer c = λ test prices limit is.
    let answer = c.args.found.now.solved.answer in
    let object = string_bytes c.in_ok-object.object in
    let yes : c.args.is_json ≡ true = search rules in
    record {
      object = object;
      answer = subst (λ text. IsSolved test prices text c.in_ok-output.output.status) c.in_ok-output.ensures.lines (c.in_ok-output.ensures.answer test prices limit is);
      alike = c.in_ok-object.ensures.alike;
      shown = ap (λ form. in_form form (lines_of answer) object) (sym yes);
    }

pub returns-clause-prints : goal.returns-clause-prints
returns-clause-prints c =
    subst (λ text. Prints c.args.found.now.solved.answer text c.in_ok-output.output.status) c.in_ok-output.ensures.lines
    c.in_ok-output.ensures.prints
