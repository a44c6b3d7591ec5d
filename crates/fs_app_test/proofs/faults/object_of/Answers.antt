use Rattle.std.proofs.Common.{rules, ◌≡◌, ◌∙◌, ap, Some, [], ◌∷◌, false}
use Rattle.fs_app_test.specs.declared.said.Line.{Line}
use Rattle.fs_app_test.specs.Report.{json_text}
use Rattle.fs_app_test.proofs.faults.object_of.Goals as goal

pub returns : goal.returns
returns c =
    let line : Line = record {
      name = c.in_ok-line.line.name;
      said = c.in_ok-line.line.said;
      note = Some c.args.note;
      expected = c.in_ok-line.line.expected;
    } in
    let one : c.deref.result.now ≡ line ∷ [] = search rules in
    record {
      line = line;
      names = c.in_ok-line.ensures.said;
      shown = c.in_ok-output.ensures.text ∙ ap (json_text false) one;
    }
