use Rattle.std.proofs.Common.{rules, string_bytes}
use Rattle.fs_app.proofs.program.answer_check.Goals as goal

pub returns : goal.returns
returns g c = record {
  test_name = search rules;
  prices_name = search rules;
  certificate_name = search rules;
  lines = string_bytes c.in_ok-checked.checked.output.text;
  object = string_bytes c.in_ok-checked.checked.object;
  answer = search rules;
  alike = c.in_ok-checked.ensures.object;
  below = string_bytes c.in_ok-below.below;
  told = search rules;
  text = search rules;
}
