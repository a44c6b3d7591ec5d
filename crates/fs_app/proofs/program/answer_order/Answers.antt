use Rattle.std.proofs.Common.{rules, string_bytes}
use Rattle.fs_app.proofs.program.answer_order.Goals as goal

pub returns : goal.returns
returns g c = record {
  test_name = search rules;
  witness_name = search rules;
  lines = string_bytes c.in_ok-verdict.verdict.text;
  below = string_bytes c.in_ok-below.below;
  answer = search rules;
  told = search rules;
  text = c.in_ok-output.ensures.text;
}
