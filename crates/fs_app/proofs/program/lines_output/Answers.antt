use Rattle.std.proofs.Common.{map, rules, string_bytes, subst}
use Rattle.fs_app.specs.Telling.{AreTold, IsToldBy}
use Rattle.fs_app.proofs.program.lines_output.Goals as goal

pub returns : goal.returns
returns c =
    let lines = c.args.judged.now.lines.items in
    let tests = map (λ test. test.items) c.args.judged.now.tests.items in
    let below = string_bytes c.in_ok-below.below in
    record {
      lines = lines;
      tests = tests;
      judged = c.requires;
      below = below;
      told = subst (λ asked. IsToldBy asked (λ telling. AreTold telling lines tests) below) c.telling_of.ensures
          (subst (λ these. IsToldBy c.telling_of.result (λ telling. AreTold telling these tests) below) c.deref-2.ensures.value
          (subst (λ these. IsToldBy c.telling_of.result
          (λ telling. AreTold telling c.deref-2.result.now (map (λ test. test.items) these)) below)
          c.deref-3.ensures.value c.in_ok-below.ensures));
      text = search rules;
      ends = search rules;
    }
