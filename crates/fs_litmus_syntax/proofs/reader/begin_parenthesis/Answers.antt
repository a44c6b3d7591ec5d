use Rattle.std.proofs.Common.{◌∙◌, ap, [], Some}
use Rattle.fs_litmus_syntax.specs.Machine.{Begin, empty, at}
use Rattle.fs_litmus_syntax.specs.Views.{below_of}
use Rattle.fs_litmus_syntax.proofs.Below.{below_of_push}
use Rattle.fs_litmus_syntax.proofs.reader.begin_parenthesis.Goals as goal

pub returns : goal.returns
returns c =
    ap (λ l. Some (at Begin l (below_of c.push.new.self.items []))) c.new.ensures
    ∙ ap (λ fs. Some (at Begin empty fs)) (ap (λ ls. below_of ls []) c.in_ok-push.ensures.items ∙ below_of_push c.args.below.items c.args.layer [])
