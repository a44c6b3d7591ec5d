use Rattle.std.proofs.Common.{◌∙◌, ap, sym, [], Some}
use Rattle.fs_litmus_syntax.specs.Machine.{AfterUnit, at, closed}
use Rattle.fs_litmus_syntax.specs.Limited.{limited, in_parentheses}
use Rattle.fs_litmus_syntax.specs.Views.{subformula_of, layer_of, below_of}
use Rattle.fs_litmus_syntax.proofs.Below.{below_of_push}
use Rattle.fs_litmus_syntax.proofs.reader.close.Goals as goal

pub returns : goal.returns
returns c =
    let outer = c.in-Some.outer in
    let below = below_of c.pop.new.self.items [] in
    let popped = ap (λ ls. below_of ls []) c.in-Some.ensures.items ∙ below_of_push c.pop.new.self.items outer [] in
    ap (λ u. Some (at (AfterUnit u) (layer_of outer) below)) (c.in_parentheses.ensures ∙ ap in_parentheses c.in_ok-subformula-in-Some.ensures)
    ∙ sym (ap (λ fs. closed limited (layer_of c.args.layer) fs (subformula_of c.args.unit)) popped)
