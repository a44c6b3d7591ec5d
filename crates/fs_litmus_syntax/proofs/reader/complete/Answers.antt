use Rattle.std.proofs.Common.{sym, ◌∙◌, arith, false-eqb}
use Rattle.fs_litmus_syntax.specs.Views.{subformula_of, layer_of}
use Rattle.fs_litmus_syntax.proofs.Below.{not_completed}
use Rattle.fs_litmus_syntax.proofs.reader.complete.Goals as goal

pub returns-then-not-is_empty : goal.returns-then-not-is_empty
returns-then-not-is_empty c =
    let some = false-eqb _ 0 (sym c.if-not-is_empty.true ∙ c.is_empty.ensures) in
    sym (not_completed (subformula_of c.args.unit) (layer_of c.args.layer) c.args.below.items (omega (arith, some, c.args.below.ok.0)))
