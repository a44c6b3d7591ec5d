use Rattle.std.proofs.Common.{sym, ◌∙◌, arith, false-eqb}
use Rattle.fs_litmus_syntax.specs.Views.{place_of, layer_of}
use Rattle.fs_litmus_syntax.proofs.Below.{not_ended}
use Rattle.fs_litmus_syntax.proofs.reader.finish.Goals as goal

pub returns-then-not-is_empty : goal.returns-then-not-is_empty
returns-then-not-is_empty c =
    let r = c.args.reader in
    let some = false-eqb _ 0 (sym c.if-not-is_empty.true ∙ c.is_empty.ensures) in
    c.whole_of.ensures ∙ sym (not_ended (place_of r.place) (layer_of r.layer) r.below.items (omega (arith, some, r.below.ok.0)))
