use Rattle.std.proofs.Common.{sym, ◌∙◌, arith}
use Rattle.fs_litmus_syntax.proofs.LabelLemmas.{position_small}
use Rattle.fs_litmus_syntax.proofs.branches.with_label.Goals as goal

pub overflow_cast-position : goal.overflow_cast-position
overflow_cast-position c =
    let low = position_small c.in-Some.name.now c.args.listing.now c.in-Some-get.position.now (sym (c.requires.positions c.in-Some.name.now) ∙ sym c.in-Some-get.ensures.value) in
    omega (arith, low, c.requires.short)
