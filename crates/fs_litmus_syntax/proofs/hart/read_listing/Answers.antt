use Rattle.std.proofs.Common.{sym, subst}
use Rattle.fs_litmus_syntax.specs.Labels.{IsLabelFault}
use Rattle.fs_kinds.specs.FaultOrder.{IsFirstOf}
use Rattle.fs_litmus_syntax.proofs.CodeLemmas.{label_first}
use Rattle.fs_litmus_syntax.proofs.hart.read_listing.Goals as goal

pub code_of-requires-clause-first : goal.code_of-requires-clause-first
code_of-requires-clause-first c =
    let hart = c.args.listing.now in
    subst (λ o. IsFirstOf (IsLabelFault hart) o) (sym c.earliest.ensures) (label_first hart _ _ c.in_ok-positions.ensures.twice c.first_stray-stray.ensures)
