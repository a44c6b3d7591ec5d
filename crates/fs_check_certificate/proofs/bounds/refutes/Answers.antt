use Rattle.std.proofs.Common.{Some, sym, subst}
use Rattle.fs_kinds.specs.declared.kind.Kind.TheVariants.{RwRw}
use Rattle.fs_board_offers.specs.Parts.{filled}
use Rattle.fs_board_offers.specs.Valid.{Refutes}
use Rattle.fs_check_certificate.specs.Leaves.{Decides}
use Rattle.fs_check_certificate.proofs.Refuting.{refuted}
use Rattle.fs_check_certificate.proofs.bounds.refutes.Goals as goal

pub returns : goal.returns
returns c t ws bounded same are =
    subst (λ b. Decides b (Refutes t ws (filled c.args.part.now) c.args.number)) (sym c.is_shown_under.ensures)
    (refuted t bounded c.args.part.now same (Some RwRw) ws c.args.shown.now are c.args.number)
