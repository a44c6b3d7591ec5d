use Rattle.std.proofs.Common.{◌≡◌, ◌<◌, List, [], ◌∷◌, length, Bool, IsTrue, ◌==◌, refl, arith, sym, ap, subst}
use Rattle.fs_kinds.specs.declared.placement.Entry.{Entry}
use Rattle.fs_board_offers.proofs.costs.+is_same.Goals as goal

at_end : (p q : List Entry) (b : Bool) → length p < 1 → b ≡ (length q == 0) → p ≡ q → IsTrue b
at_end p [] b l e i = subst IsTrue (sym e) refl
at_end p (d ∷ ds) b l e i = let n = ap length i in absurd (omega arith)

pub returns-in_default-clause-no : goal.returns-in_default-clause-no
returns-in_default-clause-no t c = at_end c.args.placement.now c.args.other.now c.is_empty.result c.in_default.len_below c.is_empty.ensures
