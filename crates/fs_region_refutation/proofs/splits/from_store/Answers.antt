use Rattle.std.proofs.Common.{IfSome, subst}
use Rattle.fs_region_refutation.specs.Views.{IsOf}
use Rattle.fs_region_refutation.proofs.splits.from_store.Goals as goal

pub returns-in_ok-sourced-in-Some-clause-of : goal.returns-in_ok-sourced-in-Some-clause-of
returns-in_ok-sourced-in-Some-clause-of c = λ t of.
    c.in_ok-sourced-in-Some.ensures.of t (subst (λ found. IfSome found (IsOf t)) c.in-Some.is (c.in_ok-smaller.ensures.of t of))
