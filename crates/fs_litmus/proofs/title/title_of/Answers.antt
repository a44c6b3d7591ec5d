use Rattle.std.proofs.Common.{ap, sym, subst}
use Rattle.std.specs.Prelude.{IfSome}
use Rattle.fs_litmus.specs.Title.{IsTitled}
use Rattle.fs_litmus.proofs.title.title_of.Goals as goal

pub returns-clause-named : goal.returns-clause-named
returns-clause-named c =
    subst (λ t. IfSome c.name_of.result (λ name. IsTitled t name.now)) (ap (λ x. x.0) c.skip_top.ensures.value) c.name_of.ensures.named

pub returns-clause-absent : goal.returns-clause-absent
returns-clause-absent c = λ none name h.
    c.name_of.ensures.absent none name (subst (λ t. IsTitled t name) (sym (ap (λ x. x.0) c.skip_top.ensures.value)) h)
