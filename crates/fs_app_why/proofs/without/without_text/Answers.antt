use Rattle.std.proofs.Common.{Option, IfOk, subst, sym, string_bytes}
use Rattle.fs_kinds.specs.declared.kind.Kind.{Kind}
use Rattle.fs_app_why.specs.Why.{NoWitnessShows, TellsWithout}
use Rattle.fs_app_why.proofs.without.without_text.Goals as goal

pub returns-in-Some-clause-told : goal.returns-in-Some-clause-told
returns-in-Some-clause-told c ws kept =
    let t = c.args.test.now in
    subst (λ (kind : Option Kind). IfOk c.first_text.result (λ text.
    TellsWithout t c.args.lines.now ws (NoWitnessShows t ws) c.args.placement.now c.args.entry.slot kind (string_bytes text)))
    (sym c.in-Some.is) (c.first_text.ensures.told ws kept)
