use Rattle.std.proofs.Common.{◌≡◌, ◌++◌, option_map, ◌+◌, sym, ◌∙◌, ap, None, drop}
use Rattle.std.proofs.lemmas.List.{drop_more}
use Rattle.fs_cand.specs.inner.NamedOrder.{numbers_of}
use Rattle.fs_cand.proofs.NamedOrder.{one_more, no_more, none_kept}
use Rattle.fs_check.proofs.names.numbers.Goals as goal

pub returns-in_default-clause-ok : goal.returns-in_default-clause-ok
returns-in_default-clause-ok c =
    let past : numbers_of c.args.names.now (drop c.loop-name.name-index c.args.wanted.now) ≡ None =
    no_more c.args.names.now _ _ _ (drop_more c.args.wanted.now c.loop-name.name-index None c.loop-name-test.true) (sym c.number.ensures ∙ c.in_default.is) in
    none_kept _ _ _ past c.loop-name.invariant

pub loop-name-preserved : goal.loop-name-preserved
loop-name-preserved c =
    ap (λ items. option_map (λ rest. items ++ rest) (numbers_of c.args.names.now (drop (c.loop-name.name-index + 1) c.args.wanted.now))) c.in_ok-push.ensures.items
    ∙ one_more c.args.names.now _ _ c.loop-name.order.items _ c.in-Some.number (drop_more c.args.wanted.now c.loop-name.name-index None c.loop-name-test.true) (sym c.number.ensures ∙ c.in-Some.is)
    ∙ c.loop-name.invariant
