use Rattle.std.proofs.Common.{◌≡◌, ◌++◌, ◌+◌, None, option_map, drop, sym, ◌∙◌, ap}
use Rattle.fs_cand.specs.inner.NamedOrder.{numbers_of}
use Rattle.fs_cand.proofs.NamedOrder.{one_more, no_more, none_kept}
use Rattle.fs_check_certificate.specs.Cycles.{names_in, wanted}
use Rattle.fs_check_certificate.proofs.Looked.{wanted_more}
use Rattle.fs_check_certificate.proofs.cycles.numbers.Goals as goal

pub returns-in_default-clause-ok : goal.returns-in_default-clause-ok
returns-in_default-clause-ok c =
    let names = names_in c.args.candidate.now in
    let links = c.args.links.now in
    let past : numbers_of names (wanted (drop c.loop-link.link-index links)) ≡ None =
    no_more names _ _ _ (wanted_more links c.loop-link.link-index _ c.loop-link-test.true) (sym c.number.ensures ∙ c.in_default.is) in
    none_kept _ _ _ past c.loop-link.invariant

pub loop-link-preserved : goal.loop-link-preserved
loop-link-preserved c =
    let names = names_in c.args.candidate.now in
    let links = c.args.links.now in
    ap (λ items. option_map (λ rest. items ++ rest) (numbers_of names (wanted (drop (c.loop-link.link-index + 1) links)))) c.in_ok-push.ensures.items
    ∙ one_more names _ _ c.loop-link.found.items _ c.in-Some.number (wanted_more links c.loop-link.link-index _ c.loop-link-test.true) (sym c.number.ensures ∙ c.in-Some.is)
    ∙ c.loop-link.invariant
