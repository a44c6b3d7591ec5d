use Rattle.std.proofs.Common.{ℕ, List, length, rules, sym, subst}
use Rattle.std.proofs.lemmas.Iterator.Adapters.{YieldsList-from_vec}
use Rattle.std.proofs.lemmas.Iterator.Consumers.{YieldsList-turn}
use Rattle.fs_cert_evidence.specs.Evidence.{Shown}
use Rattle.fs_cert_evidence.specs.declared.evidence.Pairs.{Pairs}
use Rattle.fs_sites.specs.inner.Bars.{AreBars, IsShownBySome}
use Rattle.fs_sites.proofs.Cheapest.{bars-more}
use Rattle.fs_sites_search.proofs.together.add_bars.Goals as goal

pub bar_by-requires-clause-shown : goal.bar_by-requires-clause-shown
bar_by-requires-clause-shown c =
    let one : ℕ × Shown = (c.in-Some.number, c.in-Some.witness) in
    let turn = YieldsList-turn (YieldsList-from_vec {s = c.into_iter-number-iterator.result} c.args.found.items (search rules) (search rules))
    c.loop-number.yielded c.loop-number.number-iterator c.loop-number.yielded_by c.next.result c.next.new.self one c.in-Some.is c.next.ensures.steps in
    subst (λ (x : ℕ × Shown). IsShownBySome c.args.parts.now x.0 x.1) (sym turn.1) (c.requires.shown (length c.loop-number.yielded) one turn.0)

pub loop-number-preserved : goal.loop-number-preserved
loop-number-preserved c =
    let parts = c.args.parts.now in
    let offers = c.args.offers.now in
    subst (AreBars parts offers) (sym {A = List (List Pairs)} c.in_ok-push.ensures.items)
    (bars-more parts offers c.loop-number.bars.items c.in_ok-bar_by.field-0 c.loop-number.invariant c.in_ok-bar_by.ensures)
