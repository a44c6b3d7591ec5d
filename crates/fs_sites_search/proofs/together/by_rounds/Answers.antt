use Rattle.std.proofs.Common.{Option, List, MatchOption, refl, sym, subst}
use Rattle.fs_kinds.specs.declared.placement.Entry.{Entry}
use Rattle.fs_sites.specs.Plans.{IsFirstBreaking, NoneBreaks}
use Rattle.fs_sites.specs.Answers.{IsAnswer}
use Rattle.fs_sites.specs.Questions.{Question}
use Rattle.fs_sites.specs.inner.Bars.{AreBars}
use Rattle.fs_sites.proofs.Cheapest.{cheapest, no-bars, top-allowed}
use Rattle.fs_sites_search.proofs.Asked.{nothing-left, shown-by-some}
use Rattle.fs_sites_search.proofs.together.by_rounds.Goals as goal

pub loop-init : goal.loop-init
loop-init g c = record {
  seats = c.requires.seats;
  bars = no-bars c.args.parts.now c.args.offers.now c.new-bars.result.items c.new-bars.ensures.items;
}

pub unreachable-requires : goal.unreachable-requires
unreachable-requires g c =
    let parts = c.args.parts.now in
    let offers = c.args.offers.now in
    let bars = c.deref.result.now in
    let are = subst (AreBars parts offers) (sym c.deref.ensures.value) c.loop.invariant.bars in
    let none = subst (λ (found : Option (List Entry)). MatchOption found (NoneBreaks offers bars) (IsFirstBreaking offers bars)) c.in_default.is
    c.in_ok-breaking.ensures.ok in
    c.requires.forbidden (top-allowed parts offers bars are c.requires.top none)

pub add_bars-requires-clause-shown : goal.add_bars-requires-clause-shown
add_bars-requires-clause-shown g c =
    shown-by-some c.args.parts.now c.in-Some.placement c.in_ok-asked.found.items c.in_ok-asked.ensures.shown

pub returns-then-is_empty-clause-ok : goal.returns-then-is_empty-clause-ok
returns-then-is_empty-clause-ok g c =
    let parts = c.args.parts.now in
    let offers = c.args.offers.now in
    let bars = c.deref.result.now in
    let p = c.in-Some.placement in
    let q : Question = record { parts = parts; offers = offers } in
    let are = subst (AreBars parts offers) (sym c.deref.ensures.value) c.loop.invariant.bars in
    let first = subst (λ (found : Option (List Entry)). MatchOption found (NoneBreaks offers bars) (IsFirstBreaking offers bars)) c.in-Some.is
    c.in_ok-breaking.ensures.ok in
    let found = c.in_ok-asked.found in
    let none = nothing-left found.items found.len c.is_empty.result c.if-is_empty.true c.is_empty.ensures found.ok.0 in
    subst (IsAnswer q) (sym c.fenced.ensures) (cheapest parts offers bars are p first (c.in_ok-asked.ensures.none none), refl)
