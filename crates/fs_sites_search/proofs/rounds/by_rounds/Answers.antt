use Rattle.std.proofs.Common.{ℕ, Option, List, MatchOption, ◌∙◌, refl, sym, subst, arith}
use Rattle.fs_kinds.specs.declared.placement.Entry.{Entry}
use Rattle.fs_cert_evidence.specs.Evidence.{Shown}
use Rattle.fs_cert_evidence.specs.declared.evidence.Pairs.{Pairs}
use Rattle.fs_sites.specs.Plans.{IsFirstBreaking, NoneBreaks}
use Rattle.fs_sites.specs.Answers.{IsAnswer, IsShownIn}
use Rattle.fs_sites.specs.Questions.{Question, AllowsIn}
use Rattle.fs_sites.specs.inner.Bars.{AreBars}
use Rattle.fs_sites.proofs.Cheapest.{bars-more, cheapest, no-bars, top-allowed}
use Rattle.fs_sites.proofs.Unbroken.{shown-low}
use Rattle.fs_sites_search.proofs.rounds.by_rounds.Goals as goal

pub loop-init : goal.loop-init
loop-init c = record {
  same = refl;
  bars = no-bars c.args.parts.now c.args.offers.now c.new-bars.result.items c.new-bars.ensures.items;
  most = omega arith;
}

pub unreachable-requires : goal.unreachable-requires
unreachable-requires c =
    let parts = c.args.parts.now in
    let offers = c.args.offers.now in
    let bars = c.deref.result.now in
    let are = subst (AreBars parts offers) (sym c.deref.ensures.value) c.loop.invariant.bars in
    let none = subst (λ (found : Option (List Entry)). MatchOption found (NoneBreaks offers bars) (IsFirstBreaking offers bars)) c.in_default.is
    c.in_ok-found.ensures.ok in
    c.requires.forbidden (top-allowed parts offers bars are c.requires.top none)

pub returns-in-None-clause-ok : goal.returns-in-None-clause-ok
returns-in-None-clause-ok c =
    let parts = c.args.parts.now in
    let offers = c.args.offers.now in
    let bars = c.deref.result.now in
    let p = c.in-Some.placement in
    let q : Question = record { parts = parts; offers = offers } in
    let are = subst (AreBars parts offers) (sym c.deref.ensures.value) c.loop.invariant.bars in
    let first = subst (λ (found : Option (List Entry)). MatchOption found (NoneBreaks offers bars) (IsFirstBreaking offers bars)) c.in-Some.is
    c.in_ok-found.ensures.ok in
    let forbids = subst (λ (found : Option (ℕ × Shown)). MatchOption found (AllowsIn parts p → ⊥) (λ shown. IsShownIn parts p shown.0 shown.1)) c.in-None.is
    c.in_ok-allowing.ensures.ok in
    subst (IsAnswer q) (sym c.fenced.ensures) (cheapest parts offers bars are p first forbids, refl)

pub loop-preserved : goal.loop-preserved
loop-preserved c =
    let parts = c.args.parts.now in
    let offers = c.args.offers.now in
    let p = c.in-Some.placement in
    let shown = subst (λ (found : Option (ℕ × Shown)). MatchOption found (AllowsIn parts p → ⊥) (λ shown. IsShownIn parts p shown.0 shown.1)) c.in-Some-2.is
    c.in_ok-allowing.ensures.ok in
    record {
      same = c.in_ok-allowing.ensures.value ∙ c.loop.invariant.same;
      bars = subst (AreBars parts offers) (sym {A = List (List Pairs)} c.in_ok-push-in-Some-2.ensures.items)
          (bars-more parts offers c.loop.bars.items c.in_ok-bar_by-in-Some-2.field-0 c.loop.invariant.bars c.in_ok-bar_by-in-Some-2.ensures);
      most = shown-low parts p c.in-Some-2.number c.in-Some-2.witness shown;
    }
