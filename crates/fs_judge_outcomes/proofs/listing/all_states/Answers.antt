use Rattle.std.proofs.Common.{sym, subst, refl, inr, arith, ◌<◌, length, List, All}
use Rattle.std.specs.Arc.{arc_value}
use Rattle.std.proofs.lemmas.List.{length-map}
use Rattle.fs_model.specs.declared.test.Test.{Test}
use Rattle.fs_judge_outcomes.specs.declared.part.Atom.{Atom}
use Rattle.fs_judge_outcomes.specs.declared.state.State.{State}
use Rattle.fs_judge_outcomes.specs.States.{most_states, AreStates, IsShownState, words_of}
use Rattle.fs_judge_outcomes.specs.inner.Parts.{state_in, states_in, IsListed, IsLore}
use Rattle.fs_judge_outcomes.proofs.Covered.{ends, none_left}
use Rattle.fs_judge_outcomes.proofs.Many.{many}
use Rattle.fs_judge_outcomes.proofs.listing.all_states.Goals as goal

pub loop-init : goal.loop-init
loop-init c =
    let p = c.args.placement.now in
    let places = c.args.places.now in
    let listing = c.in_ok-listing.listing in (
      subst (λ (t : Test). IsListed t p places (states_in listing.known) listing.parts.items) c.test.ensures.value
          (c.in_ok-listing.ensures.listed p),
      subst (λ (t : Test). IsLore t p places (arc_value listing.lore.whole) listing.lore.barren.items) c.test.ensures.value
          (c.in_ok-listing.ensures.lore p),
    )

pub returns-in_default-clause-ok : goal.returns-in_default-clause-ok
returns-in_default-clause-ok c =
    let t = c.args.problem.now in
    let p = c.args.placement.now in
    let places = c.args.places.now in
    let known = states_in c.loop.listing.known in
    let none = none_left c.loop.listing.parts.items c.pop.new.self.items _ c.in_default.ensures.cases.0 c.pop.ensures.rest c.in_default.ensures.items in
    subst (λ (ks : List State). AreStates t p places (words_of ks)) (sym c.in_ok-listed.ensures)
    (ends t p places known (subst (λ (parts : List (List Atom)). IsListed t p places known parts) none c.loop.invariant.0))

pub returns-in_default-clause-shown : goal.returns-in_default-clause-shown
returns-in_default-clause-shown c =
    subst (λ (ks : List State). All (IsShownState c.args.problem.now c.args.placement.now c.args.places.now) ks)
    (sym c.in_ok-listed.ensures) c.loop.invariant.0.shown

pub returns-then-are_too_many-clause-err : goal.returns-then-are_too_many-clause-err
returns-then-are_too_many-clause-err c =
    let known = c.loop.listing.known in
    let long = length-map known.entries state_in in
    let over = c.are_too_many.ensures.more c.if-are_too_many.true in
    let more : most_states < length (states_in known) = omega (arith, over, c.len.ensures.len, long) in
    λ other. inr (
      refl,
      (c.requires.clean, many c.args.problem.now c.args.placement.now c.args.places.now most_states (states_in known) c.loop.listing.parts.items c.loop.invariant.0 more),
    )
