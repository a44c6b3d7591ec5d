use Rattle.std.proofs.Common.{◌≡◌, subst, ℕ, true, Option, List}
use Rattle.std.specs.Prelude.{IfNone, IfSome}
use Rattle.fs_judge_outcomes.specs.declared.part.Atom.{Atom}
use Rattle.fs_judge_outcomes.specs.declared.state.State.{State}
use Rattle.fs_judge_outcomes.specs.States.{IsState}
use Rattle.fs_judge_outcomes.specs.inner.Parts.{is_in, states_in, IsFoundIn, SplitsBy}
use Rattle.fs_judge_outcomes.proofs.Covered.{dropped, extended}
use Rattle.fs_judge_outcomes.proofs.listing.advance.Goals as goal

pub returns-in_ok-keep-clause-ok : goal.returns-in_ok-keep-clause-ok
returns-in_ok-keep-clause-ok c =
    let t = c.args.problem.now in
    let p = c.args.placement.now in
    let places = c.args.places.now in
    let parts = c.args.listing.now.parts.items in
    let part = c.args.part in
    let state = c.in-Some.state in
    let found : IsFoundIn t p places part state =
    subst (λ (atoms : List Atom). IsFoundIn t p places atoms state) c.as_slice.ensures
    (subst (λ (one : Option State). IfSome one (IsFoundIn t p places c.as_slice.result.now)) c.in-Some.is c.in_ok-found.ensures.some) in
    let splits : SplitsBy part state.words parts c.split.new.parts.items =
    subst (λ (words : List ℕ). SplitsBy part words parts c.split.new.parts.items) c.as_slice-in-Some.ensures c.in_ok-split.ensures in
    let kept = c.in_ok-keep.ensures in
    extended t p places (states_in c.args.listing.now.known) parts part c.requires.listed state found (states_in c.keep.new.known)
    c.split.new.parts.items splits kept.rising kept.each kept.old kept.new

pub returns-in_default-clause-ok : goal.returns-in_default-clause-ok
returns-in_default-clause-ok c =
    let t = c.args.problem.now in
    let p = c.args.placement.now in
    let places = c.args.places.now in
    let none : (s : List ℕ) → IsState t p places s → is_in c.as_slice.result.now s ≡ true → ⊥ =
    subst (λ (found : Option State). IfNone found ((s : List ℕ) → IsState t p places s → is_in c.as_slice.result.now s ≡ true → ⊥))
    c.in_default.is c.in_ok-found.ensures.none in
    dropped t p places (states_in c.args.listing.now.known) c.args.listing.now.parts.items c.args.part c.requires.listed
    (subst (λ (atoms : List Atom). (s : List ℕ) → IsState t p places s → is_in atoms s ≡ true → ⊥) c.as_slice.ensures none)
