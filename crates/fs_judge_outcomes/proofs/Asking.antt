-- What the test that asks for a part of the states tells of the test.
use Rattle.std.proofs.Common.{◌≡◌, ◌∙◌, ap, sym, subst, ℕ, ◌≤◌, true, Option, None, Some, List, All, Result, Ok, Err, IfErr, length, map}
use Rattle.std.specs.Prelude.{IfNone, IfOk, IfSome}
use Rattle.std.specs.Result.{IsErrAnd}
use Rattle.fs_kinds.specs.declared.fault.Fault.{Fault}
use Rattle.fs_kinds.specs.declared.placement.Entry.{Entry}
use Rattle.fs_model.specs.declared.outcome.Outcome.{Outcome}
use Rattle.fs_model.specs.declared.test.Test.{Test}
use Rattle.fs_model.specs.Allows.{Allows, Shows}
use Rattle.fs_model.specs.Condition.{condition_of, nesting, SpeaksOf}
use Rattle.fs_model.specs.Execution.{pre_execution}
use Rattle.fs_model.specs.Shows.{holds, final_register, final_word}
use Rattle.fs_model.specs.Slots.{slots}
use Rattle.fs_model.specs.Test.{IsBounded, IsStart}
use Rattle.fs_cert_evidence.specs.CandidateFaults.{IsCandidateFault}
use Rattle.fs_judge_outcomes.specs.declared.part.Atom.{Atom}
use Rattle.fs_judge_outcomes.specs.declared.place.Place.{Place}
use Rattle.fs_judge_outcomes.specs.declared.state.State.{State}
use Rattle.fs_judge_outcomes.specs.States.{word_of, IsPlaceOf, IsState}
use Rattle.fs_judge_outcomes.specs.inner.Parts.{is_in, with_condition, AsksFor, EndsIn, EndsWithin, IsFoundIn}
use Rattle.fs_judge.proofs.Conditions.{back, candidate_fault, execution, given}

-- what holds of the error handed on holds of the result
pub handed : {T : Type 0} (r : Result T Fault) (fault : Fault) (P : Fault → Type 0) → IsErrAnd r (λ f. f ≡ fault) → P fault → IfErr r P
handed (Ok x) fault P h p = tt
handed (Err f) fault P h p = subst P (sym h) p

-- the test with a condition that is true where the state is in the part
pub asks : (t : Test) (places : List Place) (part : List Atom) (condition : Outcome) (made : Test) → made ≡ with_condition condition t
    → IsBounded t → All (IsPlaceOf (length t.codes) (length t.locations)) places
    → ((r : ℕ → ℕ → ℕ) (w : ℕ → ℕ) → holds r w (condition_of condition) ≡ is_in part (map (word_of r w) places))
    → nesting (condition_of condition) ≤ 64
    → ((harts locations : ℕ) → All (IsPlaceOf harts locations) places → SpeaksOf harts locations (condition_of condition))
    → AsksFor t places part made
asks t places part condition made same bounded all says deep speaks =
    let own : IsBounded (with_condition condition t) = record {
      starts = bounded.starts;
      forward = bounded.forward;
      atoms = speaks (length t.codes) (length t.locations) all;
      harts = bounded.harts;
      lengths = bounded.lengths;
      accesses = bounded.accesses;
      locations = bounded.locations;
      depth = deep;
    } in
    record { condition = condition; same = same; bounded = subst IsBounded (sym same) own; holds = says }

-- the same of equal tests
pub asks_as_well : (t u : Test) (places : List Place) (part : List Atom) (asked given : Test) → t ≡ u → given ≡ asked
    → AsksFor t places part asked → AsksFor u places part given
asks_as_well t u places part asked given same is h =
    subst (λ (x : Test). AsksFor u places part x) (sym is) (subst (λ (x : Test). AsksFor x places part asked) same h)

module _ (t : Test) (places : List Place) (part : List Atom) (asked : Test) (asks_for : AsksFor t places part asked) where
  pub same_starts : All IsStart t.starts → All IsStart asked.starts
  same_starts all = subst (λ (u : Test). All IsStart u.starts) (sym asks_for.same) all

  pub same_places : All (IsPlaceOf (length t.codes) (length t.locations)) places
      → All (IsPlaceOf (length asked.codes) (length asked.locations)) places
  same_places all = subst (λ (u : Test). All (IsPlaceOf (length u.codes) (length u.locations)) places) (sym asks_for.same) all

  pub same_slots : slots asked ≡ slots t
  same_slots = ap slots asks_for.same

  pub found_in : (p : List Entry) (state : State) → EndsIn asked p places state.witness.witness state.words → IsFoundIn t p places part state
  found_in p state h =
      let own : EndsIn (with_condition asks_for.condition t) p places state.witness.witness state.words =
      subst (λ (u : Test). EndsIn u p places state.witness.witness state.words) asks_for.same h in
      let e = own.0 in
      let says = asks_for.holds (final_register t e.traces) (final_word (pre_execution t e.traces) e.order) in (
        (
          e,
          back (λ u. _) (given state.witness.witness e) t (with_condition asks_for.condition t) own.1,
          back (λ u. _) (execution p e) t (with_condition asks_for.condition t) own.2.execution,
          own.3,
        ),
        sym (says ∙ ap (is_in part) own.3) ∙ own.2.outcome,
      )

  -- whatever it asks for, a state of another part in which it ends
  pub near_in : (p : List Entry) (other : List Atom) (state : State) → EndsWithin asked p places other state → IsFoundIn t p places other state
  near_in p other state h = ((found_in p state h.0).0, h.1)

  pub none_in : (p : List Entry) → (Allows asked p → ⊥) → (s : List ℕ) → IsState t p places s → is_in part s ≡ true → ⊥
  none_in p forbidden s h inside =
      let e = h.0 in
      let own : Shows (with_condition asks_for.condition t) p e = record {
        execution = execution p e t (with_condition asks_for.condition t) h.1;
        outcome =
            asks_for.holds (final_register t e.traces) (final_word (pre_execution t e.traces) e.order)
            ∙ ap (is_in part) h.2
            ∙ inside;
      } in
      forbidden (e, subst (λ (u : Test). Shows u p e) (sym asks_for.same) own)

  pub same_fault : (f : Fault) → IsCandidateFault asked f → IsCandidateFault t f
  same_fault f h =
      back (λ u. IsCandidateFault u f) (candidate_fault f) t (with_condition asks_for.condition t)
      (subst (λ (u : Test). IsCandidateFault u f) asks_for.same h)

pub at_some : {X : Type 0} {found : Option X} {x : X} → found ≡ Some x → (P : X → Type 0) → IfSome found P → P x
at_some is P h = subst (λ o. IfSome o P) is h

if_some : {X : Type 0} (found : Option X) (P Q : X → Type 0) → ((x : X) → P x → Q x) → IfSome found P → IfSome found Q
if_some None P Q f h = tt
if_some (Some x) P Q f h = f x h

if_none : {X : Type 0} (found : Option X) (P Q : Type 0) → (P → Q) → IfNone found P → IfNone found Q
if_none None P Q f h = f h
if_none (Some x) P Q f h = tt

pub ok_some : {X E : Type 0} (r : Result (Option X) E) (P Q : X → Type 0) → ((x : X) → P x → Q x)
    → IfOk r (λ found. IfSome found P) → IfOk r (λ found. IfSome found Q)
ok_some (Ok found) P Q f h = if_some found P Q f h
ok_some (Err e) P Q f h = tt

pub ok_none : {X E : Type 0} (r : Result (Option X) E) (P Q : Type 0) → (P → Q)
    → IfOk r (λ found. IfNone found P) → IfOk r (λ found. IfNone found Q)
ok_none (Ok found) P Q f h = if_none found P Q f h
ok_none (Err e) P Q f h = tt
