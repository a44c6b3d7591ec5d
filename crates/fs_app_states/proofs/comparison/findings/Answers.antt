use Rattle.std.proofs.Common.{◌∙◌, ap, sym, subst, List, None, map}
use Rattle.std.proofs.lemmas.List.{length-map}
use Rattle.std.specs.Arc.{arc_value}
use Rattle.std.specs.List.{filter}
use Rattle.fs_judge_outcomes.specs.declared.place.Place.{Place}
use Rattle.fs_judge_outcomes.specs.declared.state.State.{State}
use Rattle.fs_judge_outcomes.specs.States.{AreStates, words_of}
use Rattle.fs_app_states.specs.Compared.{is_lacking}
use Rattle.fs_app_states.specs.Tallies.{Counted, counted, entries_of, IsTally}
use Rattle.fs_app_states.proofs.Tallying.{view}
use Rattle.fs_app_states.proofs.Lacking.{forbidden_are, not_seen_are}
use Rattle.fs_app_states.proofs.comparison.findings.Goals as goal

-- src/comparison.rt:45:1
pub returns : goal.returns
returns c =
    let t = arc_value c.args.test.now in
    let rows = map counted c.args.rows.now in
    let tally = entries_of c.in_ok-seen.seen in
    let allowed = entries_of c.in_ok-allowed.allowed in
    let is_tally : IsTally rows tally = c.in_ok-seen.ensures in
    let states = c.in_ok-states.states in
    let is_allowed : IsTally (map (λ state. (state.words, None)) states) allowed =
    subst (λ (seen : List Counted). IsTally seen allowed)
    (ap (map counted) c.deref-2.ensures.value ∙ c.in_ok-allowed_rows.ensures
    ∙ ap (λ (ss : List State). map (λ state. (state.words, None)) ss) c.as_slice.ensures)
    c.in_ok-allowed.ensures in
    record {
      tally = tally;
      is_tally = is_tally;
      states = words_of states;
      are_states =
          subst (λ (places : List Place). AreStates t c.args.placement.now places (words_of states))
          (c.deref.ensures.value ∙ c.in_ok-places.ensures) c.in_ok-states.ensures.ok;
      seen = c.len.ensures.len ∙ sym (length-map c.in_ok-seen.seen.entries view);
      allowed = c.len-2.ensures ∙ sym (length-map states (λ state. state.words));
      forbidden = ap (map counted) c.new.ensures ∙ c.in_ok-forbidden.ensures ∙ forbidden_are states allowed tally is_allowed;
      not_seen = c.new-2.ensures ∙ c.in_ok-not_seen.ensures
          ∙ ap (λ (ss : List State). filter (is_lacking tally) (words_of ss)) c.as_slice-2.ensures ∙ not_seen_are rows tally is_tally (words_of states);
    }
