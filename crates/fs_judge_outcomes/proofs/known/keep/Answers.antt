use Rattle.std.proofs.Common.{◌≡◌, ◌∙◌, ap, sym, subst, ℕ, List, All, map}
use Rattle.std.specs.Prelude.{◌⊎◌}
use Rattle.std.specs.BTreeMap.{insert_entry}
use Rattle.std.specs.List.{Contains}
use Rattle.fs_judge_outcomes.specs.declared.state.State.{State}
use Rattle.fs_judge_outcomes.specs.States.{words_of}
use Rattle.fs_judge_outcomes.specs.inner.Parts.{state_in}
use Rattle.fs_judge_outcomes.proofs.Kept.{Entry, order, rising_states, each_put, old_put, new_put}
use Rattle.fs_judge_outcomes.proofs.known.keep.Goals as goal

pub returns-clause-rising : goal.returns-clause-rising
returns-clause-rising c = rising_states c.insert.new.self.entries c.insert.ensures.ordered

pub returns-clause-each : goal.returns-clause-each
returns-clause-each c =
    let old : List Entry = c.args.known.now.entries in
    let words : c.in_ok-words.words.items ≡ c.args.state.words = c.in_ok-words.ensures.items ∙ c.as_slice.ensures in
    let state : state_in (c.in_ok-words.words, c.args.state.witness) ≡ c.args.state =
    ap (λ (ws : List ℕ). record { words = ws; witness = c.args.state.witness }) words in
    subst (λ (es : List Entry). All (λ one. Contains (map state_in old) one ⊎ (one ≡ c.args.state)) (map state_in es)) (sym c.in_ok-insert.ensures.entries)
    (subst (λ (s : State). All (λ one. Contains (map state_in old) one ⊎ (one ≡ s))
    (map state_in (insert_entry order old c.in_ok-words.words c.args.state.witness))) state (each_put old c.in_ok-words.words c.args.state.witness))

pub returns-clause-old : goal.returns-clause-old
returns-clause-old c = λ s there.
    subst (λ (es : List Entry). Contains (words_of (map state_in es)) s) (sym c.in_ok-insert.ensures.entries)
    (old_put c.args.known.now.entries c.in_ok-words.words c.args.state.witness s there)

pub returns-clause-new : goal.returns-clause-new
returns-clause-new c =
    let words : c.in_ok-words.words.items ≡ c.args.state.words = c.in_ok-words.ensures.items ∙ c.as_slice.ensures in
    subst (λ (es : List Entry). Contains (words_of (map state_in es)) c.args.state.words) (sym c.in_ok-insert.ensures.entries)
    (subst (λ (ws : List ℕ). Contains (words_of (map state_in (insert_entry order c.args.known.now.entries c.in_ok-words.words c.args.state.witness))) ws) words
    (new_put c.args.known.now.entries c.in_ok-words.words c.args.state.witness))
