use Rattle.std.proofs.Common.{◌∙◌, ap, ℕ, List, map, None, Option, unwrap_or}
use Rattle.std.specs.BTreeMap.{insert_entry}
use Rattle.std.specs.Cmp.Lexicographic.{slice_cmp}
use Rattle.std.specs.Map.{lookup}
use Rattle.std.specs.Ordering.{nat_cmp}
use Rattle.fs_app_states.specs.Tallies.{is_of, sum_of}
use Rattle.fs_app_states.proofs.Tallying.{view, lookup_view, insert_view, rising_view}
use Rattle.fs_app_states.proofs.tally.add.Goals as goal

-- src/tally.rt:25:1
pub returns-clause-added : goal.returns-clause-added
returns-clause-added c =
    let entries = c.args.tally.now.entries in
    let words = c.args.words.items in
    let found = c.copied.ensures ∙ c.get.ensures.value
    ∙ ap (λ (ws : List ℕ). lookup (λ key. is_of ws key.items) entries) c.as_slice.ensures.value
    ∙ lookup_view (is_of words) entries in
    let times = c.sum_of.ensures
    ∙ ap (λ (before : Option ℕ). sum_of before c.args.times) (c.unwrap_or-before.ensures ∙ ap (λ o. unwrap_or o None) found) in
    ap (map view) c.in_ok-insert.ensures.entries
    ∙ insert_view entries c.args.words c.sum_of.result
    ∙ ap (insert_entry (slice_cmp nat_cmp) (map view entries) words) times

-- src/tally.rt:25:1
pub returns-clause-rising : goal.returns-clause-rising
returns-clause-rising c = rising_view c.insert.new.self.entries c.insert.ensures.ordered
