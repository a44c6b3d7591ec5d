use Rattle.std.proofs.Common.{ap, string_bytes, ◌++◌, ◌∙◌}
use Rattle.fs_app_states.specs.Compared.{not_seen_line}
use Rattle.fs_app_states.proofs.Joined.{joined_next}
use Rattle.fs_app_states.proofs.text.not_seen_lines.Goals as goal

pub loop-words-preserved : goal.loop-words-preserved
loop-words-preserved c =
    let line = not_seen_line c.args.locations.now c.args.columns.now in
    joined_next line c.args.states.now c.loop-words.words-index c.words-item.result (string_bytes c.loop-words.text)
    (string_bytes c.push_not_seen.new.text) c.loop-words-test.true c.words-item.is
    (c.in_ok-push_not_seen.ensures ∙ ap (λ words. string_bytes c.loop-words.text ++ line words) c.as_slice.ensures) c.loop-words.invariant
