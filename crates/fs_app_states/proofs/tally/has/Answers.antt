use Rattle.std.proofs.Common.{◌∙◌, ap, is_some}
use Rattle.fs_app_states.specs.Tallies.{is_of}
use Rattle.fs_app_states.proofs.Tallying.{lookup_view}
use Rattle.fs_app_states.proofs.tally.has.Goals as goal

-- src/tally.rt:54:1
pub returns : goal.returns
returns c = c.contains_key.ensures ∙ ap is_some (lookup_view (is_of c.args.words.now) c.args.tally.now.entries)
