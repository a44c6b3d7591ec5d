use Rattle.std.proofs.Common.{◌≡◌, map, take}
use Rattle.serde_json.specs.View.{view}
use Rattle.fs_app_states.specs.Objects.{word_value}
use Rattle.fs_app_states.proofs.objects.words_value.Given as goal

abbrev pub invariant-loop-word : goal.invariant-loop-word
invariant-loop-word l = map view l.values.items ≡ map (word_value l.locations) (take l.word-index l.words)
