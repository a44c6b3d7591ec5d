use Rattle.std.proofs.Common.{◌∙◌, map, ap, arith}
use Rattle.std.proofs.lemmas.List.{take_all}
use Rattle.fs_report.proofs.Values.{array_shown}
use Rattle.fs_app_states.specs.Objects.{word_value}
use Rattle.fs_app_states.proofs.objects.words_value.Goals as goal

pub returns : goal.returns
returns c =
    c.from.ensures
    ∙ array_shown c.loop-word.values.items _
    (c.loop-word.invariant ∙ ap (map (word_value c.args.locations.now)) (take_all c.loop-word.word-index c.args.words.now (omega arith)))
