use Rattle.std.proofs.Common.{arith}
use Rattle.std.proofs.lemmas.Str.Pattern.{strip_prefix_char}
use Rattle.fs_app_states.proofs.Pieces.{unprefixed}
use Rattle.fs_app_states.proofs.spelling.behind_bracket.Goals as goal

pub returns : goal.returns
returns c = unprefixed 40 c.args.text.now _ (strip_prefix_char 40 c.args.text.now _ c.strip_prefix.ensures.cases (omega arith))
