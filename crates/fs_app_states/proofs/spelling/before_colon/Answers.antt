use Rattle.std.proofs.Common.{arith}
use Rattle.std.proofs.lemmas.Str.Pattern.{strip_suffix_char}
use Rattle.fs_app_states.proofs.Pieces.{stripped}
use Rattle.fs_app_states.proofs.spelling.before_colon.Goals as goal

pub returns : goal.returns
returns c = stripped 58 c.args.text.now _ (strip_suffix_char 58 c.args.text.now _ c.strip_suffix.ensures.cases (omega arith))
