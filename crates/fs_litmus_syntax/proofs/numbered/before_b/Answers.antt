use Rattle.std.proofs.Common.{arith}
use Rattle.std.proofs.lemmas.Str.Pattern.{strip_suffix_char}
use Rattle.fs_litmus_syntax.proofs.NumberedLemmas.{stripped}
use Rattle.fs_litmus_syntax.proofs.numbered.before_b.Goals as goal

pub returns : goal.returns
returns c = stripped 98 c.args.word.now _ (strip_suffix_char 98 c.args.word.now _ c.strip_suffix.ensures.cases (omega arith))
