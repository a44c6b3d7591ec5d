use Rattle.std.proofs.Common.{arith, refl}
use Rattle.std.proofs.lemmas.Iterator.Consumers.{map_from_collect}
use Rattle.std.proofs.lemmas.Iterator.Splits.{YieldsList-from_str_split}
use Rattle.fs_app_states.proofs.spelling.pieces_of.Goals as goal

pub returns : goal.returns
returns c = map_from_collect _ c.collect.ensures.ran (YieldsList-from_str_split 59 _ (omega arith) c.split.ensures.text c.split.ensures.has_more c.split.ensures.pattern)
