use Rattle.fs_values.proofs.Faults.{never_astray}
use Rattle.fs_values.proofs.Grounded.{always_grounded}
use Rattle.fs_values.proofs.Readings.{says_the_same}
use Rattle.fs_values.proofs.thin_air.grounded_says_nothing_more.Goals as goal

pub returns : goal.returns
returns c t bounded words no_fault = says_the_same t (always_grounded t bounded words (never_astray t no_fault))
