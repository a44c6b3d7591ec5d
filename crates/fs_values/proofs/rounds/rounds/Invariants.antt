use Rattle.std.proofs.Common.{◌≡◌, take}
use Rattle.std.specs.Prelude.{sum_by, count_by}
use Rattle.fs_model.specs.Forms.{is_storing}
use Rattle.fs_values.proofs.rounds.rounds.Given as goal

abbrev pub invariant-loop-code : goal.invariant-loop-code
invariant-loop-code l = l.total ≡ sum_by (count_by is_storing) (take l.code-index l.test.codes)
