use Rattle.std.proofs.Common.{◌∙◌, sym}
use Rattle.fs_judge_outcomes.proofs.Equal.{same_end}
use Rattle.fs_judge_outcomes.proofs.end.is_same.Goals as goal

pub returns-then-eq : goal.returns-then-eq
returns-then-eq c = λ same. same_end c.args.end.now c.args.other.now (sym c.eq.ensures ∙ c.if-eq.true) (sym c.eq-then-eq.ensures ∙ same)
