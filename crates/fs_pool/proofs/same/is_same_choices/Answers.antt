use Rattle.std.proofs.Common.{sym, ◌∙◌}
use Rattle.fs_pool.proofs.Comparing.{lists_same, lists_itself}
use Rattle.fs_pool.proofs.same.is_same_choices.Goals as goal

pub returns-clause-yes : goal.returns-clause-yes
returns-clause-yes c = λ same. lists_same c.args.choices.now c.args.other.now (sym c.eq.ensures ∙ same)

pub returns-clause-no : goal.returns-clause-no
returns-clause-no c = λ same. c.eq.ensures ∙ lists_itself c.args.choices.now c.args.other.now same
