use Rattle.std.proofs.Common.{◌∙◌}
use Rattle.fs_model.specs.Execution.{initial_words}
use Rattle.fs_cand.specs.Candidates.{rf}
use Rattle.fs_check.specs.Ordered.{runs_in}
use Rattle.std.proofs.lemmas.Bool.{ne_eqb}
use Rattle.fs_check.proofs.Befores.{numbered}
use Rattle.fs_check.proofs.ordered.OrderedCandidate.is_before.Goals as goal

pub returns-else-n-eq4 : goal.returns-else-n-eq4
returns-else-n-eq4 c =
    c.rule.ensures (initial_words c.args.test.now) c.requires.made
    ∙ numbered (runs_in c.args.test.now c.args.self.now) c.args.placement.now (rf c.args.self.now.candidate) c.args.n c.args.a c.args.b (ne_eqb c.args.n 4 c.if-n-eq4.false)
