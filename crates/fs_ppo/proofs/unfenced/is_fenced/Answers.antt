use Rattle.std.proofs.Common.{sym, ◌∙◌}
use Rattle.fs_cand.specs.Candidates.{runs_of, rf}
use Rattle.fs_ppo.proofs.Groups.{written_alone}
use Rattle.fs_ppo.proofs.unfenced.is_fenced.Goals as goal

pub returns-then-precedes : goal.returns-then-precedes
returns-then-precedes c = λ words made.
    c.is_written_between.ensures words made
    ∙ sym (written_alone (runs_of c.args.candidate.now words) (rf c.args.candidate.now) c.args.a c.args.b (sym (c.precedes.ensures words made) ∙ c.if-precedes.true))
