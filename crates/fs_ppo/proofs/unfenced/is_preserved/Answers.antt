use Rattle.std.proofs.Common.{sym, ◌∙◌}
use Rattle.fs_cand.specs.Candidates.{runs_of, rf}
use Rattle.fs_ppo.proofs.Groups.{in_groups}
use Rattle.fs_ppo.proofs.unfenced.is_preserved.Goals as goal

pub returns-then-precedes : goal.returns-then-precedes
returns-then-precedes c = λ words made.
    c.is_in_group.ensures words made ∙ sym (in_groups (runs_of c.args.candidate.now words) (rf c.args.candidate.now) c.args.a c.args.b)
