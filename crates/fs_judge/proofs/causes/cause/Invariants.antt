use Rattle.std.proofs.Common.{◌≡◌, false, take}
use Rattle.std.specs.List.{list_any}
use Rattle.fs_cert_evidence.specs.Judged.{is_edge}
use Rattle.fs_cand.specs.Candidates.{candidate_of}
use Rattle.fs_cert_evidence.specs.Evidence.{cause_of}
use Rattle.fs_ppo.specs.Rules.{OfRuns}
use Rattle.fs_judge.proofs.causes.cause.Given as goal

-- none of the causes so far
abbrev pub invariant-loop-cause : goal.invariant-loop-cause
invariant-loop-cause l =
    OfRuns l.candidate (λ x. list_any (λ cause. is_edge x l.placement (candidate_of l.candidate) l.a l.b (cause_of cause))
    (take l.cause-index l.cause-items) ≡ false)
