use Rattle.std.proofs.Common.{List, sym, subst}
use Rattle.fs_kinds.specs.declared.placement.Entry.{Entry}
use Rattle.fs_cert_evidence.specs.Evidence.{ShowsForbidden}
use Rattle.fs_cert_evidence.specs.Inferences.{cycles_of}
use Rattle.fs_judge.proofs.verdict.forbidden.Goals as goal

pub returns-clause-ok : goal.returns-clause-ok
returns-clause-ok c = λ t shows forbids. (
  c.in_ok-placement.ensures.ok,
  subst (λ (p : List Entry). ShowsForbidden t (record { placement = p; cycles = cycles_of c.args.cycles }))
      (sym c.in_ok-placement.ensures.ok) shows,
  forbids,
)
