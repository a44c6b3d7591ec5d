use Rattle.std.proofs.Common.{inl, inr, Err, ap}
use Rattle.fs_app_sites_check_and_audit.proofs.read_witness.witness_in.Goals as goal

pub returns-in-Err-clause-bad : goal.returns-in-Err-clause-bad
returns-in-Err-clause-bad c =
    λ is w h.
    elim c.in-Err.ensures.err [
      | inl e ↦ c.in-Err.ensures.bad (ap (λ f. Err f) e) w h
      | inr e ↦ let memory = c.certificate_fault.ensures.memory e in absurd (cc)
    ]
