use Rattle.std.proofs.Common.{◌≡◌, ◌∙◌}
use Rattle.std.specs.List.{position}
use Rattle.fs_hart.specs.Steps.{steps_in}
use Rattle.fs_cand.specs.inner.NamedOrder.{name_in, is_same_name}
use Rattle.fs_check_certificate.proofs.Looked.{position_map}
use Rattle.fs_check_certificate.proofs.cycles.number.Goals as goal

pub returns : goal.returns
returns c =
    let candidate = c.args.candidate.now in
    let found : c.index_of.result ≡ position (λ operation. is_same_name (name_in (steps_in candidate.traces) operation) c.args.wanted) candidate.operations =
    rw (← c.as_slice.ensures, ← c.as_slice-2.ensures) c.index_of.ensures in
    found ∙ position_map (λ name. is_same_name name c.args.wanted) (name_in (steps_in candidate.traces)) candidate.operations
