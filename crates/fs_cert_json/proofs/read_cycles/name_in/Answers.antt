use Rattle.std.proofs.Common.{◌≡◌, subst}
use Rattle.fs_kinds.specs.PlaceNames.{IsOperationName}
use Rattle.fs_cert_json.proofs.read_cycles.name_in.Goals as goal

pub returns-in-Err : goal.returns-in-Err
returns-in-Err c =
    λ name h.
    let here = c.in_ok-as_str.ensures in
    let there = h.1 in
    let same : h.0 ≡ c.in_ok-as_str.field-0.now = cc in
    c.in-Err.ensures.bad name (subst (λ text. IsOperationName text name) same h.2)
