use Rattle.fs_kinds.proofs.PlaceNames.{name-printed}
use Rattle.fs_cert_evidence.proofs.laws.operations_print_as_named.Goals as goal

pub returns : goal.returns
returns c = name-printed
