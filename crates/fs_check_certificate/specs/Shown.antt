-- What the witnesses of a certificate show, and which placements they have to.
use Rattle.std.specs.Prelude.{◌≡◌, ℕ, ◌<◌, true, List}
use Rattle.fs_kinds.specs.declared.placement.Entry.{Entry}
use Rattle.fs_kinds.specs.PriceTable.{PriceTable, cost}
use Rattle.fs_model.specs.declared.test.Test.{Test}
use Rattle.fs_model.specs.Allows.{is_better}
use Rattle.fs_model.specs.Witness.{Witness}
use Rattle.fs_cert_evidence.specs.Certificate.{Version, First, Second, Fourth}
use Rattle.fs_cert_evidence.specs.Valid.{Refutes}

-- one of these witnesses gives an execution that shows the outcome with these fences
abbrev pub IsShown : Test → List Witness → List Entry → Type 0
IsShown t witnesses p = (j : ℕ) × Refutes t witnesses p j

-- q is better than p, as the version has it: in the first it costs less
abbrev pub IsBetterBy : Version → PriceTable → (q p : List Entry) → Type 0
IsBetterBy First prices q p = cost prices q < cost prices p
IsBetterBy Second prices q p = is_better prices q p ≡ true
IsBetterBy Fourth prices q p = is_better prices q p ≡ true
