-- What the laws of answers speak of.
use Rattle.std.specs.Prelude.{◌≡◌, ◌<◌, true, false, List, [], ◌∷◌}
use Rattle.fs_kinds.specs.declared.placement.Entry.{Entry}
use Rattle.fs_kinds.specs.Placement.{precedes}
use Rattle.fs_kinds.specs.PriceTable.{PriceTable, cost}
use Rattle.fs_model.specs.Allows.{is_better}
use Rattle.fs_cert_evidence.specs.Certificate.{Certificate, Version, First, Second, Fourth, Cycles, Listed, Inferred, NoneForbids}
use Rattle.fs_model.specs.Witness.{Witness}

-- the empty list of the version
abbrev pub no_cycles : Version → Cycles
no_cycles First = Listed []
no_cycles Second = Listed []
no_cycles Fourth = Inferred []

-- the certificate for none with this witness
abbrev pub none_by : Version → Witness → Certificate
none_by version w = record { version = version; answer = NoneForbids; cycles = no_cycles version; tree = []; witnesses = w ∷ [] }

-- cost decides which of two placements is better, and at equal cost their order
pub record IsByCostAndOrder (prices : PriceTable) (p q : List Entry) : Type 0 where
  pub cheaper : cost prices p < cost prices q → is_better prices p q ≡ true
  pub dearer : cost prices q < cost prices p → is_better prices p q ≡ false
  pub equal : cost prices p ≡ cost prices q → is_better prices p q ≡ precedes p q
