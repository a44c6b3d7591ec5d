use Rattle.std.proofs.Common.{take}
use Rattle.serde_json.specs.View.{items_view}
use Rattle.fs_cert_evidence.specs.WitnessFile.{EachItem}
use Rattle.fs_cert_json.specs.inner.Written.{WritesCycle}
use Rattle.fs_cert_json.proofs.write_cycles.listed_value.Given as goal

-- the values so far are what is written for the cycles so far
abbrev pub invariant-loop-links : goal.invariant-loop-links
invariant-loop-links l = EachItem WritesCycle (items_view l.values.items) (take l.links-index l.cycles)
