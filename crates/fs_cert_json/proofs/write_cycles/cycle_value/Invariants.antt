use Rattle.std.proofs.Common.{take}
use Rattle.serde_json.specs.View.{items_view}
use Rattle.fs_cert_evidence.specs.WitnessFile.{EachItem}
use Rattle.fs_cert_json.specs.inner.Written.{WritesLink}
use Rattle.fs_cert_json.proofs.write_cycles.cycle_value.Given as goal

-- the values so far are what is written for the links so far
abbrev pub invariant-loop-link : goal.invariant-loop-link
invariant-loop-link l = EachItem WritesLink (items_view l.values.items) (take l.link-index l.links)
