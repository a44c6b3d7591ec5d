use Rattle.std.proofs.Common.{arith}
use Rattle.serde_json.specs.View.{view}
use Rattle.fs_cert_evidence.specs.Texts.{link_value}
use Rattle.fs_cert_evidence.specs.WitnessFile.{IsInRange}
use Rattle.fs_cert_json.specs.Kept.{KeepsLink}
use Rattle.fs_cert_json.specs.inner.Written.{WritesLink}
use Rattle.fs_cert_json.proofs.Steps.{each_next, writes_array}
use Rattle.fs_cert_json.proofs.write_cycles.cycle_value.Goals as goal

pub loop-link-preserved : goal.loop-link-preserved
loop-link-preserved c =
    each_next WritesLink c.args.links.now c.loop-link.link-index _ c.loop-link.values.items c.push.new.self.items c.in_ok-link_value.field-0 (omega arith)
    c.in_ok-push.ensures.items c.in_ok-link_value.ensures c.loop-link.invariant

pub returns : goal.returns
returns c =
    writes_array KeepsLink (λ link. IsInRange link.operation) link_value (view c.from.result) c.loop-link.values.items c.args.links.now c.loop-link.link-index (omega arith) c.from.ensures c.loop-link.invariant
