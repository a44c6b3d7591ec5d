use Rattle.std.proofs.Common.{subst, ◌∙◌, arith}
use Rattle.serde_json.specs.View.{view}
use Rattle.std.specs.List.{AllZip}
use Rattle.fs_cert_json.specs.Kept.{AreInRangeLinks, KeepsLink}
use Rattle.fs_cert_json.specs.inner.Written.{WritesCycle, cycle_value}
use Rattle.fs_cert_json.proofs.Steps.{each_next, writes_array}
use Rattle.fs_cert_json.proofs.write_cycles.listed_value.Goals as goal

pub loop-links-preserved : goal.loop-links-preserved
loop-links-preserved c =
    each_next WritesCycle c.args.cycles.now c.loop-links.links-index c.links-item.result c.loop-links.values.items
    c.push.new.self.items c.in_ok-cycle_value.field-0 (omega arith)
    c.in_ok-push.ensures.items (subst (WritesCycle (view c.in_ok-cycle_value.field-0))
    (c.as_slice.ensures ∙ c.links-item.is) c.in_ok-cycle_value.ensures) c.loop-links.invariant

pub returns : goal.returns
returns c =
    writes_array (AllZip KeepsLink) AreInRangeLinks cycle_value (view c.from.result) c.loop-links.values.items
    c.args.cycles.now c.loop-links.links-index (omega arith) c.from.ensures c.loop-links.invariant
