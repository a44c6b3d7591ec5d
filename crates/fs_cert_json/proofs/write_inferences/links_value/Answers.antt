use Rattle.std.proofs.Common.{subst, arith}
use Rattle.serde_json.specs.View.{view}
use Rattle.fs_cert_evidence.specs.Texts.{link_value}
use Rattle.fs_cert_json.proofs.Steps.{each_next, Is, is_array}
use Rattle.fs_cert_json.proofs.write_inferences.links_value.Goals as goal

pub loop-link-preserved : goal.loop-link-preserved
loop-link-preserved c =
    each_next (Is link_value) c.args.links.now c.loop-link.link-index c.link-item.result c.loop-link.values.items
    c.push.new.self.items c.in_ok-link_value.field-0 (omega arith)
    c.in_ok-push.ensures.items (subst (Is link_value (view c.in_ok-link_value.field-0)) c.link-item.is
    (subst (Is link_value (view c.in_ok-link_value.field-0)) c.link.view_is c.in_ok-link_value.ensures))
    c.loop-link.invariant

pub returns : goal.returns
returns c =
    is_array link_value (view c.from.result) c.loop-link.values.items c.args.links.now c.loop-link.link-index
    (omega arith) c.from.ensures c.loop-link.invariant
