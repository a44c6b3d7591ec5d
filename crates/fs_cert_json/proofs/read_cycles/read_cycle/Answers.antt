use Rattle.std.proofs.Common.{◌≡◌, arith, length, take, sym, subst}
use Rattle.std.proofs.lemmas.List.{take_all}
use Rattle.serde_json.specs.View.{view, items_view}
use Rattle.fs_cert_evidence.specs.CertificateFile.{IsLink}
use Rattle.fs_cert_evidence.specs.WitnessFile.{EachItem}
use Rattle.fs_cert_evidence.proofs.Items.{refused_item}
use Rattle.fs_cert_json.specs.Kept.{KeepsLink}
use Rattle.fs_cert_json.proofs.Lists.{as_long, kept_next}
use Rattle.fs_cert_json.proofs.read_cycles.read_cycle.Goals as goal

pub returns-in_default-link_in-clause-bad : goal.returns-in_default-link_in-clause-bad
returns-in_default-link_in-clause-bad c =
    λ _ links h. refused_item IsLink (view c.args.value.now) c.in-Some.items.now c.loop-item.item-index
    c.item-item.result (sym c.in-Some.ensures.0) (omega arith) c.item-item.is c.in_default-link_in.ensures links h.0

pub loop-item-preserved : goal.loop-item-preserved
loop-item-preserved c =
    let link = c.in-Some-link_in.ensures in
    kept_next IsLink KeepsLink c.in-Some.items.now c.loop-item.item-index c.item-item.result c.push.new.self.items
    c.loop-item.links.items c.in-Some-link_in.link link.0
    c.in_ok-push.ensures.items c.loop-item.invariant (omega arith) c.item-item.is link.1 link.2

pub returns-clause-ok : goal.returns-clause-ok
returns-clause-ok c =
    let so_far = c.loop-item.invariant in
    let items = c.in-Some.items.now in
    let all : take c.loop-item.item-index items ≡ items = take_all c.loop-item.item-index items (omega arith) in
    let each : EachItem IsLink (items_view items) so_far.0 = subst (λ vs. EachItem IsLink (items_view vs) so_far.0) all so_far.1 in
    let long : length items ≡ length so_far.0 = as_long IsLink items so_far.0 each in
    let some = c.in-Some.ensures.1 in
    let few = c.in-Some.ensures.2 in (
      so_far.0,
      ((items_view items, c.in-Some.ensures.0, each), omega arith, omega arith),
      rw c.new.ensures so_far.2,
    )
