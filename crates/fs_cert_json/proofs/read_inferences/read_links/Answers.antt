use Rattle.std.proofs.Common.{◌≡◌, arith, length, take, sym, subst}
use Rattle.std.proofs.lemmas.List.{take_all}
use Rattle.serde_json.specs.View.{view, items_view}
use Rattle.fs_cert_evidence.specs.Certificate as said
use Rattle.fs_cert_evidence.specs.CertificateFile.{IsInference}
use Rattle.fs_cert_evidence.specs.WitnessFile.{EachItem}
use Rattle.fs_cert_evidence.proofs.Items.{item_next, refused_item}
use Rattle.fs_cert_json.specs.inner.Operands.{IsLinkInRange}
use Rattle.fs_cert_json.proofs.Inferences.{whole_cycle, whole_links}
use Rattle.fs_cert_json.proofs.Lists.{as_long}
use Rattle.fs_cert_json.proofs.read_inferences.read_links.Goals as goal

pub returns-in_default-whole_link_in-clause-bad : goal.returns-in_default-whole_link_in-clause-bad
returns-in_default-whole_link_in-clause-bad c =
    λ _ links h.
    refused_item IsLinkInRange (view c.args.value.now) c.in-Some.items.now c.loop-item.item-index c.item-item.result
    (sym c.in-Some.ensures.0) (omega arith) c.item-item.is c.in_default-whole_link_in.ensures links
    (whole_links (view c.args.value.now) links h)

pub loop-item-preserved : goal.loop-item-preserved
loop-item-preserved c =
    rw c.in_ok-push.ensures.items
    (item_next IsLinkInRange c.in-Some.items.now c.loop-item.item-index c.item-item.result c.loop-item.links.items
    c.in-Some-whole_link_in.link c.loop-item.invariant (omega arith) c.item-item.is c.in-Some-whole_link_in.ensures)

pub returns-clause-ok : goal.returns-clause-ok
returns-clause-ok c =
    let items = c.in-Some.items.now in
    let links = c.loop-item.links.items in
    let all : take c.loop-item.item-index items ≡ items = take_all c.loop-item.item-index items (omega arith) in
    let each : EachItem IsLinkInRange (items_view items) links = subst
    (λ vs. EachItem IsLinkInRange (items_view vs) links) all c.loop-item.invariant in
    let long : length items ≡ length links = as_long IsLinkInRange items links each in
    let some = c.in-Some.ensures.1 in
    let few = c.in-Some.ensures.2 in
    subst (λ l. IsInference (view c.args.value.now) (said.Cycle l)) (sym c.new.ensures)
    (whole_cycle (view c.args.value.now) links (items_view items, c.in-Some.ensures.0, each) (omega arith)
    (omega arith))
