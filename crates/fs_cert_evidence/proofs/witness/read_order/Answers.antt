use Rattle.serde_json.specs.View.{view}
use Rattle.fs_kinds.specs.PlaceNames.{IsOperationName}
use Rattle.fs_cert_evidence.specs.WitnessFile.{IsName, in_range}
use Rattle.std.proofs.Common.{◌≡◌, ◌++◌, ◌∷◌, [], sym, subst, arith}
use Rattle.fs_cert_evidence.proofs.Items.{item_next, name_next, refused_item}
use Rattle.fs_cert_evidence.proofs.witness.read_order.Goals as goal

pub returns-in_default-as_str-clause-bad : goal.returns-in_default-as_str-clause-bad
returns-in_default-as_str-clause-bad c =
    λ _ names. refused_item IsName (view c.args.value.now) c.deref-item-items.result.now c.loop-item.item-index c.item-item.result (rw c.deref-item-items.ensures.value c.in-Some.ensures) (omega arith) c.item-item.is (λ x h. let none = c.in_default-as_str.ensures in let some = h.1 in absurd (cc)) names

pub returns-in_err-read_name-clause-bad : goal.returns-in_err-read_name-clause-bad
returns-in_err-read_name-clause-bad c =
    λ _ names. refused_item IsName (view c.args.value.now) c.deref-item-items.result.now c.loop-item.item-index c.item-item.result (rw c.deref-item-items.ensures.value c.in-Some.ensures) (omega arith) c.item-item.is (λ x h.
    let here = c.in-Some-as_str.ensures in
    let there = h.1 in
    let same : h.0 ≡ c.in-Some-as_str.text.now = cc in
    c.in_err-read_name.ensures.bad x (subst (λ text. IsOperationName text x) same h.2)) names

pub loop-item-preserved : goal.loop-item-preserved
loop-item-preserved c =
    let so_far = c.loop-item.invariant in
    let name = c.in_ok-read_name.ensures.ok in
    let said : IsName (view c.item-item.result) name.0 = (c.in-Some-as_str.text.now, sym c.in-Some-as_str.ensures, name.1) in (
      so_far.0 ++ name.0 ∷ [],
      item_next IsName c.deref-item-items.result.now c.loop-item.item-index c.item-item.result so_far.0 name.0 so_far.1 (omega arith) c.item-item.is said,
      name_next in_range c.push.new.self.items c.loop-item.names.items c.in_ok-read_name.field-0 so_far.0 name.0 c.in_ok-push.ensures.items so_far.2 name.2,
    )
