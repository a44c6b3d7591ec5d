use Rattle.std.proofs.Common.{◌≡◌, ◌≢◌, ◌≤◌, ◌<◌, ◌==◌, ℕ, length, length-set, get_or, Bool, true, false, Option, Some, None, IfSome, String, Global, string_bytes, unwrap_or, is_some, refl, sym, ap, ◌∙◌, inl, inr, if◌then◌else◌, arith}
use Rattle.serde_json.specs.View.{view, members_view}
use Rattle.serde_json.specs.declared.value.Value.{Value}
use Rattle.fs_kinds.specs.declared.kind.Kind.{Kind}
use Rattle.fs_kinds.specs.declared.kind.Kind.TheVariants.{RwRw}
use Rattle.fs_kinds.specs.Kind.{word, table_index}
use Rattle.fs_kinds.specs.PriceTable.{most_price}
use Rattle.fs_kinds.specs.PriceObject.{IsPriceMember, whole, weight_at, weights_key}
use Rattle.fs_kinds.proofs.Names.{same_bytes, word-injective, word-weights, table_index-injective}
use Rattle.fs_kinds.proofs.Members.{Finds, rest-next, finds-same, finds-other, finds-end, whole-within, get_or-set, same_number, other_number}
use Rattle.fs_kinds.proofs.prices.prices_of.Goals as goal

abbrev Item : Type 0
Item = String Global × Value

pub loop-name-preserved-then-eq : goal.loop-name-preserved-then-eq
loop-name-preserved-then-eq c =
    let e : Item = (c.in-Some-2.name.now, c.in-Some-2.value.now) in
    let all = c.into_iter-name-iterator.result in
    let es = c.next.new.self in
    let named : string_bytes c.in-Some-2.name.now ≡ weights_key = sym c.as_str.ensures.value ∙ same_bytes c.as_str.result.now weights_key (sym c.if-eq.ensures) in
    let rest = rw c.in-Some-2.ensures.steps at c.loop-name.invariant.rest in
    record {
      rest = rest-next IsPriceMember all e es rest (inr (named, c.in_ok-weights.ensures.weights));
      table = c.loop-name.invariant.table;
      price = λ kind. finds-other (word kind) (whole 1 most_price) all e es _ (rw c.in-Some-2.ensures.steps at (c.loop-name.invariant.price kind)) (λ same. word-weights kind (same ∙ named));
      weight = λ s is. rw (c.in_ok-weights.ensures.found s is) (finds-same weights_key (weight_at s) all e es _ rest.sorted (rw c.in-Some-2.ensures.steps at (c.loop-name.invariant.weight s is)) (sym named));
      in_range = c.loop-name.invariant.in_range;
      most = c.in_ok-weights.ensures.most;
    }

member_named : (c : goal.After-table_index) → string_bytes c.in-Some-2.name.now ≡ word c.in_ok-kind.kind
member_named c = sym c.as_str-else-eq.ensures.value ∙ c.in_ok-kind.ensures.kind

priced : (c : goal.After-table_index) (kind : Kind) (b : Bool) → (c.table_index.result == table_index kind) ≡ b → Finds (word kind) (whole 1 most_price) c.into_iter-name-iterator.result c.next.new.self (if b then Some c.in_ok-kind.price else get_or c.loop-name.prices (table_index kind) None)
priced c kind true same =
    let e : Item = (c.in-Some-2.name.now, c.in-Some-2.value.now) in
    let rest = rw c.in-Some-2.ensures.steps at c.loop-name.invariant.rest in
    let before = rw c.in-Some-2.ensures.steps at (c.loop-name.invariant.price kind) in
    let index : table_index c.in_ok-kind.kind ≡ table_index kind = sym c.table_index.ensures.value ∙ same_number c.table_index.result (table_index kind) same in
    let key : word kind ≡ string_bytes c.in-Some-2.name.now = ap word (sym (table_index-injective c.in_ok-kind.kind kind index)) ∙ sym (member_named c) in
    rw (← c.in_ok-kind.ensures.price)
    (finds-same (word kind) (whole 1 most_price) c.into_iter-name-iterator.result e c.next.new.self _ rest.sorted before key)
priced c kind false apart =
    let e : Item = (c.in-Some-2.name.now, c.in-Some-2.value.now) in
    let before = rw c.in-Some-2.ensures.steps at (c.loop-name.invariant.price kind) in
    let key : word kind ≢ string_bytes c.in-Some-2.name.now = (λ named.
    let same = word-injective kind c.in_ok-kind.kind (named ∙ member_named c) in
    other_number c.table_index.result (table_index kind) apart (c.table_index.ensures.value ∙ ap table_index (sym same))) in
    finds-other (word kind) (whole 1 most_price) c.into_iter-name-iterator.result e c.next.new.self _ before key

within : (c : goal.After-table_index) (kind : Kind) (b : Bool) → IfSome (if b then Some c.in_ok-kind.price else get_or c.loop-name.prices (table_index kind) None) (λ n. (1 ≤ n) × (n ≤ most_price))
within c kind true = whole-within 1 most_price (view c.in-Some-2.value.now) c.in_ok-kind.price c.in_ok-kind.ensures.price
within c kind false = c.loop-name.invariant.in_range kind

pub loop-name-preserved : goal.loop-name-preserved
loop-name-preserved c =
    let e : Item = (c.in-Some-2.name.now, c.in-Some-2.value.now) in
    let all = c.into_iter-name-iterator.result in
    let es = c.next.new.self in
    let named : string_bytes c.in-Some-2.name.now ≡ word c.in_ok-kind.kind = member_named c in
    let rest = rw c.in-Some-2.ensures.steps at c.loop-name.invariant.rest in
    let low : c.table_index.result < length c.loop-name.prices = omega arith in
    record {
      rest = rest-next IsPriceMember all e es rest (inl (c.in_ok-kind.kind, named, rw c.in_ok-kind.ensures.price refl));
      table = length-set _ _ _ ∙ c.loop-name.invariant.table;
      price = λ kind. rw (get_or-set c.loop-name.prices c.table_index.result (table_index kind) (Some c.in_ok-kind.price) None low) (priced c kind (c.table_index.result == table_index kind) refl);
      weight = λ s is. finds-other weights_key (weight_at s) all e es _ (rw c.in-Some-2.ensures.steps at (c.loop-name.invariant.weight s is)) (λ same. word-weights c.in_ok-kind.kind (sym named ∙ sym same));
      in_range = λ kind. rw (get_or-set c.loop-name.prices c.table_index.result (table_index kind) (Some c.in_ok-kind.price) None low) (within c kind (c.table_index.result == table_index kind));
      most = c.loop-name.invariant.most;
    }

none-of : (o : Option ℕ) → is_some o ≡ false → o ≡ None
none-of None e = refl
none-of (Some n) e = absurd (cc)

pub returns-then-is_none-clause-no_top : goal.returns-then-is_none-clause-no_top
returns-then-is_none-clause-no_top c = λ _.
    let all = c.into_iter-name-iterator.result in
    let object = rw (← c.into_iter-name-iterator.ensures.into_iter_gives.0) at (sym c.in-Some.ensures) in
    let done = rw c.in-None.ensures.steps.0 at c.loop-name.invariant.rest in
    let top = finds-end (word RwRw) (whole 1 most_price) all _ (rw c.in-None.ensures.steps.0 at (c.loop-name.invariant.price RwRw)) in
    let none = none-of _ (rw c.table_index-2.ensures.value at c.if-is_none.ensures) in
    (members_view all, (object, done.whole tt), top ∙ none)

pub returns-clause-ok : goal.returns-clause-ok
returns-clause-ok c =
    let all = c.into_iter-name-iterator.result in
    let object = rw (← c.into_iter-name-iterator.ensures.into_iter_gives.0) at (sym c.in-Some.ensures) in
    let done = rw c.in-None.ensures.steps.0 at c.loop-name.invariant.rest in
    let top = finds-end (word RwRw) (whole 1 most_price) all _ (rw c.in-None.ensures.steps.0 at (c.loop-name.invariant.price RwRw)) in (
      members_view all,
      (object, done.whole tt),
      record {
        price = λ kind. sym (finds-end (word kind) (whole 1 most_price) all _ (rw c.in-None.ensures.steps.0 at (c.loop-name.invariant.price kind)));
        weight = λ s is. ap (λ o. unwrap_or o 1) (sym (finds-end weights_key (weight_at s) all _ (rw c.in-None.ensures.steps.0 at (c.loop-name.invariant.weight s is))));
        top = rw top (rw c.table_index-2.ensures.value at c.if-is_none.ensures);
      },
    )
