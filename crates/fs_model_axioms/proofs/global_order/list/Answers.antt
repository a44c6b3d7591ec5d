use Rattle.std.proofs.Common.{◌≡◌, ◌∙◌, ◌-◌, ◌+◌, ◌++◌, ◌≤◌, ◌∷◌, [], List, ℕ, ap, sym, arith}
use Rattle.std.specs.List.{range_with_len}
use Rattle.fs_model_axioms.proofs.Counted.{range_more}
use Rattle.fs_model_axioms.proofs.global_order.list.Goals as goal

one_more : (count number : ℕ) (items : List ℕ) → count ≤ number → items ≡ range_with_len count (number - count)
    → items ++ number ∷ [] ≡ range_with_len count (number + 1 - count)
one_more count number items low e =
    let next : number + 1 - count ≡ number - count + 1 = omega arith in
    let last : count + (number - count) ≡ number = omega arith in
    let more : range_with_len count (number - count + 1) ≡ range_with_len count (number - count) ++ number ∷ [] =
    rw last at (range_more count (number - count)) in
    rw (next, e) (sym more)

pub loop-number-preserved : goal.loop-number-preserved
loop-number-preserved c =
    c.in_ok-push.ensures.items
    ∙ one_more c.args.count c.loop-number.number c.loop-number.listed.items c.loop-number.auto.number c.loop-number.invariant

pub returns : goal.returns
returns c =
    let last : c.loop-number.number ≡ c.args.total = omega arith in
    c.in_ok-extend_from_slice.ensures.items
    ∙ ap (λ items. items ++ c.args.order.now) (c.loop-number.invariant
    ∙ ap (λ number. range_with_len c.args.count (number - c.args.count)) last)
