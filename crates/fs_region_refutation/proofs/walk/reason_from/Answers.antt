use Rattle.std.proofs.Common.{◌≡◌, ◌∙◌, ◌++◌, ◌∷◌, [], Some, map, reverse, get_or, refl, ap, sym, ◌+◌, arith}
use Rattle.std.proofs.lemmas.Bool.{eqb-false, eqb-true}
use Rattle.std.proofs.lemmas.List.{get_or-map, length-map, length-reverse, nil_from_length}
use Rattle.std.proofs.lemmas.List.Elements.{All-pop}
use Rattle.fs_cert_evidence.specs.Trees.{follows, left_after}
use Rattle.fs_cert_evidence.specs.Inferences.{inference_of}
use Rattle.fs_region_refutation.specs.Views.{region_of, IsOf}
use Rattle.fs_region_refutation.specs.inner.Stacks.{stacked}
use Rattle.fs_region_refutation.proofs.Stacks.{stacked_push, first_of}
use Rattle.fs_region_refutation.proofs.Walked.{wrong_from, wrong_later, wrong_here, one_more, one_less, none_wrong}
use Rattle.fs_region_refutation.proofs.walk.reason_from.Goals as goal

pub loop-index-init : goal.loop-index-init
loop-index-init c = (refl, c.requires)

pub returns-in_default : goal.returns-in_default
returns-in_default c =
    let t = c.args.basis.now in
    let p = c.args.placement.now in
    let is = map inference_of c.args.inferences.now in
    let k = c.loop-index.index in
    let long = length-map c.args.inferences.now inference_of in
    let low = c.loop-index-test.true in
    let empty = c.in_default.ensures.cases.0 in
    let none : c.loop-index.stack.items ≡ [] = nil_from_length c.loop-index.stack.items (omega (arith, empty)) in
    one_more t p is k (inference_of c.index-inferences-index.result) (omega (arith, low, long))
    ∙ ap (λ rs. wrong_from t p rs is k) (sym (ap stacked none)) ∙ c.loop-index.invariant.0

pub is_drawn-requires : goal.is_drawn-requires
is_drawn-requires c =
    let t = c.args.basis.now in
    (All-pop (IsOf t) c.loop-index.stack.items c.pop.new.self.items (Some c.in-Some.region) c.in-Some.ensures.items
    c.loop-index.invariant.1).1

pub returns-then-not-drawn : goal.returns-then-not-drawn
returns-then-not-drawn c =
    let t = c.args.basis.now in
    let p = c.args.placement.now in
    let is = map inference_of c.args.inferences.now in
    let k = c.loop-index.index in
    let item = c.index-inferences-index.result in
    let region = region_of c.in-Some.region in
    let long = length-map c.args.inferences.now inference_of in
    let low = c.loop-index-test.true in
    let same : get_or is k (inference_of item) ≡ inference_of item =
    get_or-map inference_of c.args.inferences.now k item (inference_of item) low
    ∙ ap inference_of (sym c.index-inferences-index.is) in
    let opened : stacked c.loop-index.stack.items ≡ region ∷ stacked c.pop.new.self.items =
    ap stacked c.in-Some.ensures.items ∙ stacked_push c.pop.new.self.items c.in-Some.region in
    wrong_here t p is k region (stacked c.pop.new.self.items) (inference_of item) (omega (arith, low, long))
    (ap (follows t p region) same ∙ sym c.in_ok-drawn.ensures.drawn ∙ c.if-not-drawn.true)
    ∙ ap (λ rs. wrong_from t p rs is k) (sym opened) ∙ c.loop-index.invariant.0

pub loop-index-preserved : goal.loop-index-preserved
loop-index-preserved c =
    let t = c.args.basis.now in
    let p = c.args.placement.now in
    let is = map inference_of c.args.inferences.now in
    let k = c.loop-index.index in
    let item = c.index-inferences-index.result in
    let region = region_of c.in-Some.region in
    let long = length-map c.args.inferences.now inference_of in
    let low = c.loop-index-test.true in
    let same : get_or is k (inference_of item) ≡ inference_of item =
    get_or-map inference_of c.args.inferences.now k item (inference_of item) low
    ∙ ap inference_of (sym c.index-inferences-index.is) in
    let opened : stacked c.loop-index.stack.items ≡ region ∷ stacked c.pop.new.self.items =
    ap stacked c.in-Some.ensures.items ∙ stacked_push c.pop.new.self.items c.in-Some.region in
    let below = stacked c.pop.new.self.items in
    let left : stacked c.is_drawn.new.stack.items ≡ left_after t region (get_or is k (inference_of item)) ++ below =
    c.in_ok-drawn.ensures.regions c.if-not-drawn.false
    ∙ ap (λ i. left_after t region i ++ below) (sym same) in
    let parts =
    All-pop (IsOf t) c.loop-index.stack.items c.pop.new.self.items (Some c.in-Some.region) c.in-Some.ensures.items
    c.loop-index.invariant.1 in (
      ap (λ rs. wrong_from t p rs is (k + 1)) left
          ∙ wrong_later t p is k region below (inference_of item) (omega (arith, low, long))
          (ap (follows t p region) same ∙ sym c.in_ok-drawn.ensures.drawn ∙ c.if-not-drawn.false)
          ∙ ap (λ rs. wrong_from t p rs is k) (sym opened) ∙ c.loop-index.invariant.0,
      c.in_ok-drawn.ensures.of c.if-not-drawn.false parts.0,
    )

pub returns-then-is_empty : goal.returns-then-is_empty
returns-then-is_empty c =
    let t = c.args.basis.now in
    let p = c.args.placement.now in
    let is = map inference_of c.args.inferences.now in
    let k = c.loop-index.index in
    let long = length-map c.args.inferences.now inference_of in
    let high = c.loop-index-test.false in
    let empty = eqb-true _ 0 (sym c.is_empty.ensures ∙ c.if-is_empty.true) in
    let none : c.loop-index.stack.items ≡ [] = nil_from_length c.loop-index.stack.items (omega (arith, empty)) in
    none_wrong t p is k (omega (arith, long, high))
    ∙ ap (λ rs. wrong_from t p rs is k) (sym (ap stacked none)) ∙ c.loop-index.invariant.0

pub returns : goal.returns
returns c =
    let t = c.args.basis.now in
    let p = c.args.placement.now in
    let is = map inference_of c.args.inferences.now in
    let k = c.loop-index.index in
    let stack = c.loop-index.stack.items in
    let long = length-map c.args.inferences.now inference_of in
    let high = c.loop-index-test.false in
    let within = c.loop-index.auto.index-end in
    let differ = eqb-false _ 0 (sym c.is_empty.ensures ∙ c.if-is_empty.false) in
    let turned = length-reverse stack in
    let seen = length-map (reverse stack) region_of in
    let first = first_of (stacked stack) (omega (arith, differ, turned, seen)) in
    one_less t p is k first.region first.others (omega (arith, long, high, within))
    ∙ ap (λ rs. wrong_from t p rs is k) (sym first.is) ∙ c.loop-index.invariant.0
