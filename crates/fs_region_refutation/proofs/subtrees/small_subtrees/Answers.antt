use Rattle.std.proofs.Common.{◌≡◌, ◌∙◌, ◌+◌, ◌<◌, ◌++◌, ◌∷◌, [], Some, true, All, List, map, length, get_or, sym, ap, subst, arith}
use Rattle.std.specs.Prelude.{drop}
use Rattle.std.proofs.lemmas.Bool.{eqb-true}
use Rattle.std.proofs.lemmas.List.{get_or-map, length-map, nil_from_length}
use Rattle.std.proofs.lemmas.List.Elements.{All-pop, All-push}
use Rattle.fs_cert_evidence.specs.Trees.{follows, left_after, refutes}
use Rattle.fs_cert_evidence.specs.Inferences.{inference_of}
use Rattle.fs_cert_evidence.specs.declared.inference.Inference.{Inference}
use Rattle.fs_region_refutation.specs.declared.subtrees.Subtree.{Subtree}
use Rattle.fs_region_refutation.specs.Subtrees.{IsRefutedBy}
use Rattle.fs_region_refutation.specs.Views.{region_of, IsOf}
use Rattle.fs_region_refutation.specs.inner.Stacks.{stacked}
use Rattle.fs_region_refutation.proofs.Stacks.{stacked_push}
use Rattle.fs_region_refutation.proofs.Joined.{all_of_each, with_subtree, with_inference, with_nothing}
use Rattle.fs_region_refutation.proofs.subtrees.small_subtrees.Goals as goal

pub is_drawn-requires : goal.is_drawn-requires
is_drawn-requires c =
    let t = c.args.basis.now in
    (All-pop (IsOf t) c.loop-index.stack.items c.pop.new.self.items (Some c.in-Some.region) c.in-Some.ensures.items
    c.loop-index.invariant.1.0).1

pub loop-index-preserved-then-size-gt0 : goal.loop-index-preserved-then-size-gt0
loop-index-preserved-then-size-gt0 c =
    let t = c.args.basis.now in
    let p = c.args.placement.now in
    let is = map inference_of c.args.inferences.now in
    let k = c.loop-index.index in
    let to = k + c.small_size-size.result in
    let new : Subtree = record { region = c.in-Some.region; from = k; to = to } in
    let before = c.loop-index.all.items in
    let below = stacked c.pop.new.self.items in
    let opened : stacked c.loop-index.stack.items ≡ region_of c.in-Some.region ∷ below =
    ap stacked c.in-Some.ensures.items ∙ stacked_push c.pop.new.self.items c.in-Some.region in
    let known = c.loop-index.invariant in
    let parts =
    All-pop (IsOf t) c.loop-index.stack.items c.pop.new.self.items (Some c.in-Some.region) c.in-Some.ensures.items known.1.0 in (
      (λ each rest.
          let both =
          All-pop (IsRefutedBy t p is) c.push.new.self.items before (Some new) c.in_ok-push.ensures.items each in
          known.0 both.0
          (subst (λ regions. refutes t p regions (drop k is) ≡ true) (sym opened)
          (with_subtree t p is k (region_of c.in-Some.region) below to (omega (arith)) both.1 rest))),
      (
        parts.0,
        (
          subst (All (λ (subtree : Subtree). IsOf t subtree.region)) (sym c.in_ok-push.ensures.items)
              (All-push (λ (subtree : Subtree). IsOf t subtree.region) before new known.1.1.0 parts.1),
          c.small_size-size.ensures,
        ),
      ),
    )

pub loop-index-preserved : goal.loop-index-preserved
loop-index-preserved c =
    let t = c.args.basis.now in
    let p = c.args.placement.now in
    let is = map inference_of c.args.inferences.now in
    let k = c.loop-index.index in
    let item = c.index-deref-index.result in
    let region = region_of c.in-Some.region in
    let below = stacked c.pop.new.self.items in
    let long = length-map c.args.inferences.now inference_of in
    let count = c.len-count.ensures in
    let low = c.loop-index-test.true in
    let within : k < length c.args.inferences.now = omega (arith, low, count) in
    let value : get_or c.args.inferences.now k item ≡ item =
    ap (λ (xs : List Inference). get_or xs k item) (sym c.deref.ensures) ∙ sym c.index-deref-index.is in
    let same : get_or is k (inference_of item) ≡ inference_of item =
    get_or-map inference_of c.args.inferences.now k item (inference_of item) within ∙ ap inference_of value in
    let opened : stacked c.loop-index.stack.items ≡ region ∷ below =
    ap stacked c.in-Some.ensures.items ∙ stacked_push c.pop.new.self.items c.in-Some.region in
    let holds : follows t p region (get_or is k (inference_of item)) ≡ true =
    ap (follows t p region) same ∙ sym c.in_ok-drawn.ensures.drawn ∙ c.if-not-drawn.false in
    let left : stacked c.is_drawn.new.stack.items ≡ left_after t region (get_or is k (inference_of item)) ++ below =
    c.in_ok-drawn.ensures.regions c.if-not-drawn.false ∙ ap (λ i. left_after t region i ++ below) (sym same) in
    let known = c.loop-index.invariant in
    let parts =
    All-pop (IsOf t) c.loop-index.stack.items c.pop.new.self.items (Some c.in-Some.region) c.in-Some.ensures.items known.1.0 in (
      (λ each rest.
          known.0 each
          (subst (λ regions. refutes t p regions (drop k is) ≡ true) (sym opened)
          (with_inference t p is k region below (inference_of item) (omega (arith, long, within)) holds
          (subst (λ regions. refutes t p regions (drop (k + 1) is) ≡ true) left rest)))),
      (
        c.in_ok-drawn.ensures.of c.if-not-drawn.false parts.0,
        (known.1.1.0, omega (arith, low)),
      ),
    )

pub returns-clause-refuted : goal.returns-clause-refuted
returns-clause-refuted c each =
    let t = c.args.basis.now in
    let p = c.args.placement.now in
    let is = map inference_of c.args.inferences.now in
    let roots = c.in_ok-stack.ensures.regions in
    let all : All (IsRefutedBy t p is) c.loop-index.all.items =
    all_of_each (IsRefutedBy t p is) c.loop-index.all.items each in
    let empty = eqb-true _ 0 (sym c.is_empty.ensures ∙ c.if-not-is_empty.false) in
    let none : c.loop-index.stack.items ≡ [] = nil_from_length c.loop-index.stack.items (omega (arith, empty)) in
    let long = length-map c.args.inferences.now inference_of in
    let count = c.len-count.ensures in
    let high = c.loop-index-test.false in
    let rest : refutes t p (stacked c.loop-index.stack.items) (drop c.loop-index.index is) ≡ true =
    subst (λ regions. refutes t p (stacked regions) (drop c.loop-index.index is) ≡ true) (sym none)
    (with_nothing t p is c.loop-index.index (omega (arith, high, count, long))) in
    record {
      runs = roots.0;
      all = roots.1;
      refuted = subst (λ regions. refutes t p regions is ≡ true) roots.2 (c.loop-index.invariant.0 all rest);
    }
