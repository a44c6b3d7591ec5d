use Rattle.std.proofs.Common.{◌≡◌, ◌∙◌, ◌++◌, ◌∷◌, [], Some, ap, subst, sym, arith}
use Rattle.std.proofs.lemmas.List.{nil_from_length}
use Rattle.std.proofs.lemmas.List.Elements.{All-nil, All-pop}
use Rattle.fs_region_refutation.specs.Views.{AreOf, IsOf, region_of, regions_of}
use Rattle.fs_region_refutation.specs.inner.Stacks.{stacked}
use Rattle.fs_region_refutation.proofs.Stacks.{stacked_push}
use Rattle.fs_app_why.proofs.Walked.{all_made, at_end, goes_on, left_from, none_open, over_roots}
use Rattle.fs_app_why.proofs.walk.chains.Goals as goal

pub loop-index-init : goal.loop-index-init
loop-index-init c =
    let t = c.args.basis.now in
    let none : AreOf t c.new-stack.result.items = subst (AreOf t) (sym c.new-stack.ensures.items) (All-nil (IsOf t)) in (
      ap (λ made. made ++ left_from t c.args.placement.now (stacked c.push_all.new.stack.items) c.args.inferences.now 0) c.new-made.ensures.items,
      c.in_ok-push_all.ensures.of t c.in_ok-roots.ensures.of none,
    )

pub returns-in_default-clause-made : goal.returns-in_default-clause-made
returns-in_default-clause-made c =
    let t = c.args.basis.now in
    let p = c.args.placement.now in
    let is = c.args.inferences.now in
    let k = c.loop-index.index in
    let empty = c.in_default.ensures.cases.0 in
    let none : c.loop-index.stack.items ≡ [] = nil_from_length c.loop-index.stack.items (omega (arith, empty)) in
    over_roots t p is c.in_ok-roots.field-0.items c.new-stack.result.items c.push_all.new.stack.items
    c.loop-index.made.items c.new-stack.ensures.items c.in_ok-push_all.ensures.regions c.in_ok-roots.ensures.regions
    (all_made t p c.loop-index.made.items (left_from t p (stacked c.loop-index.stack.items) is k) _
    (ap (λ rs. left_from t p rs is k) (ap stacked none) ∙ none_open t p is k) c.loop-index.invariant.0)

pub push_end-requires : goal.push_end-requires
push_end-requires c = cc

pub left_after-requires : goal.left_after-requires
left_after-requires c =
    let t = c.args.basis.now in
    (All-pop (IsOf t) c.loop-index.stack.items c.pop.new.self.items (Some c.in-Some.region) c.in-Some.ensures.items
    c.loop-index.invariant.1).1

pub loop-index-preserved : goal.loop-index-preserved
loop-index-preserved c =
    let t = c.args.basis.now in
    let p = c.args.placement.now in
    let is = c.args.inferences.now in
    let region = region_of c.in-Some.region in
    let opened : stacked c.loop-index.stack.items ≡ region ∷ stacked c.pop.new.self.items =
    ap stacked c.in-Some.ensures.items ∙ stacked_push c.pop.new.self.items c.in-Some.region in
    let parts =
    All-pop (IsOf t) c.loop-index.stack.items c.pop.new.self.items (Some c.in-Some.region) c.in-Some.ensures.items
    c.loop-index.invariant.1 in (
      goes_on t p is c.loop-index.index region (stacked c.loop-index.stack.items)
          (stacked c.push_all-in-loop-index.new.stack.items) (stacked c.pop.new.self.items)
          (regions_of c.in_ok-left_after.field-0.items) c.index-inferences-index.result
          c.loop-index.made.items c.push_end.new.made.items _ c.loop-index-test.true c.index-inferences-index.is opened
          c.in_ok-left_after.ensures.regions c.in_ok-push_all-2.ensures.regions c.in_ok-push_end.ensures
          c.loop-index.invariant.0,
      c.in_ok-push_all-2.ensures.of t c.in_ok-left_after.ensures.of parts.0,
    )

pub returns-clause-made : goal.returns-clause-made
returns-clause-made c =
    let t = c.args.basis.now in
    let p = c.args.placement.now in
    let is = c.args.inferences.now in
    over_roots t p is c.in_ok-roots.field-0.items c.new-stack.result.items c.push_all.new.stack.items
    c.loop-index.made.items c.new-stack.ensures.items c.in_ok-push_all.ensures.regions c.in_ok-roots.ensures.regions
    (all_made t p c.loop-index.made.items (left_from t p (stacked c.loop-index.stack.items) is c.loop-index.index) _
    (at_end t p (stacked c.loop-index.stack.items) is c.loop-index.index (omega (arith, c.loop-index-test.false)))
    c.loop-index.invariant.0)
