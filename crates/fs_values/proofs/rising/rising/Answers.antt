use Rattle.std.proofs.Common.{subst, sym, ◌∙◌}
use Rattle.std.specs.List.{Contains}
use Rattle.std.specs.List.Sorted.{IsStrictlyIncreasing}
use Rattle.std.proofs.lemmas.List.Filters.{dedup_is}
use Rattle.std.proofs.lemmas.List.Kept.{Contains-dedup_nat, Contains-from_dedup}
use Rattle.std.proofs.lemmas.List.Sorted.{Contains-permutation, IsPermutation-sym}
use Rattle.std.proofs.lemmas.Map.Keys.{IsStrictlyIncreasing-dedup}
use Rattle.fs_values.proofs.rising.rising.Goals as goal

pub returns-clause-rising : goal.returns-clause-rising
returns-clause-rising c =
    subst IsStrictlyIncreasing (sym (c.new.ensures ∙ dedup_is _ c.sort.new.self.items _ c.dedup.ensures.filtered))
    (IsStrictlyIncreasing-dedup c.sort.new.self.items c.in_ok-sort.ensures.sorted)

pub returns-clause-same : goal.returns-clause-same
returns-clause-same c =
    let sorted = c.sort.new.self.items in
    let is = c.new.ensures ∙ dedup_is _ sorted _ c.dedup.ensures.filtered in
    λ word. (
      (λ has. Contains-permutation sorted c.args.words.items word (IsPermutation-sym _ _ c.in_ok-sort.ensures.permutation)
          (Contains-from_dedup _ sorted word (subst (λ xs. Contains xs word) is has))),
      (λ has. subst (λ xs. Contains xs word) (sym is)
          (Contains-dedup_nat sorted word (Contains-permutation c.args.words.items sorted word c.in_ok-sort.ensures.permutation has))),
    )
