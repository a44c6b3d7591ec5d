-- What fences an order bears, where the runs are those of a candidate with an order: those that let be turned round
-- what it turns.
use Rattle.std.specs.Prelude.{ℕ, Bool, ◌&&◌, not, List, map, filter, length}
use Rattle.std.specs.List.{list_all, flat_map}
use Rattle.fs_kinds.specs.declared.placement.Entry.{Entry}
use Rattle.fs_model.specs.declared.test.Test.{Test}
use Rattle.fs_model.specs.Numbers.{numbers_below, stands_before}
use Rattle.fs_model.specs.Operations.{operations, po}
use Rattle.fs_model.specs.Source.{gmo}
use Rattle.fs_model.specs.Fences.{fence_between}
use Rattle.fs_check.specs.declared.ordered.OrderedCandidate.{OrderedCandidate}
use Rattle.fs_check.specs.Ordered.{runs_in}

module _ (t : Test) (o : OrderedCandidate) where
  -- a comes before b in program order, and not in the order
  abbrev pub is_turned : ℕ → ℕ → Bool
  is_turned a b = not (stands_before (gmo (runs_in t o) o.order.listed) a b) && po (runs_in t o) a b

  -- a beside each operation that it is turned round with
  abbrev pub turned_after : ℕ → List (ℕ × ℕ)
  turned_after a = map (λ b. (a, b)) (filter (is_turned a) (numbers_below (length (operations (runs_in t o)))))

  -- each two that are turned round
  abbrev pub all_turned : List (ℕ × ℕ)
  all_turned = flat_map turned_after (numbers_below (length (operations (runs_in t o))))

  -- these fences and those of the test let the two be turned round
  abbrev pub is_borne : List Entry → ℕ × ℕ → Bool
  is_borne fences turn = not (po (runs_in t o) turn.0 turn.1 && fence_between (runs_in t o) fences turn.0 turn.1)

  abbrev pub is_borne_by_all : List Entry → Bool
  is_borne_by_all fences = list_all (is_borne fences) all_turned
