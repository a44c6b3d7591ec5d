-- What is so of runs with an order of their operations.
use Rattle.std.proofs.Common.{◌≡◌, ℕ, ◌<◌, ◌≤◌, ◌&&◌, Bool, true, false, not, List, length, map, sym, ◌∙◌, ap, arith}
use Rattle.std.specs.List.{enumerate_from}
use Rattle.std.proofs.lemmas.List.{length-append}
use Rattle.fs_kinds.specs.declared.placement.Entry.{Entry}
use Rattle.fs_model.specs.declared.test.Test.{Test}
use Rattle.fs_model.specs.Numbers.{stands_before}
use Rattle.fs_model.specs.Operations.{PreExecution, accesses, operations, initial_store}
use Rattle.fs_model.specs.Source.{gmo, source_in}
use Rattle.fs_model.specs.Reasons.{is_against_rule}
use Rattle.fs_cand.specs.Candidates.{rf}
use Rattle.fs_model_axioms.proofs.Sources.{source_of}
use Rattle.fs_check.specs.declared.ordered.OrderedCandidate.{OrderedCandidate}
use Rattle.fs_check.specs.inner.Breaking.{is_before}
use Rattle.fs_check.specs.Ordered.{IsOrdered, runs_in}
use Rattle.fs_check.proofs.Befores.{before_agrees, against}

pub harts_first : (x : PreExecution) → length (accesses x) ≤ length (operations x)
harts_first x = omega (arith, length-append (accesses x) (map initial_store (enumerate_from 0 x.words)))

module _ (t : Test) (o : OrderedCandidate) (h : IsOrdered t o) where
  pub of_runs : o.order.operations ≡ operations (runs_in t o)
  of_runs = h.operations ∙ h.made.operations

  pub in_operations : (a : ℕ) → a < length (accesses (runs_in t o)) → a < length o.candidate.operations
  in_operations a low = omega (arith, low, harts_first (runs_in t o), ap length h.made.operations)

  source_is : (a : ℕ) → rf o.candidate a ≡ source_in (runs_in t o) o.order.listed a
  source_is a =
      source_of (runs_in t o) o.order.listed o.candidate.source (length o.candidate.operations) a (ap length h.made.operations) h.sources

  module _ (p : List Entry) (n a b : ℕ) (before : Bool) (is : before ≡ is_before (runs_in t o) p (rf o.candidate) n a b) where
    agreed : before ≡ is_before (runs_in t o) p (source_in (runs_in t o) o.order.listed) n a b
    agreed = is ∙ before_agrees (runs_in t o) p (rf o.candidate) (source_in (runs_in t o) o.order.listed) n a b (λ ordered. (source_is a, source_is b))

    pub against_then : (stands : Bool) → before ≡ true → stands ≡ stands_before (gmo (runs_in t o) o.order.listed) a b → not stands ≡ is_against_rule (runs_in t o) p o.order.listed n a b
    against_then stands holds k =
        ap not k
        ∙ sym (ap (λ c. c && not (stands_before (gmo (runs_in t o) o.order.listed) a b)) (sym agreed ∙ holds))
        ∙ against (runs_in t o) p o.order.listed n a b

    pub against_else : before ≡ false → before ≡ is_against_rule (runs_in t o) p o.order.listed n a b
    against_else fails =
        fails ∙ sym (ap (λ c. c && not (stands_before (gmo (runs_in t o) o.order.listed) a b)) (sym agreed ∙ fails))
        ∙ against (runs_in t o) p o.order.listed n a b
