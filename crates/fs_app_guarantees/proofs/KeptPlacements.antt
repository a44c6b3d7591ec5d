-- What placements allow, and what witnesses show.
use Rattle.std.proofs.Common.{◌≡◌, ◌↔◌, Bool, Some, List, ap, ◌∙◌}
use Rattle.fs_kinds.specs.declared.kind.Kind.TheVariants.{RwRw}
use Rattle.fs_kinds.specs.declared.placement.Entry.{Entry}
use Rattle.fs_kinds.specs.Placement.{all_with}
use Rattle.fs_kinds.specs.PriceTable.{PriceTable}
use Rattle.fs_model.specs.Slots.{slots}
use Rattle.fs_model.specs.declared.test.Test.{Test}
use Rattle.fs_model.specs.Test.{IsSame}
use Rattle.fs_model.specs.Allows.{Shows, Allows, IsPlacement, IsCheapest, RefutesAll}
use Rattle.fs_model.specs.Execution.{Execution, IsExecution, pre_execution}
use Rattle.fs_model.specs.Shows.{holds, is_outcome, final_register, final_word, has_outcome}
use Rattle.fs_model.specs.Witness.{Witness, IsOfWitness}
use Rattle.fs_cert_evidence.specs.Certificate.{IsLeastCost}
use Rattle.fs_cert_evidence.specs.Shown.{ShowsAs, IsShownBy}
use Rattle.fs_cert_evidence.specs.Widths.{width}
use Rattle.fs_app_guarantees.proofs.Kept.{Keeps, back, same_whole, carried}

pub execution : (p : List Entry) (x : Execution) → Keeps (λ t. IsExecution t p x)
execution p x u v e h = record { harts = h.harts; runs = h.runs; axioms = h.axioms }

pub outcome : (x : Execution) (b : Bool) → Keeps (λ t. has_outcome t x ≡ b)
outcome x b u v e h =
    ap (λ condition. is_outcome u.quantifier
    (holds (final_register u x.traces) (final_word (pre_execution u x.traces) x.order) condition)) e
    ∙ h

shows : (p : List Entry) (x : Execution) → Keeps (λ t. Shows t p x)
shows p x u v e h = record { execution = execution p x u v e h.execution; outcome = outcome x _ u v e h.outcome }

pub allows : (p : List Entry) → Keeps (λ t. Allows t p)
allows p u v e h = (h.0, shows p h.0 u v e h.1)

pub placement : (prices : PriceTable) (p : List Entry) → Keeps (λ t. IsPlacement t prices p)
placement prices p u v e h = record { slots = h.slots; offered = h.offered }

cheapest : (prices : PriceTable) (p : List Entry) → Keeps (λ t. IsCheapest t prices p)
cheapest prices p u v e h =
    record {
      placement = placement prices p u v e h.placement;
      forbids = λ x. h.forbids (back (λ t. Allows t p) (allows p) u v e x);
      better =
          λ q is better. allows q u v e (h.better q (back (λ t. IsPlacement t prices q) (placement prices q) u v e is) better);
    }

least_cost : (prices : PriceTable) (p : List Entry) → Keeps (λ t. IsLeastCost t prices p)
least_cost prices p u v e h =
    record {
      placement = placement prices p u v e h.placement;
      forbids = λ x. h.forbids (back (λ t. Allows t p) (allows p) u v e x);
      cheaper =
          λ q is less. allows q u v e (h.cheaper q (back (λ t. IsPlacement t prices q) (placement prices q) u v e is) less);
    }

pub refutes_all : (x : Execution) → Keeps (λ t. RefutesAll t x)
refutes_all x u v e h = shows (all_with (Some RwRw) (slots u)) x u v e h

pub of_witness : (w : Witness) (x : Execution) → Keeps (λ t. IsOfWitness t w x)
of_witness w x u v e h = record { lists = h.lists; harts = h.harts; runs = h.runs; order = h.order }

pub shows_as : (p : List Entry) (w : Witness) (x : Execution) → Keeps (λ t. ShowsAs t p w x)
shows_as p w x u v e h = (of_witness w x u v e h.0, shows p x u v e h.1)

pub shown_by : (p : List Entry) (w : Witness) → Keeps (λ t. IsShownBy t p w)
shown_by p w u v e h = (h.0, shows_as p w h.0 u v e h.1)

pub width_same : (t u : Test) → IsSame t u → (x : Execution) → width t x ≡ width u x
width_same t u s x = ap (λ test. width test x) (same_whole t u s)

pub allows_same : (t u : Test) → IsSame t u → (p : List Entry) → Allows t p ↔ Allows u p
allows_same t u s p = carried (λ x. Allows x p) (allows p) t u s

pub placement_same :
    (t u : Test) → IsSame t u → (prices : PriceTable) (p : List Entry) → IsPlacement t prices p ↔ IsPlacement u prices p
placement_same t u s prices p = carried (λ x. IsPlacement x prices p) (placement prices p) t u s

pub cheapest_same :
    (t u : Test) → IsSame t u → (prices : PriceTable) (p : List Entry) → IsCheapest t prices p ↔ IsCheapest u prices p
cheapest_same t u s prices p = carried (λ x. IsCheapest x prices p) (cheapest prices p) t u s

pub least_cost_same :
    (t u : Test) → IsSame t u → (prices : PriceTable) (p : List Entry) → IsLeastCost t prices p ↔ IsLeastCost u prices p
least_cost_same t u s prices p = carried (λ x. IsLeastCost x prices p) (least_cost prices p) t u s

pub refutes_all_same : (t u : Test) → IsSame t u → (e : Execution) → RefutesAll t e ↔ RefutesAll u e
refutes_all_same t u s e = carried (λ x. RefutesAll x e) (refutes_all e) t u s

pub of_witness_same : (t u : Test) → IsSame t u → (w : Witness) (e : Execution) → IsOfWitness t w e ↔ IsOfWitness u w e
of_witness_same t u s w e = carried (λ x. IsOfWitness x w e) (of_witness w e) t u s

pub shown_by_same : (t u : Test) → IsSame t u → (p : List Entry) (w : Witness) → IsShownBy t p w ↔ IsShownBy u p w
shown_by_same t u s p w = carried (λ x. IsShownBy x p w) (shown_by p w) t u s
