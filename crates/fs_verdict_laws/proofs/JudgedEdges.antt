-- No edge of the judged relation enters an initial store, and no order respects a cycle.
use Rattle.std.proofs.Common.{◌≡◌, ℕ, ◌+◌, ◌<◌, ◌≤◌, Bool, true, Some, is_some, List, [], ◌∷◌, ◌++◌, take, drop, map, length, refl, sym, ◌∙◌, ap, arith}
use Rattle.std.specs.List.{list_all, zip}
use Rattle.std.proofs.lemmas.Bool.{false≢true, and_parts, and_from, or_left, or_right}
use Rattle.std.proofs.lemmas.List.{length-map}
use Rattle.fs_kinds.specs.declared.placement.Entry.{Entry}
use Rattle.fs_model.specs.declared.test.Test.{Test}
use Rattle.fs_model.specs.Test.{address_of}
use Rattle.fs_model.specs.Numbers.{stands_before}
use Rattle.fs_model.specs.Operations.{accesses, operations, operation}
use Rattle.fs_model.specs.Source.{gmo}
use Rattle.fs_model.specs.Preserved.{ppo, rule}
use Rattle.fs_cert_evidence.specs.Candidates.{Candidate, IsRaw, runs_of, rf, co, stores_to}
use Rattle.fs_cert_evidence.specs.Judged.{Cause, Preserved, ReadsFrom, Coherence, FromReads, is_edge, is_judged, rfe}
use Rattle.fs_cert_evidence.specs.Certificate.{Link}
use Rattle.fs_model.specs.Witness.{name_of}
use Rattle.fs_cert_evidence.specs.Cycles.{IsCycle, around, are_edges}
use Rattle.fs_model.proofs.Preserved.{ppo_in_po}
use Rattle.fs_model.proofs.OptionalNumbers.{one_value}
use Rattle.fs_model.proofs.ListedNumbers.{AreOnce}
use Rattle.fs_model.proofs.NumberOrders.{not_itself, before_trans}
use Rattle.fs_model.proofs.OnceListed.{gmo_once}
use Rattle.fs_model.proofs.WhichOperation.{hart_access, load_access, store_there, length_operations, Access, Initial, Past, which}
use Rattle.fs_model.proofs.ProgramOrder.{in_po}
use Rattle.fs_model.proofs.ByRule.{any_there}
use Rattle.fs_verdict_laws.specs.Decide.{IsOrdered, IsRound}
use Rattle.fs_verdict_laws.proofs.Orders.{none_earlier}
use Rattle.fs_verdict_laws.proofs.Rules.{judged_ppo, judged_co, ByRule, BySource, ByOrder, ByRead, caused}
use Rattle.fs_verdict_laws.proofs.Sourced.{co_is, source_is, stores_once, stores_first, store_to_parts, same_location}

-- ---- initial stores

-- what is later in coherence order is an operation of a hart
later_low : (t : Test) (c : Candidate) (raw : IsRaw t c) (a b : ℕ) → co c a b ≡ true → b < length (accesses (runs_of t c))
later_low t c raw a b later =
    let x = runs_of t c in
    let at = co_is t c raw a b later in
    let stores = store_to_parts x at.location b at.second in
    elim (which x b) [
      | Access low ↦ low
      | Initial k low e is ↦ absurd (
          let same : k ≡ at.location = same_location k at.location
          (one_value (operation x b).address (address_of k) (address_of at.location) (ap (λ o. o.address) is) stores.1) in
          let first : b ≡ length (accesses x) + at.location = omega (arith, e, same) in
          none_earlier (stores_to c at.location) b a (stores_once t c raw at.location at.low) (stores_first t c raw at.location at.low ∙ ap Some (sym first)) at.before)
      | Past past is ↦ absurd (false≢true (sym (ap (λ o. is_some o.stored) is) ∙ stores.0))
    ]

-- each edge enters an operation of a hart
pub edge_low : (t : Test) (p : List Entry) (c : Candidate) → IsRaw t c → (a b : ℕ) → is_judged (runs_of t c) p c a b ≡ true → b < length (accesses (runs_of t c))
edge_low t p c raw a b edge = elim (caused t p c a b edge) [
  | ByRule preserved ↦ (
      let before = in_po (runs_of t c) a b (ppo_in_po (runs_of t c) p (rf c) a b preserved) in
      hart_access (runs_of t c) b before.hart before.second)
  | BySource source far ↦ load_access (runs_of t c) b (source_is t c raw b a source).load
  | ByOrder later ↦ later_low t c raw a b later
  | ByRead s source later apart ↦ later_low t c raw s b later
]

-- and leaves an operation
pub edge_from : (t : Test) (p : List Entry) (c : Candidate) → IsRaw t c → (a b : ℕ) → is_judged (runs_of t c) p c a b ≡ true → a < length (operations (runs_of t c))
edge_from t p c raw a b edge =
    let x = runs_of t c in
    let many = length_operations x in
    elim (caused t p c a b edge) [
      | ByRule preserved ↦ (
          let before = in_po x a b (ppo_in_po x p (rf c) a b preserved) in
          let low = hart_access x a before.hart before.first in
          omega (arith, low, many))
      | BySource source far ↦ store_there x a (source_is t c raw b a source).store
      | ByOrder later ↦ (let at = co_is t c raw a b later in store_there x a (store_to_parts x at.location a at.first).0)
      | ByRead s source later apart ↦ (let low = load_access x a (source_is t c raw a s source).load in omega (arith, low, many))
    ]

-- ---- cycles

module _ (M : List ℕ) (R : ℕ → ℕ → Bool) (once : AreOnce M) (forward : (a b : ℕ) → R a b ≡ true → stands_before M a b ≡ true) where
  along : (b : ℕ) (rest : List ℕ) (z : ℕ) → list_all (λ e. R e.0 e.1) (zip (b ∷ rest) (rest ++ z ∷ [])) ≡ true → stands_before M b z ≡ true
  along b [] z all = forward b z (and_parts _ _ all).0
  along b (d ∷ ds) z all =
      let parts = and_parts _ _ all in before_trans M b d z once (forward b d parts.0) (along d ds z parts.1)

  no_round : (ns : List ℕ) → 1 ≤ length ns → list_all (λ e. R e.0 e.1) (around ns) ≡ true → ⊥
  no_round [] some all = omega (arith, some)
  no_round (n ∷ ns) some all = not_itself M n once (along n ns n all)

-- no order respects a relation with a round
pub round_excludes : (t : Test) (p : List Entry) (c : Candidate) (ns order : List ℕ) → IsRound (is_judged (runs_of t c) p c) ns → IsOrdered t p c order → ⊥
round_excludes t p c ns order round ordered =
    no_round (gmo (runs_of t c) order) (is_judged (runs_of t c) p c) (gmo_once (runs_of t c) order ordered.once) ordered.respects ns round.some round.edges

-- an edge for any of the causes is one of the judged relation
edge_judged : (t : Test) (p : List Entry) (c : Candidate) (a b : ℕ) (cause : Cause) → is_edge (runs_of t c) p c a b cause ≡ true → is_judged (runs_of t c) p c a b ≡ true
edge_judged t p c a b (Preserved r) e = judged_ppo t p c a b (any_there (rule (runs_of t c) p (rf c) a b) r e)
edge_judged t p c a b ReadsFrom e = or_right (ppo (runs_of t c) p (rf c) a b) _ (or_left _ _ e)
edge_judged t p c a b Coherence e = judged_co t p c a b e
edge_judged t p c a b FromReads e =
    or_right (ppo (runs_of t c) p (rf c) a b) _ (or_right (rfe (runs_of t c) c a b) _ (or_right (co c a b) _ e))

all_judged : (t : Test) (p : List Entry) (c : Candidate) (pairs : List (ℕ × ℕ)) (causes : List Cause) → length pairs ≤ length causes
    → are_edges (runs_of t c) p c pairs causes ≡ true → list_all (λ e. is_judged (runs_of t c) p c e.0 e.1) pairs ≡ true
all_judged t p c [] causes fits all = refl
all_judged t p c (pair ∷ pairs) [] fits all = absurd (omega (arith, fits))
all_judged t p c (pair ∷ pairs) (cause ∷ causes) fits all =
    let parts = and_parts _ _ all in
    and_from _ _ (edge_judged t p c pair.0 pair.1 cause parts.0) (all_judged t p c pairs causes (omega (arith, fits)) parts.1)

zip_short : (xs ys : List ℕ) → length (zip xs ys) ≤ length xs
zip_short [] ys = omega arith
zip_short (x ∷ xs) [] = omega arith
zip_short (x ∷ xs) (y ∷ ys) = let rest = zip_short xs ys in omega (arith, rest)

-- a cycle of a certificate is a round
pub cycle_round : (t : Test) (p : List Entry) (c : Candidate) (links : List Link) → (cycle : IsCycle t p c links) → IsRound (is_judged (runs_of t c) p c) cycle.operations
cycle_round t p c links cycle =
    let ns = cycle.operations in
    let long : length ns ≡ length links =
    sym (length-map ns (name_of (runs_of t c))) ∙ ap length cycle.names ∙ length-map links (λ link. Some link.operation) in
    let causes = map (λ link. link.cause) links in
    let many : length causes ≡ length links = length-map links (λ link. link.cause) in
    let short : length (around ns) ≤ length ns = zip_short ns (drop 1 ns ++ take 1 ns) in
    let some = cycle.some in
    record {
      some = omega (arith, some, long);
      edges = all_judged t p c (around ns) causes (omega (arith, short, long, many)) cycle.edges;
    }

-- so it excludes every order
pub cycle_excludes : (t : Test) (p : List Entry) (c : Candidate) (links : List Link) (order : List ℕ) → IsCycle t p c links → IsOrdered t p c order → ⊥
cycle_excludes t p c links order cycle ordered = round_excludes t p c cycle.operations order (cycle_round t p c links cycle) ordered
