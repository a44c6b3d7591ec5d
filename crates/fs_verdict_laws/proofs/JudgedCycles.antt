-- A round of the judged relation is a cycle that a certificate can have, and a forbidden outcome has one for each
-- candidate.
use Rattle.std.proofs.Common.{◌≡◌, ℕ, suc, ◌<◌, ◌≤◌, inl, inr, true, Option, Some, option_map, option_and_then, unwrap_or, List, [], ◌∷◌, ◌++◌, map, length, refl, sym, ◌∙◌, ap, subst, arith}
use Rattle.std.specs.Prelude.{slice_get}
use Rattle.std.specs.List.{AllZip, Contains, list_all, zip}
use Rattle.std.proofs.lemmas.Bool.{false≢true, and_parts, and_from, or_left, or_right}
use Rattle.std.proofs.lemmas.List.{length-append}
use Rattle.fs_kinds.specs.declared.placement.Entry.{Entry}
use Rattle.fs_kinds.specs.declared.reason.OperationName.{OperationName as Name}
use Rattle.fs_model.specs.declared.test.Test.{Test}
use Rattle.fs_model.specs.declared.step.Step.{Step}
use Rattle.fs_model.specs.Numbers.{has_number}
use Rattle.fs_model.specs.Operations.{PreExecution, accesses, operations, operation, place, steps_of}
use Rattle.fs_model.specs.Allows.{Allows}
use Rattle.fs_cert_evidence.specs.Candidates.{Candidate, IsRaw, IsShowing, runs_of}
use Rattle.fs_cert_evidence.specs.Judged.{all_causes, is_edge, is_judged}
use Rattle.fs_cert_evidence.specs.Certificate.{Link}
use Rattle.fs_cert_evidence.specs.Listings.{IsListing}
use Rattle.fs_model.specs.Witness.{name_of, step_name}
use Rattle.fs_cert_evidence.specs.Cycles.{IsCycle, HasCycles, are_edges, most_links}
use Rattle.fs_model.proofs.ListedNumbers.{has-here, has-later, has-cases, has-append}
use Rattle.fs_model.proofs.HartOperations.{has_name}
use Rattle.fs_verdict_laws.specs.Decide.{IsRound, ordered_by}
use Rattle.fs_verdict_laws.proofs.Rules.{some_found, judged_by_causes}
use Rattle.fs_verdict_laws.proofs.JudgedEdges.{edge_low}
use Rattle.fs_verdict_laws.proofs.Sorting.{ordered_or_round}
use Rattle.fs_verdict_laws.proofs.Forth.{executed}

-- ---- a round as links

module _ (t : Test) (p : List Entry) (c : Candidate) where
  -- links for these edges
  record AreLinks (ns ms : List ℕ) (links : List Link) : Type 0 where
    names : map (name_of (runs_of t c)) ns ≡ map (λ link. Some link.operation) links
    edges : are_edges (runs_of t c) p c (zip ns ms) (map (λ link. link.cause) links) ≡ true
    long : length links ≡ length ns

  linked : (ns ms : List ℕ) → ((n : ℕ) → has_number ns n ≡ true → n < length (accesses (runs_of t c))) → length ns ≡ length ms
      → list_all (λ e. is_judged (runs_of t c) p c e.0 e.1) (zip ns ms) ≡ true → (links : List Link) × AreLinks ns ms links
  linked [] ms low long all = ([], record { names = refl; edges = refl; long = refl })
  linked (n ∷ ns) [] low long all = absurd (omega (arith, long))
  linked (n ∷ ns) (m ∷ ms) low long all =
      let parts = and_parts (is_judged (runs_of t c) p c n m) (list_all (λ e. is_judged (runs_of t c) p c e.0 e.1) (zip ns ms)) all in
      let cause = some_found (is_edge (runs_of t c) p c n m) all_causes (sym (judged_by_causes t p c n m) ∙ parts.0) in
      let name = has_name (runs_of t c) n (low n (has-here n ns n refl)) in
      let rest = linked ns ms (λ k there. low k (has-later n ns k there)) (omega (arith, long)) parts.1 in
      let many = rest.1.long in (
        record { operation = name.0; cause = cause.0 } ∷ rest.0,
        record {
          names = rw (name.1, rest.1.names) refl;
          edges = and_from (is_edge (runs_of t c) p c n m cause.0) _ cause.1 rest.1.edges;
          long = omega (arith, many);
        },
      )

  entered : IsRaw t c → (ns ms : List ℕ) → length ns ≡ length ms → list_all (λ e. is_judged (runs_of t c) p c e.0 e.1) (zip ns ms) ≡ true
      → (m : ℕ) → has_number ms m ≡ true → m < length (accesses (runs_of t c))
  entered raw ns [] long all m there = absurd (false≢true there)
  entered raw [] (k ∷ ms) long all m there = absurd (omega (arith, long))
  entered raw (n ∷ ns) (k ∷ ms) long all m there =
      let parts = and_parts (is_judged (runs_of t c) p c n k) (list_all (λ e. is_judged (runs_of t c) p c e.0 e.1) (zip ns ms)) all in
      elim (has-cases k ms m there) [
        | inl same ↦ subst (λ (z : ℕ). z < length (accesses (runs_of t c))) same (edge_low t p c raw n k parts.0)
        | inr later ↦ entered raw ns ms (omega (arith, long)) parts.1 m later
      ]

  pub round_cycle : IsRaw t c → (ns : List ℕ) → IsRound (is_judged (runs_of t c) p c) ns → length ns ≤ most_links → (links : List Link) × IsCycle t p c links
  round_cycle raw [] round short = absurd (let some = round.some in omega (arith, some))
  round_cycle raw (n ∷ ns) round short =
      let long : length (n ∷ ns) ≡ length (ns ++ n ∷ []) = omega (arith, length-append ns (n ∷ [])) in
      let found = linked (n ∷ ns) (ns ++ n ∷ [])
      (λ m there. entered raw (n ∷ ns) (ns ++ n ∷ []) long round.edges m (elim (has-cases n ns m there) [
        | inl same ↦ has-append ns (n ∷ []) m ∙ or_right (has_number ns m) _ (has-here n [] m same)
        | inr later ↦ has-append ns (n ∷ []) m ∙ or_left (has_number ns m) _ later
      ]))
      long round.edges in
      let many = found.1.long in (
        found.0,
        record {
          some = omega (arith, many);
          most = omega (arith, many, short);
          operations = n ∷ ns;
          names = found.1.names;
          edges = found.1.edges;
        },
      )

-- ---- for each candidate of a list

each_cycle : (t : Test) (p : List Entry) (cs : List Candidate) → ((c : Candidate) → Contains cs c → (links : List Link) × IsCycle t p c links)
    → (cycles : List (List Link)) × AllZip (IsCycle t p) cs cycles
each_cycle t p [] each = ([], tt)
each_cycle t p (c ∷ cs) each =
    let first = each c (0, omega arith, refl) in
    let rest = each_cycle t p cs (λ d (k, low, e). each d (suc k, omega (arith, low), e)) in
    (first.0 ∷ rest.0, (first.1, rest.1))

pub cycles_exist : (t : Test) (p : List Entry) (cs : List Candidate) → IsListing t cs
    → ((c : Candidate) → IsShowing t c → length (operations (runs_of t c)) ≤ most_links) → (Allows t p → ⊥)
    → (cycles : List (List Link)) × HasCycles t p cycles
cycles_exist t p cs listing few forbids =
    let cycles = each_cycle t p cs (λ c there. one c ((listing.exact c).0 there)) in
    (cycles.0, (cs, listing, cycles.1))
  where
    one : (c : Candidate) → IsShowing t c → (links : List Link) × IsCycle t p c links
    one c showing = elim (ordered_or_round t p c showing.raw) [
      | inl order ↦ absurd (forbids (ordered_by c order.0, (executed t p c order.0 showing order.1).shows))
      | inr round ↦ round_cycle t p c showing.raw round.0 round.1 (let short = round.2 in let most = few c showing in omega (arith, short, most))
    ]
