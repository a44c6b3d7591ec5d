-- Whatever sorts the judged relation of all operations gives an order of it: the initial stores come to the front.
use Rattle.std.proofs.Common.{◌≡◌, ℕ, ◌<◌, ◌≤◌, ◌==◌, nat_lt, ◌⊎◌, inl, inr, true, List, length, sym, ◌∙◌, arith}
use Rattle.std.specs.List.{range_with_len}
use Rattle.std.proofs.lemmas.Bool.{cases_lt, and_from, eq-eqb, lt-ltb, ltb-true}
use Rattle.std.proofs.lemmas.List.FromFn.{length-range_with_len}
use Rattle.fs_kinds.specs.declared.placement.Entry.{Entry}
use Rattle.fs_model.specs.declared.test.Test.{Test}
use Rattle.fs_model.specs.Numbers.{has_number, numbers_below, stands_before}
use Rattle.fs_model.specs.Operations.{accesses, operations}
use Rattle.fs_model.specs.Source.{gmo, lists_each_once}
use Rattle.fs_cert_evidence.specs.Candidates.{Candidate, IsRaw, runs_of}
use Rattle.fs_cert_evidence.specs.Judged.{is_judged}
use Rattle.fs_model.proofs.ListedNumbers.{AreOnce, has-range, range-has, once-range, all_from}
use Rattle.fs_model.proofs.NumberOrders.{before-first, before-append_right}
use Rattle.fs_model.proofs.FilteredNumbers.{filter_has, in_filter, before_in_filter, once-filter}
use Rattle.fs_model.proofs.CountedNumbers.{IsWithin, as_long, no_others, each_once}
use Rattle.fs_model.proofs.WhichOperation.{length_operations}
use Rattle.fs_verdict_laws.specs.Decide.{IsOrdered, IsSorted, IsRound, of_harts}
use Rattle.fs_verdict_laws.proofs.GlobalOrder.{initial_first}
use Rattle.fs_verdict_laws.proofs.JudgedEdges.{edge_low, edge_from}
use Rattle.fs_verdict_laws.proofs.Acyclic.{sorts_or_round}

module _ (t : Test) (p : List Entry) (c : Candidate) (raw : IsRaw t c) (sorted : List ℕ) (is : IsSorted t p c sorted) where
  all : IsWithin (numbers_below (length (operations (runs_of t c)))) sorted
  all a there =
      let range = range-has 0 (length (operations (runs_of t c))) a there in
      is.all a (omega (arith, range.1))

  long : length sorted ≡ length (numbers_below (length (operations (runs_of t c))))
  long = is.long ∙ sym (length-range_with_len 0 (length (operations (runs_of t c))))

  sorted_once : AreOnce sorted
  sorted_once = each_once (numbers_below (length (operations (runs_of t c)))) sorted (once-range 0 (length (operations (runs_of t c)))) all long

  sorted_below : (a : ℕ) → has_number sorted a ≡ true → a < length (operations (runs_of t c))
  sorted_below a there =
      let range = range-has 0 (length (operations (runs_of t c))) a
      (no_others (numbers_below (length (operations (runs_of t c)))) sorted (once-range 0 (length (operations (runs_of t c)))) all long a there) in
      omega (arith, range.1)

  harts_have : (a : ℕ) → a < length (accesses (runs_of t c)) → has_number (of_harts t c sorted) a ≡ true
  harts_have a low =
      let many = length_operations (runs_of t c) in
      in_filter (λ a. nat_lt a (length (accesses (runs_of t c)))) sorted a (is.all a (omega (arith, low, many)))
      (lt-ltb a (length (accesses (runs_of t c))) low)

  harts_long : length (of_harts t c sorted) ≡ length (accesses (runs_of t c))
  harts_long =
      as_long (of_harts t c sorted) (numbers_below (length (accesses (runs_of t c))))
      (once-filter (λ a. nat_lt a (length (accesses (runs_of t c)))) sorted sorted_once) (once-range 0 (length (accesses (runs_of t c))))
      (λ a there.
      let low = ltb-true a (length (accesses (runs_of t c))) (filter_has (λ a. nat_lt a (length (accesses (runs_of t c)))) sorted a there).1 in
      has-range 0 (length (accesses (runs_of t c))) a (omega arith) (omega (arith, low)))
      (λ a there.
      let range = range-has 0 (length (accesses (runs_of t c))) a there in
      harts_have a (omega (arith, range.1)))
      ∙ length-range_with_len 0 (length (accesses (runs_of t c)))

  once : lists_each_once (runs_of t c) (of_harts t c sorted) ≡ true
  once =
      and_from (length (of_harts t c sorted) == length (accesses (runs_of t c))) _
      (eq-eqb (length (of_harts t c sorted)) (length (accesses (runs_of t c))) harts_long)
      (all_from (has_number (of_harts t c sorted)) (numbers_below (length (accesses (runs_of t c))))
      (λ a there.
      let range = range-has 0 (length (accesses (runs_of t c))) a there in
      harts_have a (omega (arith, range.1))))

  respects : (a b : ℕ) → is_judged (runs_of t c) p c a b ≡ true → stands_before (gmo (runs_of t c) (of_harts t c sorted)) a b ≡ true
  respects a b edge =
      let x = runs_of t c in
      let before = is.respects a b edge in
      let second = edge_low t p c raw a b edge in
      elim (cases_lt a (length (accesses x))) [
        | inl first ↦ before-append_right (range_with_len (length (accesses x)) (length x.words)) (of_harts t c sorted) a b
            (λ there. let range = range-has (length (accesses x)) (length x.words) a there in omega (arith, range.0, first))
            (before_in_filter (λ n. nat_lt n (length (accesses x))) sorted a b before
            (lt-ltb a (length (accesses x)) first) (lt-ltb b (length (accesses x)) second))
        | inr past ↦ initial_first x (of_harts t c sorted) once a b past (sorted_below a (before-first sorted a b before)) second
      ]

  pub sorted_ordered : IsOrdered t p c (of_harts t c sorted)
  sorted_ordered = record { once = once; respects = respects }

-- the judged relation has an order or a round
pub ordered_or_round : (t : Test) (p : List Entry) (c : Candidate) → IsRaw t c
    → ((order : List ℕ) × IsOrdered t p c order) ⊎ ((ns : List ℕ) × IsRound (is_judged (runs_of t c) p c) ns × (length ns ≤ length (operations (runs_of t c))))
ordered_or_round t p c raw =
    let numbers = numbers_below (length (operations (runs_of t c))) in
    let many = length-range_with_len 0 (length (operations (runs_of t c))) in
    let within : (a : ℕ) → a < length (operations (runs_of t c)) → has_number numbers a ≡ true =
    λ a low. has-range 0 (length (operations (runs_of t c))) a (omega arith) (omega (arith, low)) in
    elim (sorts_or_round (is_judged (runs_of t c) p c) (length numbers) numbers (once-range 0 (length (operations (runs_of t c)))) (omega arith)) [
      | inr round ↦ inr (round.0, round.1, (let short = round.2 in omega (arith, short, many)))
      | inl sorts ↦ inl (
        of_harts t c sorts.0,
        sorted_ordered t p c raw sorts.0 (record {
          long = as_long sorts.0 numbers sorts.1.once (once-range 0 (length (operations (runs_of t c)))) sorts.1.none_else sorts.1.all ∙ many;
          all = λ a low. sorts.1.all a (within a low);
          respects = λ a b edge.
              let first = edge_from t p c raw a b edge in
              let second = edge_low t p c raw a b edge in
              let long = length_operations (runs_of t c) in
              sorts.1.forward a b (within a first) (within b (omega (arith, second, long))) edge;
        }),
      )
    ]
