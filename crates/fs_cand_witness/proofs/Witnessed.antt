-- What is read off an order of a showing candidate is a witness.
use Rattle.std.proofs.Common.{◌≡◌, ℕ, ◌+◌, ◌<◌, ◌≤◌, nat_lt, Bool, true, ◌&&◌, Option, Some, inl, inr, List, [], ◌∷◌, map, length, refl, sym, ◌∙◌, ap, subst, arith}
use Rattle.std.specs.List.{filter_map, list_all, list_any, range_with_len, slice_index_or}
use Rattle.std.proofs.lemmas.Bool.{and_parts, and_from, or_cases, or_left, or_right, lt-ltb}
use Rattle.std.proofs.lemmas.List.{get_or-map, length-map}
use Rattle.fs_kinds.specs.declared.placement.Entry.{Entry}
use Rattle.fs_kinds.specs.declared.slot.Slot.{Slot}
use Rattle.fs_kinds.specs.Kind.{Pair, ReadRead, ReadWrite, WriteRead, WriteWrite}
use Rattle.fs_kinds.specs.Placement.{slots_of}
use Rattle.fs_model.specs.declared.test.Test.{Test}
use Rattle.fs_model.specs.Test.{IsBounded}
use Rattle.fs_model.specs.Choices.{choices_of}
use Rattle.fs_model.specs.Numbers.{between, numbers_below, stands_before}
use Rattle.fs_model.specs.Operations.{PreExecution, accesses, operations, place, classes, po, trace_of, instr_at, steps_of}
use Rattle.fs_model.specs.Source.{gmo, source_in}
use Rattle.fs_model.specs.Fences.{fence_between, instr_orders, kind_orders, placed_before}
use Rattle.fs_model.specs.Preserved.{Rule4, rule}
use Rattle.fs_model.specs.Execution.{Execution, initial_words}
use Rattle.fs_model.specs.Allows.{Shows}
use Rattle.fs_model.specs.Witness.{IsOfWitness, name_of}
use Rattle.fs_model.proofs.ByRule.{any_there}
use Rattle.fs_model.proofs.ListedNumbers.{range-has}
use Rattle.fs_model.proofs.NumberOrders.{before-append_right, either_way, not_both}
use Rattle.fs_model.proofs.FilteredNumbers.{before_in_filter}
use Rattle.fs_model.proofs.OnceListed.{gmo_once}
use Rattle.fs_model.proofs.ProgramOrder.{po_apart, po_of_harts}
use Rattle.fs_model.proofs.Ranges.{each_two_below, po_in_range}
use Rattle.fs_cert_evidence.specs.Candidates.{IsShowing, runs_of}
use Rattle.fs_cert_evidence.specs.Judged.{is_judged}
use Rattle.fs_cert_evidence.specs.Widths.{Width, bears, single, width}
use Rattle.fs_cand.specs.declared.candidate.Candidate.{Candidate}
use Rattle.fs_cand.specs.Candidates.{candidate_of, IsMade}
use Rattle.fs_verdict_laws.specs.Decide.{IsOrdered, IsSorted, of_harts, ordered_by}
use Rattle.fs_verdict_laws.proofs.Forth.{executed}
use Rattle.fs_verdict_laws.proofs.Sorting.{sorted_ordered}
use Rattle.fs_cand_witness.specs.Fencing.{is_fenced, orders_at}
use Rattle.fs_cand_witness.proofs.Joined.{among, joined}
use Rattle.fs_cand_witness.specs.Edges.{has_edge}
use Rattle.fs_cand_witness.specs.Orders.{IsOrderBelow}
use Rattle.fs_cert_evidence.specs.Evidence.{Shown, pairs_at, widths_of, IsWitnessAt}
use Rattle.fs_cand_witness.specs.inner.Keeping.{width_in}
use Rattle.fs_cand_witness.specs.Naming.{name_at}
use Rattle.fs_cand_witness.specs.inner.Reading.{IsReadOff, chosen}
use Rattle.fs_cand_witness.proofs.Keeping.{all_from, implied, implies_from, kept_orders, orders_kept, same_truth}
use Rattle.fs_cand_witness.proofs.Read.{chosen_is, name_is, names_are}
use Rattle.fs_cand_witness.proofs.OneExecution.{one_execution}

-- ---- widths that are the same

same_pairs : (V W : Width) → ((slot : Slot) (pair : Pair) → V slot pair ≡ W slot pair) → (slot : Slot) → pairs_at V slot ≡ pairs_at W slot
same_pairs V W same slot = rw (same slot ReadRead, same slot ReadWrite, same slot WriteRead, same slot WriteWrite) refl

same_widths : (V W : Width) → ((slot : Slot) (pair : Pair) → V slot pair ≡ W slot pair) → (all : List Slot) → widths_of V all ≡ widths_of W all
same_widths V W same [] = refl
same_widths V W same (slot ∷ all) = rw (same_pairs V W same slot, same_widths V W same all) refl

same_names : {Y : Type 0} (f g : ℕ → Option Y) → ((a : ℕ) → f a ≡ g a) → (numbers : List ℕ) → filter_map f numbers ≡ filter_map g numbers
same_names f g same [] = refl
same_names f g same (a ∷ numbers) = rw (same a, same_names f g same numbers) refl

-- ---- an order of the operations of a showing candidate

module _ (t : Test) (p : List Entry) (candidate : Candidate) (rows wider numbers : List ℕ) (w : Shown)
    (bounded : IsBounded t) (made : IsMade (initial_words t) candidate) (few : length candidate.operations ≤ 64)
    (showing : IsShowing t (candidate_of candidate))
    (judged : (a b : ℕ) → has_edge rows a b ≡ is_judged (runs_of t (candidate_of candidate)) p (candidate_of candidate) a b)
    (kept : (a b : ℕ) → has_edge rows a b ≡ true → has_edge wider a b ≡ true)
    (is : IsOrderBelow (has_edge wider) (length candidate.operations) numbers)
    (read : IsReadOff (slots_of p) candidate numbers w) where
  abbrev c : Rattle.fs_cert_evidence.specs.Candidates.Candidate
  c = candidate_of candidate

  abbrev x : PreExecution
  x = runs_of t c

  abbrev order : List ℕ
  order = of_harts t c numbers

  abbrev e : Execution
  e = ordered_by c order

  many : length candidate.operations ≡ length (operations x)
  many = ap length made.operations

  sorted : IsSorted t p c numbers
  sorted = record {
    long = is.long ∙ many;
    all = λ a low. is.all a (omega (arith, low, many));
    respects = λ a b edge.
        let there = among t p c a b showing.raw edge in
        is.respects a b (omega (arith, there.0, many)) (omega (arith, there.1, many)) (kept a b (judged a b ∙ edge));
  }

  ordered : IsOrdered t p c order
  ordered = sorted_ordered t p c showing.raw numbers sorted

  -- it is one without fences too
  unfenced : IsOrdered t [] c order
  unfenced = record { once = ordered.once; respects = λ a b edge. ordered.respects a b (joined t p c a b ∙ or_left _ _ edge) }

  shows : Shows t p e
  shows = (executed t p c order showing ordered).shows

  bare : Shows t [] e
  bare = (executed t [] c order showing unfenced).shows

  -- ---- the choices and the names

  choices_at : (hart : ℕ) → hart < length t.codes → slice_index_or w.witness.choices hart [] ≡ choices_of (steps_of c.traces hart)
  choices_at hart low =
      ap (λ lists. slice_index_or lists hart []) read.choices
      ∙ get_or-map chosen c.traces hart [] [] (omega (arith, low, showing.raw.runs.harts))
      ∙ chosen_is (steps_of c.traces hart)

  names : map (name_of x) order ≡ map (λ name. Some name) w.witness.order
  names =
      names_are x numbers
      ∙ ap (map (λ name. Some name)) (sym (read.names ∙ same_names (name_at candidate) (name_of x) (λ a. name_is candidate (initial_words t) a made) numbers))

  of : IsOfWitness t w.witness e
  of = record {
    lists = ap length read.choices ∙ (length-map c.traces chosen ∙ showing.raw.runs.harts);
    harts = showing.raw.runs.harts;
    runs = λ hart low. (showing.raw.runs.runs hart low, choices_at hart low);
    order = names;
  }

  -- ---- the widths

  -- of two operations in program order the global memory order has that one first which the numbers have first
  there : (a b : ℕ) → po x a b ≡ true → stands_before numbers a b ≡ true → stands_before (gmo x order) a b ≡ true
  there a b before first =
      let low = po_of_harts x a b before in
      before-append_right (range_with_len (length (accesses x)) (length x.words)) order a b
      (λ has. let range = range-has (length (accesses x)) (length x.words) a has in omega (arith, range.0, low.0))
      (before_in_filter (λ n. nat_lt n (length (accesses x))) numbers a b first (lt-ltb a (length (accesses x)) low.0)
      (lt-ltb b (length (accesses x)) low.1))

  back : (a b : ℕ) → po x a b ≡ true → stands_before (gmo x order) a b ≡ true → stands_before numbers a b ≡ true
  back a b before first =
      let range = po_in_range x a b before in
      elim (either_way numbers a b (is.all a (omega (arith, range.0, many))) (is.all b (omega (arith, range.1, many)))
      (λ same. po_apart x a (subst (λ (z : ℕ). po x a z ≡ true) (sym same) before))) [
        | inl forth ↦ forth
        | inr turned ↦ absurd (not_both (gmo x order) a b (gmo_once x order ordered.once) first (after a b before turned))
      ]
    where
      after : (a b : ℕ) → po x a b ≡ true → stands_before numbers b a ≡ true → stands_before (gmo x order) b a ≡ true
      after a b before turned =
          let low = po_of_harts x a b before in
          before-append_right (range_with_len (length (accesses x)) (length x.words)) order b a
          (λ has. let range = range-has (length (accesses x)) (length x.words) b has in omega (arith, range.0, low.1))
          (before_in_filter (λ n. nat_lt n (length (accesses x))) numbers b a turned (lt-ltb b (length (accesses x)) low.1)
          (lt-ltb a (length (accesses x)) low.0))

  abbrev written : ℕ → ℕ → Bool
  written a b = list_any (λ k. instr_orders (classes x a) (classes x b) (instr_at (trace_of x a) k)) (between (place x a) (place x b))

  abbrev placed : List Entry → ℕ → ℕ → Bool
  placed q a b = list_any (λ k. kind_orders (classes x a) (classes x b) (placed_before x q a k)) (between (place x a) (place x b + 1))

  -- two operations that such a fence orders, and where
  fenced : (slot : Slot) (pair : Pair) (a b : ℕ) → list_any (orders_at (single slot pair) a b) read.sides ≡ is_fenced x (single slot pair) a b
  fenced slot pair a b = read.are_sides (initial_words t) made (single slot pair) a b

  width_kept : (slot : Slot) (pair : Pair) → width t e slot pair ≡ true → width_in read.order read.sides slot pair ≡ true
  width_kept slot pair wide = orders_kept read.order read.sides slot pair (λ a b some.
      let both = sym (fenced slot pair a b) ∙ some in
      let parts = and_parts (po x a b) (placed (single slot pair) a b) both in
      let range = po_in_range x a b parts.0 in
      read.is_order a b ∙ back a b parts.0
      (implied (po x a b && fence_between x (single slot pair) a b) (stands_before (gmo x order) a b)
      (each_two_below (bears x order slot pair) (length (operations x)) a b wide range.0 range.1)
      (and_from (po x a b) (fence_between x (single slot pair) a b) parts.0 (or_right (written a b) (placed (single slot pair) a b) parts.1))))

  kept_width : (slot : Slot) (pair : Pair) → width_in read.order read.sides slot pair ≡ true → width t e slot pair ≡ true
  kept_width slot pair all =
      all_from (λ a. list_all (bears x order slot pair a) (numbers_below (length (operations x)))) (λ a.
      all_from (bears x order slot pair a) (λ b.
      implies_from (po x a b && fence_between x (single slot pair) a b) (stands_before (gmo x order) a b) (borne a b))
      (numbers_below (length (operations x)))) (numbers_below (length (operations x)))
    where
      borne : (a b : ℕ) → (po x a b && fence_between x (single slot pair) a b) ≡ true → stands_before (gmo x order) a b ≡ true
      borne a b both =
          let parts = and_parts (po x a b) (fence_between x (single slot pair) a b) both in
          let range = po_in_range x a b parts.0 in
          elim (or_cases (written a b) (placed (single slot pair) a b) parts.1) [
            | inl w ↦ bare.execution.axioms.preserved a b
                (any_there (rule x [] (source_in x order) a b) Rule4
                (and_from (po x a b) (fence_between x [] a b) parts.0 (or_left (written a b) (placed [] a b) w)))
            | inr q ↦ there a b parts.0 (sym (read.is_order a b)
                ∙ kept_orders read.order read.sides slot pair all a b (omega (arith, range.0, many, few)) (omega (arith, range.1, many, few))
                (fenced slot pair a b ∙ and_from (po x a b) (placed (single slot pair) a b) parts.0 q))
          ]

  widths : w.widths ≡ widths_of (width t e) (slots_of p)
  widths = read.widths ∙ same_widths (width_in read.order read.sides) (width t e)
      (λ slot pair. same_truth _ _ (kept_width slot pair) (width_kept slot pair)) (slots_of p)

  is_witness : IsWitnessAt t (slots_of p) w e
  is_witness = record {
    shows = (of, bare);
    only = λ other shown. one_execution t w.witness other e bounded shown.0 of;
    widths = widths;
  }

  pub witnessed : (e : Execution) × IsWitnessAt t (slots_of p) w e × Shows t p e
  witnessed = (e, is_witness, shows)
