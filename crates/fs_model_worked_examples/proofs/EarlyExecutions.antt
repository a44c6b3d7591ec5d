-- The two executions of store buffering in which one hart reads early.
use Rattle.std.proofs.Common.{◌≡◌, ℕ, zero, suc, ◌<◌, Bool, true, ◌&&◌, ◌||◌, not, None, Some, List, [], ◌∷◌, ◌++◌, map, inl, inr, refl, sym, ap, ◌∙◌, arith, Box}
use Rattle.std.specs.Prelude.{drop, slice_index_or}
use Rattle.std.specs.List.{All}
use Rattle.std.specs.declared.alloc.Global.{Global}
use Rattle.std.proofs.lemmas.Bool.{and_from, not-true, false≢true, true≢false, both_ways}
use Rattle.std.proofs.lemmas.List.Elements.{All-from_recursion}
use Rattle.fs_kinds.specs.declared.kind.Kind.TheVariants.{WR}
use Rattle.fs_kinds.specs.declared.placement.Entry.{Entry}
use Rattle.fs_kinds.specs.Kind.{Pair, ReadRead, ReadWrite, WriteRead, WriteWrite}
use Rattle.fs_kinds.specs.Placement.{slots_of}
use Rattle.fs_kinds.specs.PriceTable as priced
use Rattle.fs_model.specs.Numbers.{stands_before}
use Rattle.fs_model.specs.Operations.{steps_of, po, paired}
use Rattle.fs_model.specs.Source.{gmo, source_in}
use Rattle.fs_model.specs.Preserved.{ppo}
use Rattle.fs_model.specs.Execution.{Execution, IsTrace, IsAtomic, ReturnsSources, Respects}
use Rattle.fs_model.specs.Allows.{Shows, Allows, IsPlacement}
use Rattle.fs_model.proofs.Ranges.{each_two_below, implies_at, po_in_range}
use Rattle.fs_model.proofs.Preserved.{ppo_in_po}
use Rattle.fs_cert_evidence.specs.Widths.{width}
use Rattle.fs_board_offers.specs.Offers.{cost, precedes}
use Rattle.fs_board_offers.specs.Parts.{floor, is_under}
use Rattle.fs_board_offers.specs.Pruning.{are_apart, lower_bound, is_pruned}
use Rattle.fs_board_offers.proofs.Bounded.{bounded}
use Rattle.fs_board_offers.proofs.Priced.{from-prices, same-cost}
use Rattle.fs_model_worked_examples.specs.StoreBuffering.{sb, buffered, fences}
use Rattle.fs_model_worked_examples.specs.Rows.{prices, offers}
use Rattle.fs_model_worked_examples.proofs.StoreBuffering.{x, first, second}
use Rattle.fs_model_worked_examples.specs.EarlyReads.{root, reads_early, first_slot, second_slot, first_early, second_early, KeepsAt}
use Rattle.fs_model_laws.proofs.Ranked.{first-less, nil≢cons}

abbrev no_pair : ℕ → ℕ → Bool
no_pair a b = not (po x a b && paired x a b)

abbrev first_order : List ℕ
first_order = 1 ∷ 2 ∷ 3 ∷ 0 ∷ []

abbrev second_order : List ℕ
second_order = 3 ∷ 0 ∷ 1 ∷ 2 ∷ []

abbrev keeps : List ℕ → ℕ → ℕ → Bool
keeps order a b = not (ppo x (fences None None) (source_in x order) a b) || stands_before (gmo x order) a b

first_preserved : Respects (gmo x first_order) (λ a b. ppo x (fences None None) (source_in x first_order) a b ≡ true)
first_preserved a b h =
    let there = po_in_range x a b (ppo_in_po x (fences None None) (source_in x first_order) a b h) in
    implies_at _ _ (each_two_below (keeps first_order) 6 a b refl there.0 there.1) h

second_preserved : Respects (gmo x second_order) (λ a b. ppo x (fences None None) (source_in x second_order) a b ≡ true)
second_preserved a b h =
    let there = po_in_range x a b (ppo_in_po x (fences None None) (source_in x second_order) a b h) in
    implies_at _ _ (each_two_below (keeps second_order) 6 a b refl there.0 there.1) h

-- there are no pairs of lr.w and sc.w
atomic : (order : List ℕ) → IsAtomic x (source_in x order) (gmo x order)
atomic order r w s before pair returned =
    let there = po_in_range x r w before in
    absurd (both_ways _ (not-true _ (each_two_below no_pair 6 r w refl there.0 there.1)) (and_from _ _ before pair))

first_values : ReturnsSources x (source_in x first_order)
first_values zero h = absurd (false≢true h)
first_values (suc zero) h = refl
first_values (suc (suc zero)) h = absurd (false≢true h)
first_values (suc (suc (suc zero))) h = refl
first_values (suc (suc (suc (suc zero)))) h = absurd (false≢true h)
first_values (suc (suc (suc (suc (suc zero))))) h = absurd (false≢true h)
first_values (suc (suc (suc (suc (suc (suc k)))))) h = absurd (false≢true h)

second_values : ReturnsSources x (source_in x second_order)
second_values zero h = absurd (false≢true h)
second_values (suc zero) h = refl
second_values (suc (suc zero)) h = absurd (false≢true h)
second_values (suc (suc (suc zero))) h = refl
second_values (suc (suc (suc (suc zero)))) h = absurd (false≢true h)
second_values (suc (suc (suc (suc (suc zero))))) h = absurd (false≢true h)
second_values (suc (suc (suc (suc (suc (suc k)))))) h = absurd (false≢true h)

module _ (p q : Box (Unit {0}) Global) where
  runs : (hart : ℕ) → hart < 2 → IsTrace (sb p q) hart (steps_of buffered.traces hart)
  runs zero h = first p q
  runs (suc zero) h = second p q
  runs (suc (suc hart)) h = absurd (omega arith)

  pub first_shows : Shows (sb p q) (floor root) first_early
  first_shows = record {
    execution = record {
      harts = refl;
      runs = runs;
      axioms = record { once = refl; preserved = first_preserved; values = first_values; atomic = atomic first_order };
    };
    outcome = refl;
  }

  pub second_shows : Shows (sb p q) (floor root) second_early
  second_shows = record {
    execution = record {
      harts = refl;
      runs = runs;
      axioms = record { once = refl; preserved = second_preserved; values = second_values; atomic = atomic second_order };
    };
    outcome = refl;
  }

  -- ---- widths

  first-at-first : (pair : Pair) → width (sb p q) first_early first_slot pair ≡ reads_early first_slot first_slot pair
  first-at-first ReadRead = refl
  first-at-first ReadWrite = refl
  first-at-first WriteRead = refl
  first-at-first WriteWrite = refl

  first-at-second : (pair : Pair) → width (sb p q) first_early second_slot pair ≡ reads_early first_slot second_slot pair
  first-at-second ReadRead = refl
  first-at-second ReadWrite = refl
  first-at-second WriteRead = refl
  first-at-second WriteWrite = refl

  second-at-first : (pair : Pair) → width (sb p q) second_early first_slot pair ≡ reads_early second_slot first_slot pair
  second-at-first ReadRead = refl
  second-at-first ReadWrite = refl
  second-at-first WriteRead = refl
  second-at-first WriteWrite = refl

  second-at-second : (pair : Pair) → width (sb p q) second_early second_slot pair ≡ reads_early second_slot second_slot pair
  second-at-second ReadRead = refl
  second-at-second ReadWrite = refl
  second-at-second WriteRead = refl
  second-at-second WriteWrite = refl

  pub first_keeps : KeepsAt (sb p q) first_early (reads_early first_slot)
  first_keeps = record { first = first-at-first; second = first-at-second }

  pub second_keeps : KeepsAt (sb p q) second_early (reads_early second_slot)
  second_keeps = record { first = second-at-first; second = second-at-second }

  -- ---- what costs less than 18

  abbrev both : List Execution
  both = first_early ∷ second_early ∷ []

  both_show : All (Shows (sb p q) (floor root)) both
  both_show = All-from_recursion (Shows (sb p q) (floor root)) both (first_shows, (second_shows, tt))

  pub both_bound : lower_bound offers root (map (width (sb p q)) both) ≡ Some 18
  both_bound = refl

  pub both_apart : are_apart offers root (map (width (sb p q)) both) ≡ true
  both_apart = refl

  -- The law of bounded parts takes any list of entries for the bound. This one costs 18, and the floor isn't before it:
  -- so the root is pruned against it, and whatever costs less than 18 is better.
  abbrev longer : List Entry
  longer = floor root ++ fences (Some WR) (Some WR)

  prunes : is_pruned offers (Some longer) root (map (width (sb p q)) both) ≡ true
  prunes = refl

  under-root : (r : List Entry) → slots_of r ≡ first_slot ∷ second_slot ∷ [] → is_under root r ≡ true
  under-root [] same = absurd (nil≢cons _ _ same)
  under-root (e ∷ []) same = absurd (nil≢cons _ _ (ap (drop 1) same))
  under-root (e ∷ f ∷ []) same =
      let one : e.slot ≡ first_slot = ap (λ ss. slice_index_or ss 0 e.slot) same in
      let two : f.slot ≡ second_slot = ap (λ ss. slice_index_or ss 1 f.slot) same in
      rw (one, two) refl
  under-root (e ∷ f ∷ g ∷ r) same = absurd (nil≢cons _ _ (sym (ap (drop 2) same)))

  dear : cost offers longer ≡ 18
  dear = refl

  pub cheap_allows : (r : List Entry) → IsPlacement (sb p q) prices r → priced.cost prices r < 18 → Allows (sb p q) r
  cheap_allows r placement cheap =
      let there = from-prices (sb p q) prices r placement in
      let costs : cost offers r ≡ priced.cost prices r = same-cost (sb p q) prices r placement.slots in
      let less : cost offers r < cost offers longer = omega (arith, costs, cheap, dear) in
      elim (bounded (sb p q) offers (Some longer) root both r refl both_show prunes there.offered (under-root r placement.slots)) [
        | inl allowed ↦ allowed
        | inr no_better ↦ absurd (true≢false (sym (first-less (cost offers r) (cost offers longer) (precedes offers r longer) less) ∙ no_better))
      ]
