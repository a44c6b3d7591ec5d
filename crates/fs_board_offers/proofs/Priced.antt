-- The offers that prices make say of placements what the prices say.
use Rattle.std.proofs.Common.{◌≡◌, ◌↔◌, ℕ, zero, suc, ◌+◌, ◌*◌, Bool, true, false, ◌&&◌, Option, None, Some, unwrap_or, List, [], ◌∷◌, map, length, refl, sym, ap, ap₂, ◌∙◌, arith}
use Rattle.std.specs.Prelude.{find, filter, max, slice_get, slice_index_or, drop, if◌then◌else◌}
use Rattle.std.proofs.lemmas.Bool.{and_from, false≢true}
use Rattle.std.proofs.lemmas.Bool.Decides.{nat_tests}
use Rattle.std.proofs.lemmas.List.Sums.{sum_by-cons}
use Rattle.fs_kinds.specs.declared.kind.Kind.{Kind}
use Rattle.fs_kinds.specs.declared.kind.Kind.TheVariants.{RwRw}
use Rattle.fs_kinds.specs.declared.placement.Entry.{Entry}
use Rattle.fs_kinds.specs.declared.slot.Slot.{Slot}
use Rattle.fs_kinds.specs.Kind.{all_kinds, table_index}
use Rattle.fs_kinds.specs.Placement.{slots_of, all_with, rank}
use Rattle.fs_kinds.specs.Placement as priced_order
use Rattle.fs_kinds.specs.PriceTable.{PriceTable, IsPriceTable, weight_of}
use Rattle.fs_kinds.specs.PriceTable as priced
use Rattle.fs_kinds.specs.Slot.{is_same_slot}
use Rattle.fs_kinds.proofs.Entries.{slots_of-all_with}
use Rattle.fs_model.specs.declared.test.Test.{Test}
use Rattle.fs_model.specs.Slots as test
use Rattle.fs_model.specs.Allows as priced_placements
use Rattle.fs_cert_evidence.specs.Parts as priced_parts
use Rattle.fs_cert_evidence.specs.Sizes as priced_sizes
use Rattle.fs_model_laws.proofs.PlacedPairs.{same_slot, itself}
use Rattle.fs_model_laws.proofs.Ranked.{nil≢cons, by_first}
use Rattle.fs_board_offers.specs.Offers.{Offers, is_offered, kind_cost, rank_in, options, slots, nothing, offer_at, is_offered_at, are_offered, entry_cost, cost, rank_at, precedes, is_better, IsPlacement, IsCheapest, offer_of, offers_for, offers_of}
use Rattle.fs_board_offers.proofs.PricedOffers.{offered-there, cost-there, slots-for}
use Rattle.fs_board_offers.specs.Questions.{HasTop}
use Rattle.fs_board_offers.specs.Sizes.{most_options, tree_size, whole_tree}

-- ---- one slot

module _ (prices : PriceTable) (s : Slot) where
  rank-there : (kind : Option Kind) → rank_in (offer_of prices s) kind ≡ suc (rank kind)
  rank-there None = refl
  rank-there (Some kind) = let n = table_index kind in omega arith

-- ---- all slots

module _ (prices : PriceTable) where
  -- a slot in the list has its offer
  offer-there : (ss : List Slot) (j : ℕ) (s : Slot) → slice_get ss j ≡ Some s → offer_at (offers_for prices ss) s ≡ offer_of prices s
  offer-there [] j s at = absurd (cc)
  offer-there (u ∷ ss) j s at = by_test (is_same_slot u s) refl (λ i there. offer-there ss i s there) j at
    where
      by_test : (b : Bool) → is_same_slot u s ≡ b
          → ((i : ℕ) → slice_get ss i ≡ Some s → offer_at (offers_for prices ss) s ≡ offer_of prices s)
          → (j : ℕ) → slice_get (u ∷ ss) j ≡ Some s
          → unwrap_or (if b then Some (offer_of prices u) else find (λ o. is_same_slot o.slot s) (offers_for prices ss)) (nothing s) ≡ offer_of prices s
      by_test true same others j at = ap (offer_of prices) (same_slot u s same)
      by_test false other others zero at =
          let one : u ≡ s = cc in
          absurd (false≢true (sym other ∙ (ap (λ x. is_same_slot u x) (sym one) ∙ itself u)))
      by_test false other others (suc j) at = others j at

  -- the offers have what the prices make at these slots
  abbrev HaveTheirs : Offers → List Slot → Type 0
  HaveTheirs offers ss = (j : ℕ) (s : Slot) → slice_get ss j ≡ Some s → offer_at offers s ≡ offer_of prices s

  later : (offers : Offers) (s : Slot) (ss : List Slot) → HaveTheirs offers (s ∷ ss) → HaveTheirs offers ss
  later offers s ss have = λ j u at. have (suc j) u at

  -- the first slot of a placement, and the others
  first-slot : (e : Entry) (p : List Entry) (s : Slot) (ss : List Slot) → slots_of (e ∷ p) ≡ s ∷ ss → s ≡ e.slot
  first-slot e p s ss same = sym (ap (λ us. slice_index_or us 0 e.slot) same)

  its-offer : (offers : Offers) (e : Entry) (p : List Entry) (s : Slot) (ss : List Slot) → HaveTheirs offers (s ∷ ss)
      → slots_of (e ∷ p) ≡ s ∷ ss → offer_at offers e.slot ≡ offer_of prices e.slot
  its-offer offers e p s ss have same = have 0 e.slot (ap (λ u. Some u) (first-slot e p s ss same))

  cost-for : (offers : Offers) (ss : List Slot) (p : List Entry) → HaveTheirs offers ss → slots_of p ≡ ss
      → cost offers p ≡ priced.cost prices p
  cost-for offers ss [] have same = refl
  cost-for offers [] (e ∷ p) have same = absurd (nil≢cons e.slot (slots_of p) (sym same))
  cost-for offers (s ∷ ss) (e ∷ p) have same =
      let mine = sum_by-cons (entry_cost offers) e p in
      let theirs = sum_by-cons (priced.entry_cost prices) e p in
      let here : entry_cost offers e ≡ priced.entry_cost prices e =
      ap (λ o. kind_cost o e.kind) (its-offer offers e p s ss have same) ∙ cost-there prices e.slot e.kind in
      let rest = cost-for offers ss p (later offers s ss have) (ap (drop 1) same) in
      omega (arith, mine, theirs, here, rest)

  offered-for : (offers : Offers) (ss : List Slot) (p : List Entry) → HaveTheirs offers ss → slots_of p ≡ ss
      → are_offered offers p ≡ priced.are_offered prices p
  offered-for offers ss [] have same = refl
  offered-for offers [] (e ∷ p) have same = absurd (nil≢cons e.slot (slots_of p) (sym same))
  offered-for offers (s ∷ ss) (e ∷ p) have same =
      let here : is_offered_at offers e ≡ priced.is_offered prices e.kind =
      ap (λ o. is_offered o e.kind) (its-offer offers e p s ss have same) ∙ offered-there prices e.slot e.kind in
      ap₂ (λ a b. a && b) here (offered-for offers ss p (later offers s ss have) (ap (drop 1) same))

  rank-for : (offers : Offers) (e : Entry) (p : List Entry) (s : Slot) (ss : List Slot) → HaveTheirs offers (s ∷ ss)
      → slots_of (e ∷ p) ≡ s ∷ ss → rank_at offers e ≡ suc (rank e.kind)
  rank-for offers e p s ss have same =
      ap (λ o. rank_in o e.kind) (its-offer offers e p s ss have same) ∙ rank-there prices e.slot e.kind

  one-more : (m n : ℕ) (b : Bool) → by_first (suc m) (suc n) b ≡ by_first m n b
  one-more m n true = grind (arith, nat_tests)
  one-more m n false = grind (arith, nat_tests)

  order-for : (offers : Offers) (ss : List Slot) (p q : List Entry) → HaveTheirs offers ss → slots_of p ≡ ss → slots_of q ≡ ss
      → precedes offers p q ≡ priced_order.precedes p q
  order-for offers ss [] q have same other = refl
  order-for offers [] (e ∷ p) q have same other = absurd (nil≢cons e.slot (slots_of p) (sym same))
  order-for offers (s ∷ ss) (e ∷ p) [] have same other = refl
  order-for offers (s ∷ ss) (e ∷ p) (f ∷ q) have same other =
      ap₂ (λ m n. by_first m n (precedes offers p q)) (rank-for offers e p s ss have same) (rank-for offers f q s ss have other)
      ∙ (one-more (rank e.kind) (rank f.kind) (precedes offers p q)
      ∙ ap (by_first (rank e.kind) (rank f.kind))
      (order-for offers ss p q (later offers s ss have) (ap (drop 1) same) (ap (drop 1) other)))

  -- ---- sizes

  filter-same : (f g : Option Kind → Bool) → ((kind : Option Kind) → f kind ≡ g kind) → (ks : List (Option Kind)) → filter f ks ≡ filter g ks
  filter-same f g same [] = refl
  filter-same f g same (k ∷ ks) = ap₂ (λ b rest. if b then k ∷ rest else rest) (same k) (filter-same f g same ks)

  options-there : (s : Slot) → options (offer_of prices s) ≡ priced_parts.options prices
  options-there s =
      ap (λ ks. None ∷ ks)
      (filter-same (is_offered (offer_of prices s)) (priced.is_offered prices) (offered-there prices s) (map (λ kind. Some kind) all_kinds))

  twice : (n : ℕ) → max n n ≡ n
  twice n = omega arith

  once : (n : ℕ) → max n 0 ≡ n
  once n = omega arith

  most-for : (s : Slot) (ss : List Slot) → most_options (offers_for prices (s ∷ ss)) ≡ length (priced_parts.options prices)
  most-for s [] =
      let many = ap length (options-there s) in
      ap (λ n. max n 0) many ∙ once (length (priced_parts.options prices))
  most-for s (u ∷ ss) =
      ap₂ max (ap length (options-there s)) (most-for u ss) ∙ twice (length (priced_parts.options prices))

  sizes-by : (offers : Offers) → most_options offers ≡ length (priced_parts.options prices) → (n : ℕ)
      → tree_size offers n ≡ priced_sizes.tree_size prices n
  sizes-by offers most zero = refl
  sizes-by offers most (suc n) = ap₂ (λ m k. m * (1 + k)) most (sizes-by offers most n)

  size-for : (ss : List Slot) → tree_size (offers_for prices ss) (length ss) ≡ priced_sizes.tree_size prices (length ss)
  size-for [] = refl
  size-for (s ∷ ss) = sizes-by (offers_for prices (s ∷ ss)) (most-for s ss) (length (s ∷ ss))

-- ---- of a test

module _ (t : Test) (prices : PriceTable) where
  theirs : HaveTheirs prices (offers_of t prices) (test.slots t)
  theirs = offer-there prices (test.slots t)

  pub same-slots : slots (offers_of t prices) ≡ test.slots t
  same-slots = slots-for prices (test.slots t)

  pub same-cost : (p : List Entry) → slots_of p ≡ test.slots t → cost (offers_of t prices) p ≡ priced.cost prices p
  same-cost p over = cost-for prices (offers_of t prices) (test.slots t) p theirs over

  pub same-better : (p q : List Entry) → slots_of p ≡ test.slots t → slots_of q ≡ test.slots t
      → is_better (offers_of t prices) p q ≡ priced_placements.is_better prices p q
  same-better p q first second =
      ap₂ (λ m n. by_first m n (precedes (offers_of t prices) p q)) (same-cost p first) (same-cost q second)
      ∙ ap (by_first (priced.cost prices p) (priced.cost prices q))
      (order-for prices (offers_of t prices) (test.slots t) p q theirs first second)

  same-offered : (p : List Entry) → slots_of p ≡ test.slots t → are_offered (offers_of t prices) p ≡ priced.are_offered prices p
  same-offered p over = offered-for prices (offers_of t prices) (test.slots t) p theirs over

  pub to-prices : (p : List Entry) → IsPlacement (offers_of t prices) p → priced_placements.IsPlacement t prices p
  to-prices p is =
      let over = is.slots ∙ same-slots in
      record { slots = over; offered = sym (same-offered p over) ∙ is.offered }

  pub from-prices : (p : List Entry) → priced_placements.IsPlacement t prices p → IsPlacement (offers_of t prices) p
  from-prices p is = record { slots = is.slots ∙ sym same-slots; offered = same-offered p is.slots ∙ is.offered }

  pub same-placements : (p : List Entry) → IsPlacement (offers_of t prices) p ↔ priced_placements.IsPlacement t prices p
  same-placements p = (to-prices p, from-prices p)

  pub same-cheapest : (p : List Entry) → IsCheapest t (offers_of t prices) p ↔ priced_placements.IsCheapest t prices p
  same-cheapest p = (there, back)
    where
      there : IsCheapest t (offers_of t prices) p → priced_placements.IsCheapest t prices p
      there is = record {
        placement = to-prices p is.placement;
        forbids = is.forbids;
        better = λ q placement better.
            is.better q (from-prices q placement)
            (same-better q p placement.slots (is.placement.slots ∙ same-slots) ∙ better);
      }

      back : priced_placements.IsCheapest t prices p → IsCheapest t (offers_of t prices) p
      back is = record {
        placement = from-prices p is.placement;
        forbids = is.forbids;
        better = λ q placement better.
            is.better q (to-prices q placement)
            (sym (same-better q p (placement.slots ∙ same-slots) is.placement.slots) ∙ better);
      }

  pub same-size : whole_tree (offers_of t prices) ≡ priced_sizes.tree_size prices (length (test.slots t))
  same-size =
      ap (λ ss. tree_size (offers_of t prices) (length ss)) same-slots ∙ size-for prices (test.slots t)

  top-there : (ss : List Slot) → priced.is_offered prices (Some RwRw) ≡ true → priced.are_offered prices (all_with (Some RwRw) ss) ≡ true
  top-there [] top = refl
  top-there (s ∷ ss) top = and_from _ _ top (top-there ss top)

  pub has-top : IsPriceTable prices → HasTop (offers_of t prices)
  has-top table =
      ap (λ ss. are_offered (offers_of t prices) (all_with (Some RwRw) ss)) same-slots
      ∙ (same-offered (all_with (Some RwRw) (test.slots t)) (slots_of-all_with (Some RwRw) (test.slots t))
      ∙ top-there (test.slots t) table.top)
