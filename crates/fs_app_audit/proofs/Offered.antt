-- What may stand in the places of FENCEs: none costs too much, and the FENCEs as they are written are offered.
use Rattle.std.proofs.Common.{◌≡◌, ◌*◌, ◌≤◌, ◌||◌, ◌&&◌, ℕ, zero, suc, min, Bool, true, false, not, cond, Option, None, Some, is_some, unwrap_or, List, [], ◌∷◌, map, refl, ap, sym, subst, ◌∙◌, arith, if◌then◌else◌}
use Rattle.std.specs.Prelude.{slice_get, IfSome, IsSome}
use Rattle.std.specs.List.{list_all, list_any, find}
use Rattle.std.specs.Option.{option_or}
use Rattle.std.proofs.lemmas.Bool.{or_left, or_right, false≢true}
use Rattle.std.proofs.lemmas.Nat.{mul-le}
use Rattle.fs_instr.specs.declared.instr.Instr.{Instr}
use Rattle.fs_kinds.specs.declared.kind.Kind.{Kind}
use Rattle.fs_kinds.specs.declared.kind.Kind.TheVariants.{RR, RW, RRw, WR, WW, WRw, RwR, RwW, RwRw, Tso}
use Rattle.fs_kinds.specs.declared.placement.Entry.{Entry}
use Rattle.fs_kinds.specs.declared.slot.Slot.{Slot}
use Rattle.fs_kinds.specs.Kind.{all_kinds, no_stronger}
use Rattle.fs_kinds.specs.PriceTable.{PriceTable, IsPriceTable, most_price}
use Rattle.fs_kinds.specs.PriceTable as priced
use Rattle.fs_kinds.specs.Slot.{is_rising, is_same_slot}
use Rattle.fs_model.specs.declared.test.Test.{Test}
use Rattle.fs_model_laws.specs.InPlace.{as_written, places, written_at}
use Rattle.fs_model_laws.proofs.WrittenPlaces.{with_each, slots_of_each, rising-places}
use Rattle.fs_model_laws.proofs.PlacedPairs.{same_slot, itself}
use Rattle.fs_board_offers.specs.Breaks.{least_of, lesser_of}
use Rattle.fs_board_offers.specs.Offers.{Offer, AreOffers, IsPlacement, price_of, is_offered, kind_cost, slots, offer_at, nothing, are_offered}
use Rattle.fs_app_audit.specs.InPlace.{price_above, written_price, price_below, price_in_place, weighed, weight_in_place, offer_in_place, offers_in_place}

-- ---- costs

pub some_weighed : (w : ℕ) (price : Option ℕ) → is_some (weighed w price) ≡ is_some price
some_weighed w None = refl
some_weighed w (Some n) = refl

-- what may stand in a place that weighs this, of a FENCE of this kind
abbrev offer_with : PriceTable → Slot → (weight : ℕ) → (own : Option Kind) → Offer
offer_with prices s weight own = record {
  slot = s;
  costs = map (λ kind. weighed weight (price_in_place prices own kind)) all_kinds;
  written = own;
}

pub offer_same : (prices : PriceTable) (codes : List (List Instr)) (s : Slot) (weight : ℕ) (own : Option Kind)
    → weight ≡ weight_in_place prices codes s → own ≡ written_at codes s → offer_with prices s weight own ≡ offer_in_place prices codes s
offer_same prices codes s weight own weighs is =
    ap (λ n. offer_with prices s n own) weighs ∙ ap (offer_with prices s (weight_in_place prices codes s)) is

module _ (prices : PriceTable) (codes : List (List Instr)) where
  pub price_there : (s : Slot) (kind : Kind) → price_of (offer_in_place prices codes s) kind
      ≡ weighed (weight_in_place prices codes s) (price_in_place prices (written_at codes s) kind)
  price_there s RR = refl
  price_there s RW = refl
  price_there s RRw = refl
  price_there s WR = refl
  price_there s WW = refl
  price_there s WRw = refl
  price_there s RwR = refl
  price_there s RwW = refl
  price_there s RwRw = refl
  price_there s Tso = refl

-- ---- prices

-- at most the greatest price, if it is one
abbrev IsLow : Option ℕ → Type 0
IsLow price = unwrap_or price 0 ≤ 1000000

none_low : IsLow None
none_low = omega arith

choice_low : (c : Bool) (a b : Option ℕ) → IsLow a → IsLow b → IsLow (if c then a else b)
choice_low true a b first second = first
choice_low false a b first second = second

given_low : (price : Option ℕ) → IfSome price (λ n. (1 ≤ n) × (n ≤ most_price)) → IsLow price
given_low None low = omega arith
given_low (Some n) low = let most = low.1 in omega (arith, most)

min_low : (m n : ℕ) → m ≤ 1000000 → min m n ≤ 1000000
min_low m n low = omega (arith, low)

lesser_low : (a b : Option ℕ) → IsLow a → IsLow b → IsLow (lesser_of a b)
lesser_low None b first second = second
lesser_low (Some m) None first second = first
lesser_low (Some m) (Some n) first second = min_low m n first

or_low : (a b : Option ℕ) → IsLow a → IsLow b → IsLow (option_or a b)
or_low None b first second = second
or_low (Some m) b first second = first

module _ (prices : PriceTable) (table : IsPriceTable prices) where
  price_low : (kind : Kind) → IsLow (priced.price_of prices kind)
  price_low kind = given_low (priced.price_of prices kind) (table.price kind)

  above_low : (own above : Kind) → IsLow (price_above prices own above)
  above_low own above = choice_low (no_stronger own above) (priced.price_of prices above) None (price_low above) none_low

  least_low : (own : Kind) (kinds : List Kind) → IsLow (least_of (price_above prices own) kinds)
  least_low own [] = none_low
  least_low own (kind ∷ kinds) =
      lesser_low (price_above prices own kind) (least_of (price_above prices own) kinds) (above_low own kind) (least_low own kinds)

  written_low : (own : Kind) → IsLow (written_price prices own)
  written_low own =
      or_low (priced.price_of prices own) (least_of (price_above prices own) all_kinds) (price_low own) (least_low own all_kinds)

  below_low : (own kind : Kind) → IsLow (price_below prices own kind)
  below_low own kind =
      choice_low (not (no_stronger kind own)) None _ none_low
      (choice_low (no_stronger own kind) (written_price prices own) (priced.price_of prices kind) (written_low own) (price_low kind))

  in_place_low : (own : Option Kind) (kind : Kind) → IsLow (price_in_place prices own kind)
  in_place_low None kind = none_low
  in_place_low (Some own) kind = below_low own kind

  -- ---- a written kind has a cost

  some_here : (a b : Option ℕ) → is_some a ≡ true → is_some (lesser_of a b) ≡ true
  some_here None b h = absurd (false≢true h)
  some_here (Some m) b h = refl

  some_later : (a b : Option ℕ) → is_some b ≡ true → is_some (lesser_of a b) ≡ true
  some_later None b h = h
  some_later (Some m) b h = refl

  some_or : (a b : Option ℕ) → is_some b ≡ true → is_some (option_or a b) ≡ true
  some_or None b h = h
  some_or (Some m) b h = refl

  some_least : (f : Kind → Option ℕ) → is_some (f RwRw) ≡ true → is_some (least_of f all_kinds) ≡ true
  some_least f h =
      some_later (f RR) _ (some_later (f RW) _ (some_later (f RRw) _ (some_later (f WR) _ (some_later (f WW) _ (some_later (f WRw) _
      (some_later (f RwR) _ (some_later (f RwW) _ (some_here (f RwRw) _ h))))))))

  above_top : (own : Kind) → price_above prices own RwRw ≡ priced.price_of prices RwRw
  above_top RR = refl
  above_top RW = refl
  above_top RRw = refl
  above_top WR = refl
  above_top WW = refl
  above_top WRw = refl
  above_top RwR = refl
  above_top RwW = refl
  above_top RwRw = refl
  above_top Tso = refl

  is_there : (o : Option ℕ) → IsSome o → is_some o ≡ true
  is_there None h = absurd (false≢true h)
  is_there (Some n) h = refl

  some_written : (own : Kind) → is_some (written_price prices own) ≡ true
  some_written own =
      some_or (priced.price_of prices own) (least_of (price_above prices own) all_kinds)
      (some_least (price_above prices own) (ap is_some (above_top own) ∙ is_there (priced.price_of prices RwRw) table.top))

  own_price : (own : Kind) → price_below prices own own ≡ written_price prices own
  own_price RR = refl
  own_price RW = refl
  own_price RRw = refl
  own_price WR = refl
  own_price WW = refl
  own_price WRw = refl
  own_price RwR = refl
  own_price RwW = refl
  own_price RwRw = refl
  own_price Tso = refl

  -- ---- offers

  none_times : (n : ℕ) → 0 ≡ 0 * n
  none_times n = omega arith

  weighed_is : (w : ℕ) (price : Option ℕ) → unwrap_or (weighed w price) 0 ≡ unwrap_or price 0 * w
  weighed_is w None = none_times w
  weighed_is w (Some n) = refl

  product : (m n : ℕ) → m ≤ 1000000 → n ≤ 1000 → m * n ≤ 1000000000
  product m n first second = mul-le m n 1000000 1000 first second

  weighed_low : (w : ℕ) (price : Option ℕ) → w ≤ 1000 → IsLow price → unwrap_or (weighed w price) 0 ≤ 1000000000
  weighed_low w price low is =
      let same = weighed_is w price in
      let most = product (unwrap_or price 0) w is low in
      omega (arith, same, most)

  module _ (codes : List (List Instr)) where
    weight_low : (s : Slot) → weight_in_place prices codes s ≤ 1000
    weight_low s = table.weight _

    cost_most : (s : Slot) (kind : Option Kind) → kind_cost (offer_in_place prices codes s) kind ≤ 1000000000
    cost_most s None = omega arith
    cost_most s (Some kind) =
        let same = ap (λ o. unwrap_or o 0) (price_there prices codes s kind) in
        let most = weighed_low (weight_in_place prices codes s) (price_in_place prices (written_at codes s) kind) (weight_low s)
        (in_place_low (written_at codes s) kind) in
        omega (arith, same, most)

    each_most : (ss : List Slot) (k : ℕ) (o : Offer) → slice_get (map (offer_in_place prices codes) ss) k ≡ Some o
        → (kind : Option Kind) → kind_cost o kind ≤ 1000000000
    each_most [] k o at kind = absurd (cc)
    each_most (s ∷ ss) zero o at kind =
        let same : offer_in_place prices codes s ≡ o = cc in
        subst (λ (x : Offer). kind_cost x kind ≤ 1000000000) same (cost_most s kind)
    each_most (s ∷ ss) (suc k) o at kind = each_most ss k o at kind

    slots_there : (ss : List Slot) → slots (map (offer_in_place prices codes) ss) ≡ ss
    slots_there [] = refl
    slots_there (s ∷ ss) = ap (λ us. s ∷ us) (slots_there ss)

    pub are_offers_in_place : AreOffers (offers_in_place prices codes)
    are_offers_in_place = record {
      rising = ap is_rising (slots_there (places codes)) ∙ rising-places codes;
      small = each_most (places codes);
    }

    -- ---- the FENCEs as they are written

    offered_by : (s : Slot) (own : Option Kind) → written_at codes s ≡ own → is_offered (offer_in_place prices codes s) own ≡ true
    offered_by s None is = refl
    offered_by s (Some own) is =
        ap is_some (price_there prices codes s own)
        ∙ some_weighed (weight_in_place prices codes s) (price_in_place prices (written_at codes s) own)
        ∙ ap (λ o. is_some (price_in_place prices o own)) is
        ∙ ap is_some (own_price own)
        ∙ some_written own

    abbrev is_among : Slot → List Slot → Bool
    is_among s ss = list_any (λ u. is_same_slot u s) ss

    found_first : (u s : Slot) (us : List Slot) (c : Bool) → is_same_slot u s ≡ c → is_among s (u ∷ us) ≡ true
        → (is_among s us ≡ true → offer_at (map (offer_in_place prices codes) us) s ≡ offer_in_place prices codes s)
        → unwrap_or (cond c (Some (offer_in_place prices codes u)) (find (λ o. is_same_slot o.slot s) (map (offer_in_place prices codes) us))) (nothing s)
        ≡ offer_in_place prices codes s
    found_first u s us true same h rest = ap (offer_in_place prices codes) (same_slot u s same)
    found_first u s us false same h rest = rest (sym (ap (λ c. c || is_among s us) same) ∙ h)

    at_place : (ss : List Slot) (s : Slot) → is_among s ss ≡ true
        → offer_at (map (offer_in_place prices codes) ss) s ≡ offer_in_place prices codes s
    at_place [] s h = absurd (false≢true h)
    at_place (u ∷ us) s h = found_first u s us (is_same_slot u s) refl h (at_place us s)

    all_each : (P : Entry → Bool) (f : Slot → Option Kind) (ss : List Slot)
        → ((s : Slot) → is_among s ss ≡ true → P (record { slot = s; kind = f s }) ≡ true) → list_all P (with_each f ss) ≡ true
    all_each P f [] h = refl
    all_each P f (s ∷ ss) h =
        let here : P (record { slot = s; kind = f s }) ≡ true = h s (or_left _ _ (itself s)) in
        ap (λ c. c && list_all P (with_each f ss)) here
        ∙ all_each P f ss (λ u later. h u (or_right (is_same_slot s u) (is_among u ss) later))

    written_offered : are_offered (offers_in_place prices codes) (with_each (written_at codes) (places codes)) ≡ true
    written_offered =
        all_each (λ e. is_offered (offer_at (offers_in_place prices codes) e.slot) e.kind) (written_at codes) (places codes)
        (λ s h. ap (λ o. is_offered o (written_at codes s)) (at_place (places codes) s h) ∙ offered_by s (written_at codes s) refl)

  pub written_placement : (t : Test) → IsPlacement (offers_in_place prices t.codes) (as_written t)
  written_placement t = record {
    slots = slots_of_each (written_at t.codes) (places t.codes) ∙ sym (slots_there t.codes (places t.codes));
    offered = written_offered t.codes;
  }
