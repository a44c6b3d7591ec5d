-- What may stand at sites: their keys rise, no fence costs too much, and rw,rw is offered at each.
use Rattle.std.proofs.Common.{◌≡◌, ◌≤◌, ◌<◌, ◌+◌, ◌*◌, ◌==◌, ℕ, zero, suc, Bool, true, false, Option, None, Some, unwrap_or, option_and_then, option_map, List, [], ◌∷◌, map, length, refl, ap, subst, ◌∙◌, arith, if◌then◌else◌}
use Rattle.std.specs.Prelude.{slice_get, is_some, IfSome, IsSome}
use Rattle.std.specs.List.{enumerate_from, find, list_all, range_with_len}
use Rattle.std.proofs.lemmas.Bool.{and_from, and_parts}
use Rattle.std.proofs.lemmas.Bool.Decides.{nat_tests}
use Rattle.std.proofs.lemmas.Nat.{mul-le}
use Rattle.serde_json.specs.Data.{Data}
use Rattle.serde_json.specs.Find.{get}
use Rattle.fs_kinds.specs.declared.kind.Kind.{Kind}
use Rattle.fs_kinds.specs.declared.kind.Kind.TheVariants.{RR, RW, RRw, WR, WW, WRw, RwR, RwW, RwRw, Tso}
use Rattle.fs_kinds.specs.declared.slot.Slot.{Slot}
use Rattle.fs_kinds.specs.Kind.{word}
use Rattle.fs_kinds.specs.Placement.{all_with}
use Rattle.fs_kinds.specs.PriceObject.{weights_key, whole}
use Rattle.fs_kinds.specs.PriceTable.{most_price, most_weight}
use Rattle.fs_kinds.specs.Slot.{is_before, is_rising, is_same_slot}
use Rattle.fs_kinds.proofs.Members.{whole-within}
use Rattle.fs_board_offers.specs.Offers.{Offer, Offers, AreOffers, price_of, is_offered, kind_cost, slots, most_cost, nothing, offer_at, are_offered}
use Rattle.fs_board_offers.specs.Questions.{HasTop}
use Rattle.fs_app_sites.specs.SitePrices as priced
use Rattle.fs_app_sites.specs.SitePrices.{cost_at, weight_of}
use Rattle.fs_app_sites.specs.Sites.{key, offer_of, offers_of}

-- ---- keys

key-before : (i j : ℕ) → i < j → is_before (key i) (key j) ≡ true
key-before i j low = grind (arith, nat_tests, low)

all-after : (i n j : ℕ) → i < j → list_all (is_before (key i)) (map key (range_with_len j n)) ≡ true
all-after i zero j low = refl
all-after i (suc n) j low = and_from _ _ (key-before i j low) (all-after i n (j + 1) (omega (arith, low)))

pub rising-keys : (n i : ℕ) → is_rising (map key (range_with_len i n)) ≡ true
rising-keys zero i = refl
rising-keys (suc n) i = and_from _ _ (all-after i n (i + 1) (omega arith)) (rising-keys n (i + 1))

itself : (s : Slot) → is_same_slot s s ≡ true
itself s = grind (arith, nat_tests)

-- ---- prices and weights

-- what a value gives is in range
pub value-within : (least most : ℕ) (o : Option Data) (n : ℕ) → option_and_then (whole least most) o ≡ Some n → (least ≤ n) × (n ≤ most)
value-within least most None n is = absurd (cc)
value-within least most (Some d) n is = whole-within least most d n is

or-one : (o : Option ℕ) → ((n : ℕ) → o ≡ Some n → n ≤ most_weight) → unwrap_or o 1 ≤ most_weight
or-one None low = omega arith
or-one (Some n) low = low n refl

pub weight-most : (prices : Data) (name : List ℕ) → weight_of prices name ≤ most_weight
weight-most prices name =
    let value : Option Data = option_and_then (get name) (get weights_key prices) in
    or-one (option_and_then (whole 0 most_weight) value) (λ n is. (value-within 0 most_weight value n is).1)

times-most : (o : Option ℕ) (w : ℕ) → ((n : ℕ) → o ≡ Some n → n ≤ most_price) → w ≤ most_weight
    → unwrap_or (option_map (λ n. n * w) o) 0 ≤ most_cost
times-most None w low few = omega arith
times-most (Some n) w low few = mul-le n w most_price most_weight (low n refl) few

pub cost-most : (prices : Data) (name : List ℕ) (kind : Kind) → unwrap_or (cost_at prices name kind) 0 ≤ most_cost
cost-most prices name kind =
    let value : Option Data = get (word kind) prices in
    times-most (priced.price_of prices kind) (weight_of prices name)
    (λ n is. (value-within 1 most_price value n is).1) (weight-most prices name)

still-some : (f : ℕ → ℕ) (o : Option ℕ) → IsSome o → is_some (option_map f o) ≡ true
still-some f None some = some
still-some f (Some n) some = refl

module _ (prices : Data) where
  slots-at : (i : ℕ) (names : List (List ℕ)) → slots (map (offer_of prices) (enumerate_from i names)) ≡ map key (range_with_len i (length names))
  slots-at i [] = refl
  slots-at i (name ∷ names) = ap (λ (ss : List Slot). key i ∷ ss) (slots-at (i + 1) names)

  -- ---- no kind is written there

  each-plain : (sites : List (ℕ × List ℕ)) (k : ℕ) (o : Offer) → slice_get (map (offer_of prices) sites) k ≡ Some o → o.written ≡ None
  each-plain [] k o at = absurd (cc)
  each-plain (site ∷ sites) zero o at =
      let same : offer_of prices site ≡ o = cc in
      subst (λ (x : Offer). x.written ≡ None) same refl
  each-plain (site ∷ sites) (suc k) o at = each-plain sites k o at

  pub plain : (names : List (List ℕ)) (k : ℕ) (o : Offer) → slice_get (offers_of prices names) k ≡ Some o → o.written ≡ None
  plain names = each-plain (enumerate_from 0 names)

  -- ---- costs

  price-there : (site : ℕ × List ℕ) (kind : Kind) → price_of (offer_of prices site) kind ≡ cost_at prices site.1 kind
  price-there site RR = refl
  price-there site RW = refl
  price-there site RRw = refl
  price-there site WR = refl
  price-there site WW = refl
  price-there site WRw = refl
  price-there site RwR = refl
  price-there site RwW = refl
  price-there site RwRw = refl
  price-there site Tso = refl

  kind-most : (site : ℕ × List ℕ) (kind : Option Kind) → kind_cost (offer_of prices site) kind ≤ most_cost
  kind-most site None = omega arith
  kind-most site (Some kind) =
      let same = ap (λ price. unwrap_or price 0) (price-there site kind) in
      let low = cost-most prices site.1 kind in
      omega (arith, same, low)

  each-most : (sites : List (ℕ × List ℕ)) (k : ℕ) (o : Offer) → slice_get (map (offer_of prices) sites) k ≡ Some o → (kind : Option Kind)
      → kind_cost o kind ≤ most_cost
  each-most [] k o at kind = absurd (cc)
  each-most (site ∷ sites) zero o at kind =
      let same : offer_of prices site ≡ o = cc in
      subst (λ (x : Offer). kind_cost x kind ≤ most_cost) same (kind-most site kind)
  each-most (site ∷ sites) (suc k) o at kind = each-most sites k o at kind

  pub are-offers : (names : List (List ℕ)) → AreOffers (offers_of prices names)
  are-offers names = record {
    rising = ap is_rising (slots-at 0 names) ∙ rising-keys (length names) 0;
    small = each-most (enumerate_from 0 names);
  }

  -- ---- rw,rw

  one-more : (b : Bool) (o : Offer) (found : Option Offer) (s : Slot) → is_offered o (Some RwRw) ≡ true
      → is_offered (unwrap_or found (nothing s)) (Some RwRw) ≡ true
      → is_offered (unwrap_or (if b then Some o else found) (nothing s)) (Some RwRw) ≡ true
  one-more true o found s here there = here
  one-more false o found s here there = there

  kept : (o : Offer) (offers : Offers) (ss : List Slot) → is_offered o (Some RwRw) ≡ true
      → are_offered offers (all_with (Some RwRw) ss) ≡ true → are_offered (o ∷ offers) (all_with (Some RwRw) ss) ≡ true
  kept o offers [] here all = refl
  kept o offers (s ∷ ss) here all =
      let parts = and_parts _ _ all in
      and_from _ _ (one-more (is_same_slot o.slot s) o (find (λ x. is_same_slot x.slot s) offers) s here parts.0)
      (kept o offers ss here parts.1)

  first-there : (b : Bool) (o : Offer) (found : Option Offer) (s : Slot) → b ≡ true → is_offered o (Some RwRw) ≡ true
      → is_offered (unwrap_or (if b then Some o else found) (nothing s)) (Some RwRw) ≡ true
  first-there true o found s same here = here
  first-there false o found s same here = absurd (cc)

  module _ (top : IsSome (priced.price_of prices RwRw)) where
    top-there : (site : ℕ × List ℕ) → is_offered (offer_of prices site) (Some RwRw) ≡ true
    top-there site = still-some (λ n. n * weight_of prices site.1) (priced.price_of prices RwRw) top

    tops : (sites : List (ℕ × List ℕ)) → HasTop (map (offer_of prices) sites)
    tops [] = refl
    tops (site ∷ sites) =
        let offers = map (offer_of prices) sites in
        let s = key site.0 in
        and_from _ _
        (first-there (is_same_slot s s) (offer_of prices site) (find (λ x. is_same_slot x.slot s) offers) s (itself s) (top-there site))
        (kept (offer_of prices site) offers (slots offers) (top-there site) (tops sites))

    pub has-top : (names : List (List ℕ)) → HasTop (offers_of prices names)
    has-top names = tops (enumerate_from 0 names)
