-- The offers that prices make: what a kind costs at a slot, and that no fence costs too much.
use Rattle.std.proofs.Common.{◌≡◌, ℕ, zero, suc, ◌*◌, ◌≤◌, true, Option, None, Some, is_some, unwrap_or, option_map, List, [], ◌∷◌, refl, ap, subst, ◌∙◌, arith}
use Rattle.std.specs.Prelude.{slice_get, IfSome}
use Rattle.fs_kinds.specs.declared.kind.Kind.{Kind}
use Rattle.fs_kinds.specs.declared.kind.Kind.TheVariants.{RR, RW, RRw, WR, WW, WRw, RwR, RwW, RwRw, Tso}
use Rattle.fs_kinds.specs.declared.slot.Slot.{Slot}
use Rattle.fs_kinds.specs.PriceTable.{PriceTable, IsPriceTable, weight_of, most_price, most_weight}
use Rattle.fs_kinds.specs.PriceTable as priced
use Rattle.fs_kinds.specs.Slot.{is_rising}
use Rattle.fs_board_offers.specs.Offers.{Offer, AreOffers, price_of, is_offered, kind_cost, slots, most_cost, offer_of, offers_for}
use Rattle.std.proofs.lemmas.Nat.{mul-le}

module _ (prices : PriceTable) (s : Slot) where
  price-there : (kind : Kind) → price_of (offer_of prices s) kind ≡ option_map (λ n. n * weight_of prices s) (priced.price_of prices kind)
  price-there RR = refl
  price-there RW = refl
  price-there RRw = refl
  price-there WR = refl
  price-there WW = refl
  price-there WRw = refl
  price-there RwR = refl
  price-there RwW = refl
  price-there RwRw = refl
  price-there Tso = refl

  there-or-not : (price : Option ℕ) (w : ℕ) → is_some (option_map (λ n. n * w) price) ≡ is_some price
  there-or-not None w = refl
  there-or-not (Some n) w = refl

  pub offered-there : (kind : Option Kind) → is_offered (offer_of prices s) kind ≡ priced.is_offered prices kind
  offered-there None = refl
  offered-there (Some kind) = ap is_some (price-there kind) ∙ there-or-not (priced.price_of prices kind) (weight_of prices s)

  none-times : (n : ℕ) → 0 ≡ 0 * n
  none-times n = omega arith

  times-or-none : (price : Option ℕ) (w : ℕ) → unwrap_or (option_map (λ n. n * w) price) 0 ≡ unwrap_or price 0 * w
  times-or-none None w = none-times w
  times-or-none (Some n) w = refl

  pub cost-there : (kind : Option Kind) → kind_cost (offer_of prices s) kind ≡ priced.kind_cost prices kind * weight_of prices s
  cost-there None = none-times (weight_of prices s)
  cost-there (Some kind) =
      ap (λ n. unwrap_or n 0) (price-there kind) ∙ times-or-none (priced.price_of prices kind) (weight_of prices s)

-- ---- none costs too much

product : (m n : ℕ) → m ≤ 1000000 → n ≤ 1000 → m * n ≤ 1000000000
product m n first second = mul-le m n 1000000 1000 first second

price-most : (price : Option ℕ) → IfSome price (λ n. (1 ≤ n) × (n ≤ most_price)) → unwrap_or price 0 ≤ 1000000
price-most None low = omega arith
price-most (Some n) low = let most = low.1 in omega (arith, most)

module _ (prices : PriceTable) (table : IsPriceTable prices) where
  kind-most : (kind : Option Kind) → priced.kind_cost prices kind ≤ 1000000
  kind-most None = omega arith
  kind-most (Some kind) = price-most (priced.price_of prices kind) (table.price kind)

  cost-most : (s : Slot) (kind : Option Kind) → kind_cost (offer_of prices s) kind ≤ most_cost
  cost-most s kind =
      let same = cost-there prices s kind in
      let low = product (priced.kind_cost prices kind) (weight_of prices s) (kind-most kind) (table.weight s) in
      omega (arith, same, low)

  each-most : (ss : List Slot) (k : ℕ) (o : Offer) → slice_get (offers_for prices ss) k ≡ Some o → (kind : Option Kind)
      → kind_cost o kind ≤ most_cost
  each-most [] k o at kind = absurd (cc)
  each-most (s ∷ ss) zero o at kind =
      let same : offer_of prices s ≡ o = cc in
      subst (λ (x : Offer). kind_cost x kind ≤ most_cost) same (cost-most s kind)
  each-most (s ∷ ss) (suc k) o at kind = each-most ss k o at kind

pub slots-for : (prices : PriceTable) (ss : List Slot) → slots (offers_for prices ss) ≡ ss
slots-for prices [] = refl
slots-for prices (s ∷ ss) = ap (λ us. s ∷ us) (slots-for prices ss)

pub are-offers : (prices : PriceTable) (ss : List Slot) → IsPriceTable prices → is_rising ss ≡ true → AreOffers (offers_for prices ss)
are-offers prices ss table rising = record {
  rising = ap is_rising (slots-for prices ss) ∙ rising;
  small = each-most prices table ss;
}
