-- What the bytes of a file of prices for sites say: a JSON object from kinds to prices, which may have one more member,
-- `weights`, an object from the names of sites to their weights. A name of no site is no fault.
use Rattle.std.specs.Prelude.{◌≡◌, ◌⊎◌, ◌*◌, ℕ, Option, None, Some, IsSome, option_and_then, option_map, unwrap_or, List}
use Rattle.std.specs.Str.{IsUtf8}
use Rattle.serde_json.specs.Data.{Data, Members}
use Rattle.serde_json.specs.Find.{get, as_object}
use Rattle.serde_json.specs.Read.{read}
use Rattle.fs_kinds.specs.declared.fault.Fault.{Fault}
use Rattle.fs_kinds.specs.declared.fault.Fault.TheVariants.{BadPrices, NoTop}
use Rattle.fs_kinds.specs.declared.kind.Kind.{Kind}
use Rattle.fs_kinds.specs.declared.kind.Kind.TheVariants.{RwRw}
use Rattle.fs_kinds.specs.Kind.{word}
use Rattle.fs_kinds.specs.PriceObject.{EachMember, IsPrice, weights_key, whole}
use Rattle.fs_kinds.specs.PriceTable.{most_price, most_weight}

-- ---- the object

-- the weight of the site of any name
abbrev pub IsSiteWeight : List ℕ → Data → Type 0
IsSiteWeight name d = IsSome (whole 0 most_weight d)

abbrev pub AreSiteWeights : Data → Type 0
AreSiteWeights d = (ms : Members) × (as_object d ≡ Some ms) × EachMember IsSiteWeight ms

-- a kind and a price, or the weights
abbrev pub IsSitePrice : List ℕ → Data → Type 0
IsSitePrice key d = IsPrice key d ⊎ ((key ≡ weights_key) × AreSiteWeights d)

-- the value is an object of prices, with or without `rw,rw`
abbrev pub IsPriceValue : Data → Type 0
IsPriceValue d = (ms : Members) × (as_object d ≡ Some ms) × EachMember IsSitePrice ms

-- ---- what it gives

-- the price of the kind, where it is offered
abbrev pub price_of : Data → Kind → Option ℕ
price_of d kind = option_and_then (whole 1 most_price) (get (word kind) d)

-- by what the prices at the site of this name are multiplied: 1 where it has no weight
abbrev pub weight_of : Data → List ℕ → ℕ
weight_of d name = unwrap_or (option_and_then (whole 0 most_weight) (option_and_then (get name) (get weights_key d))) 1

-- what a fence of the kind costs at the site of this name, once for all its copies
abbrev pub cost_at : Data → List ℕ → Kind → Option ℕ
cost_at d name kind = option_map (λ price. price * weight_of d name) (price_of d kind)

-- ---- of bytes

-- the bytes are the JSON text of such an object
pub record HavePrices (bytes : List ℕ) (prices : Data) : Type 0 where
  pub utf8 : IsUtf8 bytes
  pub reads : read bytes ≡ Some prices
  pub value : IsPriceValue prices

-- and it has a price of `rw,rw`
pub record AreSitePrices (bytes : List ℕ) (prices : Data) : Type 0 where
  pub have : HavePrices bytes prices
  pub top : IsSome (price_of prices RwRw)

-- the bytes are no such text, or it has no price of `rw,rw`
pub data IsSitePricesFault (bytes : List ℕ) : Fault → Type 0 where
  no_prices : ((prices : Data) → ¬ HavePrices bytes prices) → IsSitePricesFault bytes BadPrices
  no_top : (prices : Data) → HavePrices bytes prices → price_of prices RwRw ≡ None → IsSitePricesFault bytes NoTop
