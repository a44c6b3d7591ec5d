-- What a kind of fence costs in the place of a FENCE.
use Rattle.std.specs.Prelude.{ℕ, ◌*◌, not, if◌then◌else◌, Option, None, Some, option_map}
use Rattle.std.specs.Option.{option_or}
use Rattle.fs_kinds.specs.declared.kind.Kind.{Kind}
use Rattle.fs_kinds.specs.Kind.{all_kinds, no_stronger}
use Rattle.fs_kinds.specs.PriceTable.{PriceTable, price_of}
use Rattle.fs_board_offers.specs.Breaks.{least_of}

-- the price of the second kind, where it orders all that the first one orders
abbrev pub price_above : PriceTable → (own above : Kind) → Option ℕ
price_above prices own above = if no_stronger own above then price_of prices above else None

-- what the written kind costs; one that has no price costs what the cheapest does that orders all that it orders
abbrev pub written_price : PriceTable → Kind → Option ℕ
written_price prices own = option_or (price_of prices own) (least_of (price_above prices own) all_kinds)

-- what a kind costs where this one is written: there may stand that one, and what orders less
abbrev pub price_below : PriceTable → (own kind : Kind) → Option ℕ
price_below prices own kind =
    if not (no_stronger kind own) then None
    else if no_stronger own kind then written_price prices own
    else price_of prices kind

abbrev pub price_in_place : PriceTable → (own : Option Kind) → Kind → Option ℕ
price_in_place prices None kind = None
price_in_place prices (Some own) kind = price_below prices own kind

abbrev pub weighed : (weight : ℕ) → Option ℕ → Option ℕ
weighed weight price = option_map (λ n. n * weight) price
