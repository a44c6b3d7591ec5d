-- The cheapest fences of sites that break bars. The entries of a placement are those of the sites, in order; a bar is an
-- execution, by the pairs of operations that its order keeps at each site.
use Rattle.std.specs.Prelude.{◌≡◌, ℕ, Bool, true, false, ◌&&◌, not, None, Some, List, ◌∷◌, slice_get}
use Rattle.std.specs.List.{list_all}
use Rattle.fs_kinds.specs.declared.placement.Entry.{Entry}
use Rattle.fs_cert_evidence.specs.declared.evidence.Pairs.{Pairs}
use Rattle.fs_board_offers.specs.Breaks.{fits}
use Rattle.fs_board_offers.specs.Offers.{Offer, Offers, IsPlacement, is_better}

-- at each site the fence orders only pairs that are kept there, so that the execution is there with these fences too
abbrev pub is_within : List Pairs → List Entry → Bool
is_within (pairs ∷ bar) (e ∷ p) = fits pairs e.kind && is_within bar p
is_within _ _ = true

-- none of the executions is there with these fences
abbrev pub breaks_all : List (List Pairs) → List Entry → Bool
breaks_all bars p = list_all (λ bar. not (is_within bar p)) bars

-- no kind is written anywhere, so that of what costs the same none comes first and then the kinds in table order
abbrev pub ArePlain : Offers → Type 0
ArePlain offers = (k : ℕ) (o : Offer) → slice_get offers k ≡ Some o → o.written ≡ None

-- Of the placements that these offers allow, p breaks all bars, and each better one leaves one unbroken.
pub record IsFirstBreaking (offers : Offers) (bars : List (List Pairs)) (p : List Entry) : Type 0 where
  pub placement : IsPlacement offers p
  pub breaks : breaks_all bars p ≡ true
  pub better : (q : List Entry) → IsPlacement offers q → is_better offers q p ≡ true → breaks_all bars q ≡ false

-- no placement breaks all bars
abbrev pub NoneBreaks : Offers → List (List Pairs) → Type 0
NoneBreaks offers bars = (q : List Entry) → IsPlacement offers q → breaks_all bars q ≡ false
