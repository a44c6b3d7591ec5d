-- A walk over all placements, in the order of those of equal cost. Its cursor has what is decided at the first sites.
use Rattle.std.specs.Prelude.{◌≡◌, ◌<◌, ◌≤◌, ◌==◌, nat_lt, Bool, true, false, ◌&&◌, ◌||◌, Option, None, Some, IfSome, List, [], ◌∷◌, length, take}
use Rattle.fs_kinds.specs.declared.kind.Kind.{Kind}
use Rattle.fs_kinds.specs.declared.placement.Entry.{Entry}
use Rattle.fs_kinds.specs.Placement.{rank, precedes}
use Rattle.fs_cert_evidence.specs.declared.evidence.Pairs.{Pairs}
use Rattle.fs_board_offers.specs.Offers.{Offer, Offers, IsPlacement, is_offered, cost}
use Rattle.fs_board_offers.specs.Bounds.{IsNoBetter}
use Rattle.fs_sites.specs.Plans.{breaks_all}
use Rattle.fs_sites.specs.Sinking.{Fills, Begins}

-- the placement is before the cursor, or begins with it
abbrev pub is_reached : List Entry → List Entry → Bool
is_reached q [] = true
is_reached [] (f ∷ p) = false
is_reached (e ∷ q) (f ∷ p) = nat_lt (rank e.kind) (rank f.kind) || (rank e.kind == rank f.kind) && is_reached q p

-- ---- the next kind

-- behind this kind comes that one, with none between that is offered
pub record IsNext (o : Offer) (kind : Option Kind) (next : Kind) : Type 0 where
  pub offered : is_offered o (Some next) ≡ true
  pub later : rank kind < rank (Some next)
  pub none_between : (other : Option Kind) → is_offered o other ≡ true → rank other < rank (Some next)
      → rank other ≤ rank kind

-- behind this kind none is offered
abbrev pub IsLast : Offer → Option Kind → Type 0
IsLast o kind = (other : Option Kind) → is_offered o other ≡ true → rank other ≤ rank kind

-- ---- the walk

-- the new cursor is right behind all that begins with the old one
pub record Follows (offers : Offers) (old new : List Entry) : Type 0 where
  pub begins : Begins offers new
  pub same : (q : List Entry) → Fills offers q → precedes q new ≡ is_reached q old

-- nothing is behind what begins with the cursor
abbrev pub IsEnd : Offers → List Entry → Type 0
IsEnd offers cursor = (q : List Entry) → Fills offers q → is_reached q cursor ≡ true

-- the placement costs no less than the best one, or it costs less; where there is none yet each costs less
abbrev pub CostsNoLess : Offers → (best : Option (List Entry)) → List Entry → Type 0
CostsNoLess offers None q = ⊥
CostsNoLess offers (Some p) q = cost offers p ≤ cost offers q

abbrev pub CostsLess : Offers → (best : Option (List Entry)) → List Entry → Type 0
CostsLess offers None q = Unit {0}
CostsLess offers (Some p) q = cost offers q < cost offers p

-- what begins with the cursor and breaks all bars costs no less than the best placement
abbrev pub Closes : Offers → List (List Pairs) → Option (List Entry) → List Entry → Type 0
Closes offers bars best cursor =
    (q : List Entry) → IsPlacement offers q → take (length cursor) q ≡ cursor → breaks_all bars q ≡ true
    → CostsNoLess offers best q

-- a placement that breaks all bars, among those that were seen
pub record IsFound (offers : Offers) (bars : List (List Pairs)) (was_seen : List Entry → Bool) (p : List Entry)
    : Type 0 where
  pub placement : IsPlacement offers p
  pub breaks : breaks_all bars p ≡ true
  pub seen : was_seen p ≡ true

-- Of the placements that were seen the best one that breaks all bars.
pub record IsBestOf (offers : Offers) (bars : List (List Pairs)) (was_seen : List Entry → Bool)
    (best : Option (List Entry)) : Type 0 where
  pub found : IfSome best (IsFound offers bars was_seen)
  pub none_better : (q : List Entry) → IsPlacement offers q → breaks_all bars q ≡ true → was_seen q ≡ true
      → IsNoBetter offers best q

-- all before the cursor was seen
abbrev pub IsBestBefore : Offers → List (List Pairs) → List Entry → Option (List Entry) → Type 0
IsBestBefore offers bars cursor = IsBestOf offers bars (λ q. precedes q cursor)

-- and all that begins with it
abbrev pub IsBestWith : Offers → List (List Pairs) → List Entry → Option (List Entry) → Type 0
IsBestWith offers bars cursor = IsBestOf offers bars (λ q. is_reached q cursor)
