-- What breaks a witness, and what it is within, by the pairs that it keeps at each slot of a part.
use Rattle.std.specs.Prelude.{ℕ, nat_lt, Bool, true, ◌&&◌, not, if◌then◌else◌}
use Rattle.std.specs.Prelude.{Option, None, Some, unwrap_or, List, [], ◌∷◌, map}
use Rattle.std.specs.List.{list_all, count_by, enumerate_from}
use Rattle.fs_kinds.specs.declared.kind.Kind.{Kind}
use Rattle.fs_kinds.specs.declared.slot.Slot.{Slot}
use Rattle.fs_kinds.specs.Kind.{is_subset, all_kinds}
use Rattle.fs_kinds.specs.Placement.{pairs_kept}
use Rattle.fs_board_offers.specs.Offers.{Offer, Offers, is_offered, kind_cost, offer_at}
use Rattle.fs_board_offers.specs.Parts.{Part, Decision}
use Rattle.fs_board_offers.specs.Pruning.{lesser, sum_of}
use Rattle.fs_cert_evidence.specs.declared.evidence.Pairs.{Pairs}
use Rattle.fs_cert_evidence.specs.Evidence.{keeps}

-- the kind, or none, orders only these pairs
abbrev pub fits : Pairs → Option Kind → Bool
fits pairs kind = is_subset (pairs_kept kind) (keeps pairs)

-- each slot's kind orders only what is kept there, where undecided slots have this kind
abbrev pub is_kept : Option Kind → Part → List Pairs → Bool
is_kept kind (d ∷ part) (pairs ∷ widths) = fits pairs (unwrap_or d.decided kind) && is_kept kind part widths
is_kept kind _ _ = true

-- the kind is offered, and orders a pair that isn't kept
abbrev pub is_break : Offer → Pairs → Option Kind → Bool
is_break offer pairs kind = is_offered offer kind && not (fits pairs kind)

-- and then it costs so much
abbrev pub break_cost : Offer → Pairs → Option Kind → Option ℕ
break_cost offer pairs kind = if is_break offer pairs kind then Some (kind_cost offer kind) else None

abbrev pub lesser_of : Option ℕ → Option ℕ → Option ℕ
lesser_of None n = n
lesser_of (Some m) n = Some (lesser m n)

-- the least of all that the function gives
abbrev pub least_of : {A : Type 0} → (A → Option ℕ) → List A → Option ℕ
least_of f [] = None
least_of f (x ∷ xs) = lesser_of (f x) (least_of f xs)

-- all ways to decide a slot
abbrev pub all_options : List (Option Kind)
all_options = None ∷ map (λ kind. Some kind) all_kinds

-- what the cheapest offered fence costs that breaks a witness which keeps these pairs at the slot
abbrev pub break_at : Offers → Slot → Pairs → Option ℕ
break_at offers slot pairs = least_of (break_cost (offer_at offers slot) pairs) all_options

-- ---- witnesses that bound a part, by what is known of each

module _ {W : Type 0} where
  -- slot number k is breakable for one of them at most, by a test of that
  abbrev pub breaks_one : (ℕ → Decision → W → Bool) → ℕ → Decision → List W → Bool
  breaks_one test k d ws = nat_lt (count_by (test k d) ws) 2

  -- and so is each slot of the part, whose first has this number
  abbrev pub break_apart : (ℕ → Decision → W → Bool) → ℕ → Part → List W → Bool
  break_apart test k part ws = list_all (λ numbered. breaks_one test numbered.0 numbered.1 ws) (enumerate_from k part)

  -- what the floor costs, and breaking each of them
  abbrev pub bound_of : (W → Option ℕ) → (floor : ℕ) → List W → Option ℕ
  bound_of least floor [] = Some floor
  bound_of least floor (w ∷ ws) = sum_of (least w) (bound_of least floor ws)
