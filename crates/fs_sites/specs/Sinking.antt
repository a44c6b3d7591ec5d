-- What placements that break bars cost at least: each bar in turn takes what the cheapest of its ways costs, and each of
-- these ways is so much cheaper for the later ones.
use Rattle.std.specs.Prelude.{◌≡◌, ℕ, ◌+◌, ◌-◌, ◌≤◌, Bool, true, if◌then◌else◌, Option, None, Some, option_map, List, [], ◌∷◌, map}
use Rattle.fs_kinds.specs.declared.kind.Kind.{Kind}
use Rattle.fs_kinds.specs.declared.kind.Kind.TheVariants.{RwRw}
use Rattle.fs_kinds.specs.declared.placement.Entry.{Entry}
use Rattle.fs_kinds.specs.Kind.{all_kinds}
use Rattle.fs_cert_evidence.specs.declared.evidence.Pairs.{Pairs}
use Rattle.fs_board_offers.specs.Offers.{Offer, price_of, is_offered, kind_cost}
use Rattle.fs_board_offers.specs.Breaks.{fits, break_cost, lesser_of, least_of, all_options}

-- the entries are for these offers, one for each, with something that is offered there
abbrev pub Fills : List Offer → List Entry → Type 0
Fills [] [] = Unit {0}
Fills [] (e ∷ p) = ⊥
Fills (o ∷ offers) [] = ⊥
Fills (o ∷ offers) (e ∷ p) = (e.slot ≡ o.slot) × (is_offered o e.kind ≡ true) × Fills offers p

-- the entries are for the first of these offers
abbrev pub Begins : List Offer → List Entry → Type 0
Begins offers [] = Unit {0}
Begins [] (e ∷ p) = ⊥
Begins (o ∷ offers) (e ∷ p) = (e.slot ≡ o.slot) × (is_offered o e.kind ≡ true) × Begins offers p

-- what they cost there
abbrev pub paid : List Offer → List Entry → ℕ
paid (o ∷ offers) (e ∷ p) = kind_cost o e.kind + paid offers p
paid _ _ = 0

-- what is left of a bar behind these entries, where none of them breaks it
abbrev pub unbroken_rest : List Pairs → List Entry → Option (List Pairs)
unbroken_rest bar [] = Some bar
unbroken_rest [] (e ∷ p) = Some []
unbroken_rest (pairs ∷ bar) (e ∷ p) = if fits pairs e.kind then unbroken_rest bar p else None

-- all pairs are kept, so that nothing breaks the bar there
abbrev pub keeps_all : Pairs → Bool
keeps_all pairs = fits pairs (Some RwRw)

-- what the cheapest way costs to break a bar at an offer, and at one of these
abbrev pub least_at : Pairs → Offer → Option ℕ
least_at pairs o = if keeps_all pairs then None else least_of (break_cost o pairs) all_options

abbrev pub least_in : List Pairs → List Offer → Option ℕ
least_in (pairs ∷ bar) (o ∷ offers) = lesser_of (least_at pairs o) (least_in bar offers)
least_in _ _ = None

-- each way to break the bar so much cheaper
abbrev pub sunk_price : ℕ → Pairs → Offer → Kind → Option ℕ
sunk_price d pairs o kind = option_map (λ n. if fits pairs (Some kind) then n else n - d) (price_of o kind)

abbrev pub cheaper_offer : ℕ → Pairs → Offer → Offer
cheaper_offer d pairs o = record { slot = o.slot; costs = map (sunk_price d pairs o) all_kinds; written = o.written }

abbrev pub sunk_offer : ℕ → Pairs → Offer → Offer
sunk_offer d pairs o = if keeps_all pairs then o else cheaper_offer d pairs o

abbrev pub sunk : ℕ → List Pairs → List Offer → List Offer
sunk d (pairs ∷ bar) (o ∷ offers) = sunk_offer d pairs o ∷ sunk d bar offers
sunk d _ offers = offers

-- the bound is no more than n; where it is none there is no such n
abbrev pub IsAtMost : Option ℕ → ℕ → Type 0
IsAtMost None n = ⊥
IsAtMost (Some m) n = m ≤ n

-- what is left to pay for these entries sank by so much; where it is none there are no such entries
abbrev pub HasPaid : Option ℕ → (old new : List Offer) → List Entry → Type 0
HasPaid None old new p = ⊥
HasPaid (Some d) old new p = Fills new p × (d + paid new p ≤ paid old p)
