-- What breaks a witness at a slot, and the least that it costs.
use Rattle.std.proofs.Common.{◌≡◌, true, false, ◌&&◌, ◌||◌, not, Option, None, Some, is_none, List, [], ◌∷◌, map, refl, sym, ap}
use Rattle.std.specs.Prelude.{if◌then◌else◌, filter}
use Rattle.std.specs.List.{list_any}
use Rattle.fs_kinds.specs.declared.kind.Kind.{Kind}
use Rattle.fs_kinds.specs.declared.placement.Entry.{Entry}
use Rattle.fs_kinds.specs.declared.slot.Slot.{Slot}
use Rattle.fs_board_offers.specs.Offers.{Offers, is_offered, kind_cost, entry_cost, offer_at}
use Rattle.fs_board_offers.specs.Pruning.{breaks, breaking_ways, is_empty, lesser, least}
use Rattle.fs_cert_evidence.specs.declared.evidence.Pairs.{Pairs}
use Rattle.fs_board_offers.specs.Breaks.{all_options, fits, is_break, break_cost, lesser_of, least_of}
use Rattle.fs_board.specs.inner.Breaks.{everywhere}

module _ (offers : Offers) (pairs : Pairs) (slot : Slot) where
  abbrev at_slot : Option Kind → Entry
  at_slot kind = record { slot = slot; kind = kind }

  abbrev ways : List (Option Kind) → List Entry
  ways kinds = filter (breaks (everywhere pairs)) (map at_slot (filter (is_offered (offer_at offers slot)) kinds))

  pub least_ways : (kinds : List (Option Kind)) → least (map (entry_cost offers) (ways kinds)) ≡ least_of (break_cost (offer_at offers slot) pairs) kinds
  least_ways [] = refl
  least_ways (kind ∷ kinds) = elim (is_offered (offer_at offers slot) kind) as (λ b. least (map (entry_cost offers) (filter (breaks (everywhere pairs)) (map at_slot (if b then kind ∷ filter (is_offered (offer_at offers slot)) kinds else filter (is_offered (offer_at offers slot)) kinds)))) ≡ lesser_of (if b && not (fits pairs kind) then Some (kind_cost (offer_at offers slot) kind) else None) (least_of (break_cost (offer_at offers slot) pairs) kinds)) [
    | true ↦ elim (fits pairs kind) as (λ b. least (map (entry_cost offers) (if not b then at_slot kind ∷ ways kinds else ways kinds)) ≡ lesser_of (if not b then Some (kind_cost (offer_at offers slot) kind) else None) (least_of (break_cost (offer_at offers slot) pairs) kinds)) [
      | true ↦ least_ways kinds
      | false ↦ ap (λ n. Some (lesser (kind_cost (offer_at offers slot) kind) n)) (least_ways kinds)
    ]
    | false ↦ least_ways kinds
  ]

  pub some_way : (kinds : List (Option Kind)) → not (is_empty (ways kinds)) ≡ list_any (is_break (offer_at offers slot) pairs) kinds
  some_way [] = refl
  some_way (kind ∷ kinds) = elim (is_offered (offer_at offers slot) kind) as (λ b. not (is_empty (filter (breaks (everywhere pairs)) (map at_slot (if b then kind ∷ filter (is_offered (offer_at offers slot)) kinds else filter (is_offered (offer_at offers slot)) kinds)))) ≡ (b && not (fits pairs kind) || list_any (is_break (offer_at offers slot) pairs) kinds)) [
    | true ↦ elim (fits pairs kind) as (λ b. not (is_empty (if not b then at_slot kind ∷ ways kinds else ways kinds)) ≡ (not b || list_any (is_break (offer_at offers slot) pairs) kinds)) [
      | true ↦ some_way kinds
      | false ↦ refl
    ]
    | false ↦ some_way kinds
  ]

pub some_break : (offers : Offers) (pairs : Pairs) (slot : Slot) (decided : Option (Option Kind)) → is_none decided ≡ true
    → list_any (is_break (offer_at offers slot) pairs) all_options ≡ not (is_empty (breaking_ways offers (everywhere pairs) slot decided))
some_break offers pairs slot None free = sym (some_way offers pairs slot all_options)
some_break offers pairs slot (Some kind) free = absurd (cc)

pub least_break_at : (offers : Offers) (pairs : Pairs) (slot : Slot) (decided : Option (Option Kind)) → is_none decided ≡ true
    → least_of (break_cost (offer_at offers slot) pairs) all_options
    ≡ least (map (entry_cost offers) (breaking_ways offers (everywhere pairs) slot decided))
least_break_at offers pairs slot None free = sym (least_ways offers pairs slot all_options)
least_break_at offers pairs slot (Some kind) free = absurd (cc)
