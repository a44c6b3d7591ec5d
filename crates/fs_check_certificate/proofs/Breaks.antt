-- What breaks a witness at a slot, and the least that it costs.
use Rattle.std.proofs.Common.{◌≡◌, ℕ, Bool, true, false, ◌&&◌, not, Option, None, Some, is_none, List, [], ◌∷◌, map, refl, sym, ap, ◌∙◌}
use Rattle.std.specs.Prelude.{if◌then◌else◌, filter, is_some}
use Rattle.fs_kinds.specs.declared.kind.Kind.{Kind}
use Rattle.fs_kinds.specs.declared.placement.Entry.{Entry}
use Rattle.fs_kinds.specs.declared.slot.Slot.{Slot}
use Rattle.fs_board_offers.specs.Offers.{Offer, Offers, is_offered, kind_cost, entry_cost, offer_at}
use Rattle.fs_board_offers.specs.Pruning.{breaks, breaking_ways, is_empty, lesser, least}
use Rattle.fs_cert_evidence.specs.Widths.{Width}
use Rattle.fs_cert_evidence.specs.Evidence.{pairs_at}
use Rattle.fs_board_offers.specs.Breaks.{fits, break_cost, lesser_of, least_of, all_options, break_at}

module _ (offers : Offers) (w : Width) (slot : Slot) where
  abbrev at_slot : Option Kind → Entry
  at_slot kind = record { slot = slot; kind = kind }

  abbrev here : Offer
  here = offer_at offers slot

  abbrev ways : List (Option Kind) → List Entry
  ways kinds = filter (breaks w) (map at_slot (filter (is_offered here) kinds))

  abbrev costs : List (Option Kind) → Option ℕ
  costs = least_of (break_cost here (pairs_at w slot))

  least_ways : (kinds : List (Option Kind)) → least (map (entry_cost offers) (ways kinds)) ≡ costs kinds
  least_ways [] = refl
  least_ways (kind ∷ kinds) = elim (is_offered here kind) as (λ b. least (map (entry_cost offers) (filter (breaks w) (map at_slot (if b then kind ∷ filter (is_offered here) kinds else filter (is_offered here) kinds)))) ≡ lesser_of (if b && not (fits (pairs_at w slot) kind) then Some (kind_cost here kind) else None) (costs kinds)) [
    | true ↦ elim (fits (pairs_at w slot) kind) as (λ b. least (map (entry_cost offers) (if not b then at_slot kind ∷ ways kinds else ways kinds)) ≡ lesser_of (if not b then Some (kind_cost here kind) else None) (costs kinds)) [
      | true ↦ least_ways kinds
      | false ↦ ap (λ n. Some (lesser (kind_cost here kind) n)) (least_ways kinds)
    ]
    | false ↦ least_ways kinds
  ]

  -- the least at an undecided slot
  break_is : break_at offers slot (pairs_at w slot) ≡ least (map (entry_cost offers) (breaking_ways offers w slot None))
  break_is = sym (least_ways all_options)

  some_least : (es : List Entry) → is_some (least (map (entry_cost offers) es)) ≡ not (is_empty es)
  some_least [] = refl
  some_least (e ∷ es) = refl

  pub some_break : (decided : Option (Option Kind)) → (is_some (break_at offers slot (pairs_at w slot)) && is_none decided) ≡ not (is_empty (breaking_ways offers w slot decided))
  some_break None = and_true (is_some (break_at offers slot (pairs_at w slot))) ∙ (ap is_some break_is ∙ some_least (breaking_ways offers w slot None))
    where
      and_true : (b : Bool) → (b && true) ≡ b
      and_true true = refl
      and_true false = refl
  some_break (Some kind) = and_false (is_some (break_at offers slot (pairs_at w slot)))
    where
      and_false : (b : Bool) → (b && false) ≡ false
      and_false true = refl
      and_false false = refl

  pub least_first : (decided : Option (Option Kind)) (rest : Option ℕ)
      → (if is_none decided then lesser_of (break_at offers slot (pairs_at w slot)) rest else rest) ≡ lesser_of (least (map (entry_cost offers) (breaking_ways offers w slot decided))) rest
  least_first None rest = ap (λ n. lesser_of n rest) break_is
  least_first (Some kind) rest = refl
