-- Items one after another.
use denote.Ref.{Bor}
use Rattle.std.proofs.Common.{rules, refl, sym, ap, subst, ◌∙◌, ◌≡◌, ◌<◌, ◌+◌, suc, drop, length, get_or, ℕ, Option, Some, None, option_map, option_and_then, List, [], ◌∷◌, ◌++◌, map, arith, append_assoc}
use Rattle.std.specs.Str.{trim}
use Rattle.std.proofs.Math.Seq.{drop-cons}
use Rattle.std.proofs.lemmas.List.{map-append}
use Rattle.fs_app_states.specs.declared.log.Item.{Item}
use Rattle.fs_app_states.specs.Blocks.{item_now}
use Rattle.fs_app_states.specs.Lines.{item_of, items_in}

abbrev pub Pair : Type 0
Pair = List ℕ × List ℕ

-- the items, and behind them those of other pieces
abbrev pub joined : List Pair → Option (List Pair) → Option (List Pair)
joined items = option_map (λ more. items ++ more)

step : (items : List Pair) (item : Pair) (found : Option Pair) (more : Option (List Pair)) → found ≡ Some item
    → joined items (option_and_then (λ item. option_map (λ items. item ∷ items) more) found) ≡ joined (items ++ item ∷ []) more
step items item None more e = absurd (cc)
step items item (Some x) None e = refl
step items item (Some x) (Some others) e = grind (arith, append_assoc)

drop_at : {A : Type 0} (xs : List A) (i : ℕ) (d : A) → i < length xs → drop i xs ≡ get_or xs i d ∷ drop (i + 1) xs
drop_at xs i d low = let same : suc i ≡ i + 1 = omega arith in subst (λ m. drop i xs ≡ get_or xs i d ∷ drop m xs) same (drop-cons xs i d low)

one_more : (pieces : List (List ℕ)) (piece : List ℕ) (items : List Pair) (item : Pair) → item_of (trim piece) ≡ Some item
    → joined items (items_in (piece ∷ pieces)) ≡ joined (items ++ item ∷ []) (items_in pieces)
one_more pieces piece items item e = step items item (item_of (trim piece)) (items_in pieces) e

pub stepped : (pieces : List (Bor (List ℕ))) (i : ℕ) (d : Bor (List ℕ)) (items next : List Item) (item : Item) (found : Option Item) (text : List ℕ)
    → i < length pieces → text ≡ trim (get_or pieces i d).now → option_map item_now found ≡ item_of text → found ≡ Some item
    → next ≡ items ++ item ∷ []
    → items_in (map (λ piece. piece.now) pieces) ≡ joined (map item_now items) (items_in (map (λ piece. piece.now) (drop i pieces)))
    → items_in (map (λ piece. piece.now) pieces) ≡ joined (map item_now next) (items_in (map (λ piece. piece.now) (drop (i + 1) pieces)))
stepped pieces i d items next item found text low trimmed is_item is_found is_next before =
    let here = drop_at pieces i d low in
    let read : item_of (trim (get_or pieces i d).now) ≡ Some (item_now item) = ap item_of (sym trimmed) ∙ sym is_item ∙ ap (option_map item_now) is_found in
    let one = one_more (map (λ piece. piece.now) (drop (i + 1) pieces)) (get_or pieces i d).now (map item_now items) (item_now item) read in
    let names : map item_now next ≡ map item_now items ++ item_now item ∷ [] = ap (map item_now) is_next ∙ map-append item_now items (item ∷ []) in
    before ∙ ap (λ rest. joined (map item_now items) (items_in (map (λ piece. piece.now) rest))) here ∙ one
    ∙ ap (λ names. joined names (items_in (map (λ piece. piece.now) (drop (i + 1) pieces)))) (sym names)
