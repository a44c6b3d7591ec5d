-- A test has few FENCEs, so that what they cost is a number of JSON.
use Rattle.std.proofs.Common.{◌≡◌, ◌≤◌, ◌+◌, ◌*◌, ℕ, List, [], ◌∷◌, All, ap, sym, subst, ◌∙◌, arith, map, filter, flat_map, length}
use Rattle.std.specs.List.{enumerate_from, range_with_len}
use Rattle.std.proofs.lemmas.List.{length-append, length-map}
use Rattle.std.proofs.lemmas.List.Concat.{flat_map-cons}
use Rattle.std.proofs.lemmas.List.Elements.{All-head, All-tail}
use Rattle.std.proofs.lemmas.List.FromFn.{length-range_with_len}
use Rattle.std.proofs.lemmas.List.Sums.{count_by-le-length, length-filter}
use Rattle.fs_instr.specs.declared.instr.Instr.{Instr}
use Rattle.fs_kinds.specs.Limits.{most_harts, most_instructions}
use Rattle.fs_kinds.specs.PriceTable.{PriceTable}
use Rattle.fs_model.specs.Slots.{slot_at}
use Rattle.fs_model.specs.Test.{IsBounded}
use Rattle.fs_model.specs.declared.test.Test.{Test}
use Rattle.fs_model_laws.specs.InPlace.{is_place, places, places_in}
use Rattle.fs_board_offers.specs.Offers.{Offers}
use Rattle.fs_app_audit.specs.InPlace.{offer_in_place, offers_in_place}

few_in : (hart : ℕ) (code : List Instr) → length (places_in hart code) ≤ length code
few_in hart code =
    let numbers = range_with_len 0 (length code) in
    let kept = filter (is_place code) numbers in
    omega (arith, length-map kept (slot_at hart), length-filter (is_place code) numbers, count_by-le-length (is_place code) numbers, length-range_with_len 0 (length code))

few_from : (n : ℕ) (codes : List (List Instr)) → All (λ code. length code ≤ most_instructions) codes
    → length (flat_map (λ numbered. places_in numbered.0 numbered.1) (enumerate_from n codes)) ≤ most_instructions * length codes
few_from n [] h = omega arith
few_from n (code ∷ codes) h =
    let rest = flat_map (λ numbered. places_in numbered.0 numbered.1) (enumerate_from (n + 1) codes) in
    let first = few_in n code in
    let small = All-head (λ code. length code ≤ most_instructions) code codes h in
    let below = few_from (n + 1) codes (All-tail (λ code. length code ≤ most_instructions) code codes h) in
    let split = ap length (flat_map-cons (λ numbered. places_in numbered.0 numbered.1) (n, code) (enumerate_from (n + 1) codes)) in
    omega (arith, split, length-append (places_in n code) rest, first, small, below)

pub few : (prices : PriceTable) (t : Test) (os : Offers) → IsBounded t → os ≡ offers_in_place prices t.codes → length os ≤ 256
few prices t os bounded is =
    let all = few_from 0 t.codes bounded.lengths in
    let same = ap length is ∙ length-map (places t.codes) (offer_in_place prices t.codes) in
    omega (arith, all, same, bounded.harts)
