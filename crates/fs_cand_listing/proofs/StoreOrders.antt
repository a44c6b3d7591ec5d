-- The orders of a location's stores are those of the list.
use Rattle.std.proofs.Common.{◌≡◌, ℕ, suc, ◌+◌, ◌<◌, ◌==◌, Bool, true, false, Some, List, [], ◌∷◌, length, refl, ap, sym, subst, ◌∙◌, arith, inl, inr}
use Rattle.std.specs.Prelude.{is_some, if◌then◌else◌}
use Rattle.std.specs.List.{list_any, slice_index_or}
use Rattle.std.proofs.lemmas.Bool.{false≢true, cases_lt, cases_eq, and_parts, and_from, or_cases, eq-eqb, eqb-true}
use Rattle.std.proofs.lemmas.List.{length-map}
use Rattle.fs_model.specs.declared.test.Test.{Test}
use Rattle.fs_model.specs.Test.{address_of}
use Rattle.fs_model.specs.Numbers.{has_number, is_same, numbers_below, stands_before}
use Rattle.fs_model.specs.Operations.{PreExecution, accesses, operations, operation, is_store}
use Rattle.fs_model.specs.Shows.{is_store_to}
use Rattle.fs_model.proofs.OptionalNumbers.{same_parts, same_from}
use Rattle.fs_model.proofs.ListedNumbers.{AreOnce, has-here, has-later, has-cases, has-range, range-has, once-range, all_at, all_from}
use Rattle.fs_model.proofs.FilteredNumbers.{filter_has, in_filter, once-filter}
use Rattle.fs_model.proofs.CountedNumbers.{as_long, no_others, each_once, IsWithin}
use Rattle.fs_model.proofs.Pigeonhole.{IsAmong}
use Rattle.fs_model.proofs.WhichOperation.{initial_is, length_operations}
use Rattle.fs_cert_evidence.specs.Candidates.{Candidate, IsRaw, runs_of, co, stores_to, is_store_order, stores_in}
use Rattle.fs_cand_listing.specs.Ways.{orders}
use Rattle.fs_cand_listing.specs.RawCandidates.{own_stores, store_orders}
use Rattle.fs_cand_listing.proofs.Among.{among-map, map-among}
use Rattle.fs_cand_listing.proofs.Ordering.{AreSome, order_listed, listed_order}
use Rattle.fs_cand_listing.proofs.Sources.{address_past}

module _ (x : PreExecution) (k : ℕ) (low : k < length x.words) where
  abbrev first : ℕ
  first = length (accesses x) + k

  abbrev all : List ℕ
  all = stores_in x k

  abbrev own : List ℕ
  own = own_stores x k

  all_once : AreOnce all
  all_once = once-filter (is_store_to x k) (numbers_below (length (operations x))) (once-range 0 (length (operations x)))

  pub own_once : AreOnce own
  own_once = once-filter (is_store_to x k) (numbers_below (length (accesses x))) (once-range 0 (length (accesses x)))

  first_stores : is_store_to x k first ≡ true
  first_stores =
      let is = initial_is x first k refl low in
      and_from (is_store x first) (is_same (operation x first).address (Some (address_of k))) (ap (λ o. is_some o.stored) is)
      (same_from (operation x first).address (Some (address_of k)) (address_of k) (ap (λ o. o.address) is) refl)

  first_there : has_number all first ≡ true
  first_there =
      in_filter (is_store_to x k) (numbers_below (length (operations x))) first
      (let long = length_operations x in has-range 0 (length (operations x)) first (omega arith) (omega (arith, long, low)))
      first_stores

  own_low : (b : ℕ) → has_number own b ≡ true → b < length (accesses x)
  own_low b there =
      let parts = filter_has (is_store_to x k) (numbers_below (length (accesses x))) b there in
      let range = range-has 0 (length (accesses x)) b parts.0 in
      omega (arith, range.1)

  own_there : (b : ℕ) → has_number own b ≡ true → has_number all b ≡ true
  own_there b there =
      let parts = filter_has (is_store_to x k) (numbers_below (length (accesses x))) b there in
      let range = range-has 0 (length (accesses x)) b parts.0 in
      let long = length_operations x in
      in_filter (is_store_to x k) (numbers_below (length (operations x))) b
      (has-range 0 (length (operations x)) b (omega arith) (omega (arith, range.1, long))) parts.1

  -- a store to the location is the initial one or a hart's
  there_cases : (b : ℕ) → has_number all b ≡ true → (b ≡ first → ⊥) → has_number own b ≡ true
  there_cases b there other =
      let parts = filter_has (is_store_to x k) (numbers_below (length (operations x))) b there in
      let stores = and_parts (is_store x b) (is_same (operation x b).address (Some (address_of k))) parts.1 in
      elim (cases_lt b (length (accesses x))) [
        | inl access ↦ in_filter (is_store_to x k) (numbers_below (length (accesses x))) b
            (has-range 0 (length (accesses x)) b (omega arith) (omega (arith, access))) parts.1
        | inr past ↦ (
            let at = address_past x b past stores.0 in
            let same = same_parts (operation x b).address (Some (address_of k)) stores.1 in
            let one : Some (address_of at.0) ≡ Some (address_of k) = sym at.2 ∙ same.1 ∙ sym same.2 in
            let numbers : address_of at.0 ≡ address_of k = cc in
            let place = at.1 in
            absurd (other (omega (arith, place, numbers))))
      ]

  one_more : length all ≡ suc (length own)
  one_more =
      as_long all (first ∷ own) all_once ((λ there. let l = own_low first there in omega (arith, l)), own_once)
      (λ b there. elim (cases_eq first b) [
        | inl same ↦ has-here first own b same
        | inr other ↦ has-later first own b (there_cases b there (λ e. other (sym e)))
      ])
      (λ b there. elim (has-cases first own b there) [
        | inl same ↦ subst (λ (z : ℕ). has_number all z ≡ true) same first_there
        | inr later ↦ own_there b later
      ])

  pub order_in_list : (order : List ℕ) → is_store_order x k order ≡ true → IsAmong (store_orders x k) order
  order_in_list [] h = absurd (false≢true h)
  order_in_list (n ∷ ys) h =
      let parts = and_parts _ _ h in
      let fore = and_parts (is_same (Some n) (Some first)) (length (n ∷ ys) == length all) parts.0 in
      let heads : n ≡ first = eqb-true n first fore.0 in
      let long : length (n ∷ ys) ≡ length all = eqb-true (length (n ∷ ys)) (length all) fore.1 in
      let within : IsWithin all (n ∷ ys) = λ b there. all_at (has_number (n ∷ ys)) all b parts.1 there in
      let once = each_once all (n ∷ ys) all_once within long in
      let more = one_more in
      let some : AreSome (length own) own ys = record {
        long = omega (arith, long, more);
        once = once.1;
        within = λ b there. there_cases b (no_others all (n ∷ ys) all_once within long b (has-later n ys b there))
            (λ same. once.0 (subst (λ (z : ℕ). has_number ys z ≡ true) (same ∙ sym heads) there));
      } in
      subst (λ (m : ℕ). IsAmong (store_orders x k) (m ∷ ys)) (sym heads)
      (among-map (λ stores. first ∷ stores) (orders own) ys (order_listed (length own) own ys some))

  in_list_order : (ys : List ℕ) → AreSome (length own) own ys → is_store_order x k (first ∷ ys) ≡ true
  in_list_order ys some =
      let more = one_more in
      let have = no_others ys own some.once some.within (sym some.long) in
      and_from _ _
      (and_from (is_same (Some first) (Some first)) (length (first ∷ ys) == length all) (eq-eqb first first refl)
      (eq-eqb (length (first ∷ ys)) (length all) (let long = some.long in omega (arith, long, more))))
      (all_from (has_number (first ∷ ys)) all (λ b there. elim (cases_eq first b) [
        | inl same ↦ has-here first ys b same
        | inr other ↦ has-later first ys b (have b (there_cases b there (λ e. other (sym e))))
      ]))

  pub list_has_order : (order : List ℕ) → IsAmong (store_orders x k) order → is_store_order x k order ≡ true
  list_has_order order p =
      let from = map-among (λ stores. first ∷ stores) (orders own) order p in
      subst (λ (o : List ℕ). is_store_order x k o ≡ true) (sym from.2) (in_list_order from.0 (listed_order (length own) own from.0 from.1))

  -- its numbers are those of operations
  pub in_order_low : (order : List ℕ) (b : ℕ) → is_store_order x k order ≡ true → has_number order b ≡ true → b < length (operations x)
  in_order_low order b h there =
      let from = map-among (λ stores. first ∷ stores) (orders own) order (order_in_list order h) in
      let some = listed_order (length own) own from.0 from.1 in
      let long = length_operations x in
      elim (has-cases first from.0 b (subst (λ (o : List ℕ). has_number o b ≡ true) from.2 there)) [
        | inl same ↦ omega (arith, same, long, low)
        | inr later ↦ (let l = own_low b (some.within b later) in omega (arith, l, long))
      ]

-- ---- of candidates

stands_second : (ns : List ℕ) (a b : ℕ) → stands_before ns a b ≡ true → has_number ns b ≡ true
stands_second [] a b h = h
stands_second (n ∷ ns) a b h = by_case (n == a) (stands_second ns a b) h
  where
    by_case : (here : Bool) → (stands_before ns a b ≡ true → has_number ns b ≡ true)
        → (if here then has_number ns b else stands_before ns a b) ≡ true → has_number (n ∷ ns) b ≡ true
    by_case true rest there = has-later n ns b there
    by_case false rest there = has-later n ns b (rest there)

some_order : (orders : List (List ℕ)) (f : List ℕ → Bool) → list_any f orders ≡ true
    → (k : ℕ) × (k < length orders) × (f (slice_index_or orders k []) ≡ true)
some_order [] f h = absurd (false≢true h)
some_order (o ∷ os) f h = elim (or_cases (f o) (list_any f os) h) [
  | inl here ↦ (0, omega arith, here)
  | inr later ↦ (let rest = some_order os f later in (suc rest.0, (let low = rest.1 in omega (arith, low)), rest.2))
]

-- what comes later in coherence order is an operation
pub order_below : (t : Test) (c : Candidate) → IsRaw t c → (a b : ℕ) → co c a b ≡ true → b < length (operations (runs_of t c))
order_below t c raw a b h =
    let at = some_order c.store_order (λ stores. stands_before stores a b) h in
    let locations = raw.locations in
    let low : at.0 < length t.locations = (let l = at.1 in omega (arith, l, locations)) in
    let long = length-map t.locations (λ location. location.word) in
    in_order_low (runs_of t c) at.0 (omega (arith, low, long)) (stores_to c at.0) b (raw.orders at.0 low)
    (stands_second (stores_to c at.0) a b at.2)
