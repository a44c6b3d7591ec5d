-- A placement that breaks executions pays for each of them, where no slot serves two.
use Rattle.std.proofs.Common.{◌≡◌, ℕ, ◌+◌, ◌≤◌, ◌==◌, min, nat_lt, nat_le, Bool, true, false, cond, ◌&&◌, ◌||◌, not, Option, None, Some, option_map, List, [], ◌∷◌, map, inl, inr, refl, sym, ap, ap₂, subst, ◌∙◌, lit<, arith}
use Rattle.std.specs.List.{list_all, list_any, filter, flat_map, AllByRecursion}
use Rattle.std.proofs.lemmas.Bool.{and_parts, and_cases, and_from, and_right, or_cases, or_parts, or_left, or_right, or_from, eqb-true, ltb-true, leb-true, le-leb, false≢true, true≢false, false_from_ne_true}
use Rattle.std.proofs.lemmas.List.Folds.{list_any_at, list_any-append}
use Rattle.std.proofs.lemmas.List.Sums.{sum_by-cons}
use Rattle.fs_kinds.specs.declared.kind.Kind.{Kind}
use Rattle.fs_kinds.specs.declared.kind.Kind.TheVariants.{RR, RW, RRw, WR, WW, WRw, RwR, RwW, RwRw, Tso}
use Rattle.fs_kinds.specs.declared.placement.Entry.{Entry}
use Rattle.fs_kinds.specs.declared.slot.Slot.{Slot}
use Rattle.fs_kinds.specs.Kind.{is_subset, all_kinds}
use Rattle.fs_kinds.specs.Placement.{pairs_kept}
use Rattle.fs_board_offers.specs.Offers.{precedes, Offers, entry_cost, cost, is_offered, are_offered, is_better, Offer, options, offer_at, is_offered_at}
use Rattle.fs_cert_evidence.specs.Widths.{Width}
use Rattle.fs_board_offers.specs.Parts.{Part, Decision, floor, is_under}
use Rattle.fs_board_offers.specs.Pruning.{breaks, breaking_at, is_empty, is_breakable, least, least_break, share_a_slot, are_apart, sum_of, lower_bound, is_no_better, is_pruned, first_at}
use Rattle.fs_board_offers.specs.Bounds.{IsNoBetter}
use Rattle.fs_model_laws.proofs.Ranked.{first-cases, entry_of}
use Rattle.fs_board_offers.proofs.Floors.{decision, floor_entry, IsEntryOf, under-parts, decided-entry, none-free, first-before}

-- ---- lists

any-map : {X Y : Type 0} (p : Y → Bool) (h : X → Y) (xs : List X) → list_any p (map h xs) ≡ list_any (λ x. p (h x)) xs
any-map p h [] = refl
any-map p h (x ∷ xs) = ap (λ b. p (h x) || b) (any-map p h xs)

picked : {X : Type 0} (f p : X → Bool) (x : X) (xs : List X) (here : Bool) → (list_any p (filter f xs) ≡ true → list_any p (cond here (x ∷ filter f xs) (filter f xs)) ≡ true)
picked f p x xs true h = or_right (p x) _ h
picked f p x xs false h = h

picked-first : {X : Type 0} (p : X → Bool) (x : X) (xs : List X) (here : Bool) → (here && p x) ≡ true → list_any p (cond here (x ∷ xs) xs) ≡ true
picked-first p x xs true h = or_left (p x) _ h
picked-first p x xs false h = absurd (false≢true h)

any-filter : {X : Type 0} (f p : X → Bool) (xs : List X) → list_any (λ x. f x && p x) xs ≡ true → list_any p (filter f xs) ≡ true
any-filter f p [] found = found
any-filter f p (x ∷ xs) found = elim (or_cases _ _ found) [
  | inl here ↦ picked-first p x (filter f xs) (f x) here
  | inr there ↦ picked f p x xs (f x) (any-filter f p xs there)
]

-- ---- the least of some numbers

least-more : (n m : ℕ) (ms : List ℕ) (k : ℕ) → least (m ∷ ms) ≡ Some k → least (n ∷ m ∷ ms) ≡ Some (min n k)
least-more n m ms k is = ap (option_map (min n)) is

least-some : (n : ℕ) (ns : List ℕ) → (k : ℕ) × (least (n ∷ ns) ≡ Some k)
least-some n [] = (n, refl)
least-some n (m ∷ ms) = let rest = least-some m ms in (min n rest.0, least-more n m ms rest.0 rest.1)

abbrev IsAtMost : Option ℕ → ℕ → Type 0
IsAtMost least m = (n : ℕ) × (least ≡ Some n) × (n ≤ m)

least-at-most : {X : Type 0} (f : X → ℕ) (m : ℕ) (xs : List X)
    → list_any (λ x. nat_le (f x) m) xs ≡ true → IsAtMost (least (map f xs)) m
least-at-most f m [] found = absurd (false≢true found)
least-at-most f m (x ∷ []) found = elim (or_cases (nat_le (f x) m) false found) [
  | inl here ↦ (f x, refl, leb-true (f x) m here)
  | inr none ↦ absurd (false≢true none)
]
least-at-most {X} f m (x ∷ y ∷ xs) found = elim (or_cases (nat_le (f x) m) (list_any (λ z. nat_le (f z) m) (y ∷ xs)) found) [
  | inl here ↦ (
      let rest = least-some (f y) (map f xs) in
      let low = leb-true (f x) m here in
      (min (f x) rest.0, least-more (f x) (f y) (map f xs) rest.0 rest.1, omega (arith, low))
      )
  | inr there ↦ (
      let rest = least-at-most f m (y ∷ xs) there in
      let low = rest.2 in
      (min (f x) rest.0, least-more (f x) (f y) (map f xs) rest.0 rest.1, omega (arith, low))
      )
]

-- ---- one execution

-- the placement is within the width
abbrev pub fits : Width → Entry → Bool
fits w entry = is_subset (pairs_kept entry.kind) (w entry.slot)

abbrev pub is_within : Width → List Entry → Bool
is_within w = list_all (fits w)

in-kinds : (p : Option Kind → Bool) (kind : Kind) → p (Some kind) ≡ true → list_any p (map (λ kind. Some kind) all_kinds) ≡ true
in-kinds p RR h = list_any_at p (map (λ kind. Some kind) all_kinds) 0 None (lit< tt) h
in-kinds p RW h = list_any_at p (map (λ kind. Some kind) all_kinds) 1 None (lit< tt) h
in-kinds p RRw h = list_any_at p (map (λ kind. Some kind) all_kinds) 2 None (lit< tt) h
in-kinds p WR h = list_any_at p (map (λ kind. Some kind) all_kinds) 3 None (lit< tt) h
in-kinds p WW h = list_any_at p (map (λ kind. Some kind) all_kinds) 4 None (lit< tt) h
in-kinds p WRw h = list_any_at p (map (λ kind. Some kind) all_kinds) 5 None (lit< tt) h
in-kinds p RwR h = list_any_at p (map (λ kind. Some kind) all_kinds) 6 None (lit< tt) h
in-kinds p RwW h = list_any_at p (map (λ kind. Some kind) all_kinds) 7 None (lit< tt) h
in-kinds p RwRw h = list_any_at p (map (λ kind. Some kind) all_kinds) 8 None (lit< tt) h
in-kinds p Tso h = list_any_at p (map (λ kind. Some kind) all_kinds) 9 None (lit< tt) h

pub some-any : (es : List Entry) → list_any (λ e. true) es ≡ true → not (is_empty es) ≡ true
some-any [] found = absurd (false≢true found)
some-any (e ∷ es) found = refl

-- a width that the floor is within and the completion isn't
pub record IsBroken (part : Part) (q : List Entry) (w : Width) : Type 0 where
  pub floor : is_within w (floor part) ≡ true
  pub broken : is_within w q ≡ false

module _ (offer : Offer) where
  pub in-options : (p : Option Kind → Bool) (kind : Option Kind) → is_offered offer kind ≡ true → p kind ≡ true
      → list_any p (options offer) ≡ true
  in-options p None offered h = or_left (p None) _ h
  in-options p (Some kind) offered h =
      or_right (p None) _
      (any-filter (is_offered offer) p (map (λ kind. Some kind) all_kinds)
      (in-kinds (λ k. is_offered offer k && p k) kind (and_from _ _ offered h)))

module _ (offers : Offers) where
  -- an offered kind that breaks the execution is among those that may be put at an undecided slot
  pub in-breaking : (w : Width) (e : Entry) → is_offered_at offers e ≡ true → breaks w e ≡ true → (p : Entry → Bool) → p e ≡ true
      → list_any p (breaking_at offers w (decision e.slot None)) ≡ true
  in-breaking w e offered broken p h =
      any-filter (breaks w) p (map (entry_of e.slot) (options (offer_at offers e.slot)))
      (any-map (λ f. breaks w f && p f) (entry_of e.slot) (options (offer_at offers e.slot))
      ∙ in-options (offer_at offers e.slot) (λ kind. breaks w (entry_of e.slot kind) && p (entry_of e.slot kind)) e.kind offered (and_from _ _ broken h))

  -- what a completion pays at the slots that pass
  abbrev pub paid : (Decision → Bool) → Part → List Entry → ℕ
  paid test [] q = 0
  paid test (d ∷ part) [] = 0
  paid test (d ∷ part) (e ∷ q) = cond (test d) (entry_cost offers e) 0 + paid test part q

  -- an entry that breaks the execution, at an undecided slot
  record BreaksAt (w : Width) (d : Decision) (e : Entry) : Type 0 where
    among : (p : Entry → Bool) → p e ≡ true → list_any p (breaking_at offers w d) ≡ true
    breakable : is_breakable offers w d ≡ true

  breaks-at : (w : Width) (s : Slot) (decided : Option (Option Kind)) (e : Entry) → IsEntryOf (decision s decided) e
      → is_offered_at offers e ≡ true → breaks w (floor_entry (decision s decided)) ≡ false → breaks w e ≡ true
      → BreaksAt w (decision s decided) e
  breaks-at w s (Some kind) e is offered floor broken =
      absurd (false≢true (sym floor ∙ ap (breaks w) (decided-entry s kind e is) ∙ broken))
  breaks-at w s None e is offered floor broken = subst (λ u. BreaksAt w (decision u None) e) (sym is.slot) (record {
    among = in-breaking w e offered broken;
    breakable = some-any (breaking_at offers w (decision e.slot None)) (in-breaking w e offered broken (λ f. true) refl);
  })

  -- such an entry among those of a completion
  record Breaking (w : Width) (part : Part) (q : List Entry) : Type 0 where
    entry : Entry
    among : (p : Entry → Bool) → p entry ≡ true → list_any p (flat_map (breaking_at offers w) part) ≡ true
    paid_for : entry_cost offers entry ≤ paid (is_breakable offers w) part q

  pays-first : (b : Bool) (n rest : ℕ) → b ≡ true → n ≤ cond b n 0 + rest
  pays-first true n rest h = omega arith
  pays-first false n rest h = absurd (false≢true h)

  pays-later : (n m rest : ℕ) → n ≤ rest → n ≤ m + rest
  pays-later n m rest low = omega (arith, low)

  breaking-first : (w : Width) (d : Decision) (part : Part) (e : Entry) (q : List Entry) → BreaksAt w d e
      → Breaking w (d ∷ part) (e ∷ q)
  breaking-first w d part e q at = record {
    entry = e;
    among = λ p h. list_any-append p (breaking_at offers w d) (flat_map (breaking_at offers w) part) ∙ or_left _ _ (at.among p h);
    paid_for = pays-first (is_breakable offers w d) (entry_cost offers e) (paid (is_breakable offers w) part q) at.breakable;
  }

  breaking-later : (w : Width) (d : Decision) (part : Part) (e : Entry) (q : List Entry) → Breaking w part q
      → Breaking w (d ∷ part) (e ∷ q)
  breaking-later w d part e q later = record {
    entry = later.entry;
    among = λ p h. list_any-append p (breaking_at offers w d) (flat_map (breaking_at offers w) part) ∙ or_right _ _ (later.among p h);
    paid_for = pays-later (entry_cost offers later.entry) (cond (is_breakable offers w d) (entry_cost offers e) 0)
        (paid (is_breakable offers w) part q) later.paid_for;
  }

  breaking : (w : Width) (part : Part) (q : List Entry) → is_under part q ≡ true → are_offered offers q ≡ true
      → is_within w (floor part) ≡ true → is_within w q ≡ false → Breaking w part q
  breaking w [] [] under offered floor broken = absurd (true≢false broken)
  breaking w [] (e ∷ q) under offered floor broken = absurd (false≢true under)
  breaking w (d ∷ part) [] under offered floor broken = absurd (false≢true under)
  breaking w (d ∷ part) (e ∷ q) under offered floor broken =
      let parts = under-parts d part e q under in
      let first = and_parts (fits w (floor_entry d)) _ floor in
      let kinds = and_parts (is_offered_at offers e) _ offered in
      elim (and_cases _ _ broken) [
        | inl here ↦ breaking-first w d part e q
            (breaks-at w d.slot d.decided e parts.entry kinds.0 (ap not first.0) (ap not here))
        | inr there ↦ breaking-later w d part e q (breaking w part q parts.rest kinds.1 first.1 there)
      ]

  -- so the least break is no more than what it pays at the breakable slots
  least-paid : (w : Width) (part : Part) (q : List Entry) → is_under part q ≡ true → are_offered offers q ≡ true
      → is_within w (floor part) ≡ true → is_within w q ≡ false
      → IsAtMost (least_break offers part w) (paid (is_breakable offers w) part q)
  least-paid w part q under offered floor broken =
      let found = breaking w part q under offered floor broken in
      let m = paid (is_breakable offers w) part q in
      least-at-most (entry_cost offers) m (flat_map (breaking_at offers w) part)
      (found.among (λ e. nat_le (entry_cost offers e) m) (le-leb (entry_cost offers found.entry) m found.paid_for))

  -- ---- several executions

  pays-both : (a b : Bool) (n : ℕ) → (a && b) ≡ false → cond a n 0 + cond b n 0 ≤ cond (a || b) n 0
  pays-both true true n apart = absurd (true≢false apart)
  pays-both true false n apart = omega arith
  pays-both false true n apart = omega arith
  pays-both false false n apart = omega arith

  four : (a b c x y z : ℕ) → a + b ≤ c → x + y ≤ z → (a + x) + (b + y) ≤ c + z
  four a b c x y z first second = omega (arith, first, second)

  paid-apart : (f g : Decision → Bool) (part : Part) (q : List Entry) → list_any (λ d. f d && g d) part ≡ false
      → paid f part q + paid g part q ≤ paid (λ d. f d || g d) part q
  paid-apart f g [] q apart = omega arith
  paid-apart f g (d ∷ part) [] apart = omega arith
  paid-apart f g (d ∷ part) (e ∷ q) apart =
      let parts = or_parts (f d && g d) _ apart in
      let n = entry_cost offers e in
      four (cond (f d) n 0) (cond (g d) n 0) (cond (f d || g d) n 0)
      (paid f part q) (paid g part q) (paid (λ d. f d || g d) part q)
      (pays-both (f d) (g d) n parts.0) (paid-apart f g part q parts.1)

  abbrev pub is_breakable_for : List Width → Decision → Bool
  is_breakable_for ws d = list_any (λ w. is_breakable offers w d) ws

  never-both : (f : Decision → Bool) (part : Part) → list_any (λ d. f d && false) part ≡ false
  never-both f [] = refl
  never-both f (d ∷ part) = or_from _ _ (and_right (f d) false refl) (never-both f part)

  either-false : (a b c : Bool) → (a && b) ≡ false → (a && c) ≡ false → (a && (b || c)) ≡ false
  either-false true b c h k = or_from b c h k
  either-false false b c h k = refl

  never-either : (f g h : Decision → Bool) (part : Part) → list_any (λ d. f d && g d) part ≡ false
      → list_any (λ d. f d && h d) part ≡ false → list_any (λ d. f d && (g d || h d)) part ≡ false
  never-either f g h [] first second = refl
  never-either f g h (d ∷ part) first second =
      let one = or_parts (f d && g d) _ first in
      let other = or_parts (f d && h d) _ second in
      or_from _ _ (either-false (f d) (g d) (h d) one.0 other.0) (never-either f g h part one.1 other.1)

  apart-from-all : (part : Part) (w : Width) (ws : List Width) → list_any (share_a_slot offers part w) ws ≡ false
      → list_any (λ d. is_breakable offers w d && is_breakable_for ws d) part ≡ false
  apart-from-all part w [] apart = never-both (is_breakable offers w) part
  apart-from-all part w (v ∷ ws) apart =
      let parts = or_parts (share_a_slot offers part w v) _ apart in
      never-either (is_breakable offers w) (is_breakable offers v) (is_breakable_for ws) part parts.0 (apart-from-all part w ws parts.1)

  sum-paid : (k l c x y z : ℕ) → k ≤ x → l ≤ c + y → x + y ≤ z → k + l ≤ c + z
  sum-paid k l c x y z first second third = omega (arith, first, second, third)

  bound-paid : (part : Part) (q : List Entry) → is_under part q ≡ true → are_offered offers q ≡ true
      → (ws : List Width) → AllByRecursion (IsBroken part q) ws → are_apart offers part ws ≡ true
      → IsAtMost (lower_bound offers part ws) (cost offers (floor part) + paid (is_breakable_for ws) part q)
  bound-paid part q under offered [] each apart = (cost offers (floor part), refl, omega arith)
  bound-paid part q under offered (w ∷ ws) each apart =
      let here = least-paid w part q under offered each.0.floor each.0.broken in
      let parts = and_parts (not (list_any (share_a_slot offers part w) ws)) (are_apart offers part ws) apart in
      let rest = bound-paid part q under offered ws each.1 parts.1 in
      let disjoint = apart-from-all part w ws (not-false (list_any (share_a_slot offers part w) ws) parts.0) in (
        here.0 + rest.0,
        ap₂ sum_of here.1 rest.1,
        sum-paid here.0 rest.0 (cost offers (floor part)) (paid (is_breakable offers w) part q) (paid (is_breakable_for ws) part q)
            (paid (is_breakable_for (w ∷ ws)) part q) here.2 rest.2
            (paid-apart (is_breakable offers w) (is_breakable_for ws) part q disjoint),
      )
    where
      not-false : (b : Bool) → not b ≡ true → b ≡ false
      not-false true h = absurd (false≢true h)
      not-false false h = refl

  -- ---- the floor and the breakable slots

  none-decided : (s : Slot) (kind : Option Kind) (ws : List Width) → is_breakable_for ws (decision s (Some kind)) ≡ false
  none-decided s kind [] = refl
  none-decided s kind (w ∷ ws) = none-decided s kind ws

  at-most : (b : Bool) (f n : ℕ) → f ≡ 0 → f + cond b n 0 ≤ n
  at-most true f n free = omega (arith, free)
  at-most false f n free = omega (arith, free)

  decided-most : (b : Bool) (f n : ℕ) → b ≡ false → f ≡ n → f + cond b n 0 ≤ n
  decided-most true f n none same = absurd (true≢false none)
  decided-most false f n none same = omega (arith, same)

  entry-paid : (ws : List Width) (s : Slot) (decided : Option (Option Kind)) (e : Entry) → IsEntryOf (decision s decided) e
      → entry_cost offers (floor_entry (decision s decided)) + cond (is_breakable_for ws (decision s decided)) (entry_cost offers e) 0
      ≤ entry_cost offers e
  entry-paid ws s None e is =
      at-most (is_breakable_for ws (decision s None)) (entry_cost offers (entry_of s None)) (entry_cost offers e) (none-free offers s)
  entry-paid ws s (Some kind) e is =
      decided-most (is_breakable_for ws (decision s (Some kind))) (entry_cost offers (entry_of s kind)) (entry_cost offers e)
      (none-decided s kind ws) (ap (entry_cost offers) (decided-entry s kind e is))

  add-up : (a b c x y z m n : ℕ) → m ≡ a + x → n ≡ c + z → a + b ≤ c → x + y ≤ z → m + (b + y) ≤ n
  add-up a b c x y z m n first second here later = omega (arith, first, second, here, later)

  floor-paid : (ws : List Width) (part : Part) (q : List Entry) → is_under part q ≡ true
      → cost offers (floor part) + paid (is_breakable_for ws) part q ≤ cost offers q
  floor-paid ws [] [] under = omega arith
  floor-paid ws [] (e ∷ q) under = absurd (false≢true under)
  floor-paid ws (d ∷ part) [] under = absurd (false≢true under)
  floor-paid ws (d ∷ part) (e ∷ q) under =
      let parts = under-parts d part e q under in
      add-up
      (entry_cost offers (floor_entry d)) (cond (is_breakable_for ws d) (entry_cost offers e) 0) (entry_cost offers e)
      (cost offers (floor part)) (paid (is_breakable_for ws) part q) (cost offers q)
      (cost offers (floor (d ∷ part))) (cost offers (e ∷ q))
      (sum_by-cons (entry_cost offers) (floor_entry d) (floor part)) (sum_by-cons (entry_cost offers) e q)
      (entry-paid ws d.slot d.decided e parts.entry) (floor-paid ws part q parts.rest)

  -- ---- the test

  no-better : (bound : Option (List Entry)) (part : Part) (q : List Entry) (n : ℕ) → is_under part q ≡ true → n ≤ cost offers q
      → is_no_better offers bound part (Some n) ≡ true → IsNoBetter offers bound q
  no-better None part q n under low dear = absurd (false≢true dear)
  no-better (Some p) part q n under low dear = false_from_ne_true (is_better offers q p) (λ better.
      elim (or_cases (nat_lt (cost offers p) n) _ dear) [
        | inl more ↦ (
            let less = ltb-true (cost offers p) n more in
            elim (first-cases (cost offers q) (cost offers p) (precedes offers q p) better) [
              | inl cheaper ↦ omega (arith, less, low, cheaper)
              | inr same ↦ (let equal = same.0 in omega (arith, less, low, equal))
            ]
            )
        | inr tie ↦ (
            let parts = and_parts (cost offers p == n) (not (precedes offers (first_at offers part n) p)) tie in
            let as_much = eqb-true (cost offers p) n parts.0 in
            elim (first-cases (cost offers q) (cost offers p) (precedes offers q p) better) [
              | inl cheaper ↦ omega (arith, as_much, low, cheaper)
              | inr same ↦ (
                  let equal = same.0 in
                  false≢true (sym (ap not (first-before offers part q p n under (omega (arith, equal, as_much)) same.1)) ∙ parts.1)
                  )
            ]
            )
      ])

  -- what breaks each listed execution is no better than the bound, where the part is pruned
  pub broken-no-better : (bound : Option (List Entry)) (part : Part) (q : List Entry) → is_under part q ≡ true
      → are_offered offers q ≡ true → (ws : List Width) → AllByRecursion (IsBroken part q) ws
      → is_pruned offers bound part ws ≡ true → IsNoBetter offers bound q
  broken-no-better bound part q under offered ws each pruned =
      let parts = and_parts (are_apart offers part ws) (is_no_better offers bound part (lower_bound offers part ws)) pruned in
      let lower = bound-paid part q under offered ws each parts.0 in
      let most = floor-paid ws part q under in
      let lowest = lower.2 in
      no-better bound part q lower.0 under
      (below lower.0 (cost offers (floor part) + paid (is_breakable_for ws) part q) (cost offers q) lowest most)
      (sym (ap (is_no_better offers bound part) lower.1) ∙ parts.1)
    where
      below : (a b c : ℕ) → a ≤ b → b ≤ c → a ≤ c
      below a b c first second = omega (arith, first, second)
