-- States, and how often each was seen.
use Rattle.std.proofs.Common.{◌≡◌, ◌∙◌, ap, sym, refl, subst, ℕ, ◌+◌, ◌<◌, List, [], ◌∷◌, ◌++◌, Bool, true, false, cond, Option, Some, None, length, take, map}
use Rattle.std.specs.Prelude.{Vec}
use Rattle.std.specs.BTreeMap.{insert_entry}
use Rattle.std.specs.Cmp.Lexicographic.{slice_cmp}
use Rattle.std.specs.List.{AllByRecursion, slice_index_or}
use Rattle.std.specs.List.Sorted.{IsStrictlySortedBy}
use Rattle.std.specs.Map.{keys_of, lookup}
use Rattle.std.specs.Ordering.{nat_cmp, is_eq, match_ordering, ordering_reverse}
use Rattle.std.specs.declared.alloc.Global.{Global}
use Rattle.std.specs.declared.cmp.Ordering.{Ordering}
use Rattle.std.specs.declared.cmp.Ordering.TheVariants.{Less, Equal, Greater}
use Rattle.std.proofs.lemmas.Cmp.{nat_list_cmp_total}
use Rattle.std.proofs.lemmas.List.{take_more, map-append}
use Rattle.std.proofs.lemmas.List.Sums.{fold-append}
use Rattle.std.proofs.lemmas.Map.Lookups.{exact_bytes}
use Rattle.fs_app_states.specs.declared.tally.Row.{Row}
use Rattle.fs_app_states.specs.Tallies.{Counted, counted, is_of, more_often, tallied, with_row}

abbrev pub Entry : Type 0
Entry = Vec ℕ Global × Option ℕ

abbrev pub view : Entry → Counted
view entry = (entry.0.items, entry.1)

abbrev pub order : Vec ℕ Global → Vec ℕ Global → Ordering
order a b = slice_cmp nat_cmp a.items b.items

-- ---- the map as a list

pub lookup_view : (test : List ℕ → Bool) (es : List Entry) → lookup (λ key. test key.items) es ≡ lookup test (map view es)
lookup_view test [] = refl
lookup_view test (e ∷ es) = ap (cond (test e.0.items) (Some e.1)) (lookup_view test es)

view_at : (es : List Entry) (k : Vec ℕ Global) (v : Option ℕ) (e : Entry) (o : Ordering)
    → map view (insert_entry order es k v) ≡ insert_entry (slice_cmp nat_cmp) (map view es) k.items v
    → map view (match_ordering o ((k, v) ∷ e ∷ es) ((e.0, v) ∷ es) (e ∷ insert_entry order es k v))
    ≡ match_ordering o ((k.items, v) ∷ view e ∷ map view es) ((e.0.items, v) ∷ map view es)
    (view e ∷ insert_entry (slice_cmp nat_cmp) (map view es) k.items v)
view_at es k v e Less ih = refl
view_at es k v e Equal ih = refl
view_at es k v e Greater ih = ap (λ xs. view e ∷ xs) ih

pub insert_view : (es : List Entry) (k : Vec ℕ Global) (v : Option ℕ)
    → map view (insert_entry order es k v) ≡ insert_entry (slice_cmp nat_cmp) (map view es) k.items v
insert_view [] k v = refl
insert_view (e ∷ es) k v = view_at es k v e (order k e.0) (insert_view es k v)

below_view : (k : Vec ℕ Global) (es : List Entry) → AllByRecursion (λ y. order k y ≡ Less) (keys_of es)
    → AllByRecursion (λ y. slice_cmp nat_cmp k.items y ≡ Less) (keys_of (map view es))
below_view k [] all = tt
below_view k (e ∷ es) all = (all.0, below_view k es all.1)

pub rising_view : (es : List Entry) → IsStrictlySortedBy order (keys_of es)
    → IsStrictlySortedBy (slice_cmp nat_cmp) (keys_of (map view es))
unfolding IsStrictlySortedBy
rising_view [] sorted = tt
rising_view (e ∷ es) sorted = (below_view e.0 es sorted.0, rising_view es sorted.1)

-- ---- a state more

same_at : (o : Ordering) → is_eq o ≡ true → o ≡ Equal
same_at Less h = absurd (cc h)
same_at Equal h = refl
same_at Greater h = absurd (cc h)

is_of_same : (s k : List ℕ) → is_of s k ≡ true → s ≡ k
is_of_same s k h = exact_bytes s k (same_at (slice_cmp nat_cmp s k) h)

equal_to_itself : (o : Ordering) → o ≡ ordering_reverse o → o ≡ Equal
equal_to_itself Less h = absurd (cc h)
equal_to_itself Equal h = refl
equal_to_itself Greater h = absurd (cc h)

differ : (k q : List ℕ) → slice_cmp nat_cmp k q ≡ Greater → k ≡ q → ⊥
differ k q h e =
    let itself : slice_cmp nat_cmp k k ≡ Equal = equal_to_itself _ (nat_list_cmp_total.antisymm k k) in
    let greater : slice_cmp nat_cmp k k ≡ Greater = subst (λ (x : List ℕ). slice_cmp nat_cmp k x ≡ Greater) (sym e) h in
    absurd (cc (sym itself ∙ greater))

twice : (b : Bool) (v w : Option ℕ) (z : _) → cond b (Some v) z ≡ cond b (Some v) (cond b (Some w) z)
twice true v w z = refl
twice false v w z = refl

apart : (a b : Bool) (v w : Option ℕ) (z : _) → (a ≡ true → b ≡ true → ⊥)
    → cond b (Some w) (cond a (Some v) z) ≡ cond a (Some v) (cond b (Some w) z)
apart true true v w z h = absurd (h refl refl)
apart true false v w z h = refl
apart false true v w z h = refl
apart false false v w z h = refl

put_at : (k : List ℕ) (v : Option ℕ) (s : List ℕ) (e : Counted) (es : List Counted) (o : Ordering) → slice_cmp nat_cmp k e.0 ≡ o
    → lookup (is_of s) (insert_entry (slice_cmp nat_cmp) es k v) ≡ cond (is_of s k) (Some v) (lookup (is_of s) es)
    → lookup (is_of s) (match_ordering o ((k, v) ∷ e ∷ es) ((e.0, v) ∷ es) (e ∷ insert_entry (slice_cmp nat_cmp) es k v))
    ≡ cond (is_of s k) (Some v) (lookup (is_of s) (e ∷ es))
put_at k v s e es Less h ih = refl
put_at k v s e es Equal h ih =
    subst (λ (key : List ℕ). cond (is_of s key) (Some v) (lookup (is_of s) es)
    ≡ cond (is_of s k) (Some v) (cond (is_of s key) (Some e.1) (lookup (is_of s) es)))
    (exact_bytes k e.0 h) (twice (is_of s k) v e.1 (lookup (is_of s) es))
put_at k v s e es Greater h ih =
    ap (cond (is_of s e.0) (Some e.1)) ih
    ∙ sym (apart (is_of s e.0) (is_of s k) e.1 v (lookup (is_of s) es) (λ at_e at_k. differ k e.0 h
    (sym (is_of_same s k at_k) ∙ is_of_same s e.0 at_e)))

-- after a state was put, it is found there, and each other one as before
lookup_put : (k : List ℕ) (v : Option ℕ) (s : List ℕ) (es : List Counted)
    → lookup (is_of s) (insert_entry (slice_cmp nat_cmp) es k v) ≡ cond (is_of s k) (Some v) (lookup (is_of s) es)
lookup_put k v s [] = refl
lookup_put k v s (e ∷ es) = put_at k v s e es (slice_cmp nat_cmp k e.0) refl (lookup_put k v s es)

abbrev Exact : (rows tally : List Counted) → Type 0
Exact rows tally = (s : List ℕ) → lookup (is_of s) tally ≡ tallied rows s

added_at : (rows tally : List Counted) (r : Counted) → Exact rows tally → (s : List ℕ) (b : Bool) → is_of s r.0 ≡ b
    → cond b (Some (more_often (lookup (is_of r.0) tally) r.1)) (lookup (is_of s) tally)
    ≡ cond b (Some (more_often (tallied rows s) r.1)) (tallied rows s)
added_at rows tally r h s true at =
    ap (λ found. Some (more_often found r.1)) (h r.0 ∙ ap (tallied rows) (sym (is_of_same s r.0 at)))
added_at rows tally r h s false at = h s

-- so a row more is tallied
pub exact_more : (rows tally : List Counted) (r : Counted) → ((s : List ℕ) → lookup (is_of s) tally ≡ tallied rows s)
    → (s : List ℕ) → lookup (is_of s) (with_row tally r) ≡ tallied (rows ++ r ∷ []) s
exact_more rows tally r h s =
    lookup_put r.0 (more_often (lookup (is_of r.0) tally) r.1) s tally
    ∙ added_at rows tally r h s (is_of s r.0) refl
    ∙ sym (fold-append (λ found row. cond (is_of s row.0) (Some (more_often found row.1)) found) None rows (r ∷ []))

-- the same of the rows so far
pub exact_next : (rows : List Row) (i : ℕ) (row : Row) (tally : List Counted) → i < length rows → row ≡ slice_index_or rows i row
    → ((s : List ℕ) → lookup (is_of s) tally ≡ tallied (map counted (take i rows)) s)
    → (s : List ℕ) → lookup (is_of s) (with_row tally (counted row)) ≡ tallied (map counted (take (i + 1) rows)) s
exact_next rows i row tally low is h s =
    exact_more (map counted (take i rows)) tally (counted row) h s
    ∙ ap (λ (xs : List Counted). tallied xs s)
    (sym (ap (map counted) (take_more rows i row low ∙ ap (λ (x : Row). take i rows ++ x ∷ []) (sym is))
    ∙ map-append counted (take i rows) (row ∷ [])))
