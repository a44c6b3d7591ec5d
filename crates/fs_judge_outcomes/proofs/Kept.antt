-- The states of a map by their words, and one more among them.
use Rattle.std.proofs.Common.{◌≡◌, ap, sym, refl, subst, ℕ, zero, suc, List, [], ◌∷◌, All, map, inl, inr, arith}
use Rattle.std.specs.Prelude.{◌⊎◌, Vec}
use Rattle.std.specs.BTreeMap.{insert_entry}
use Rattle.std.specs.Cmp.Lexicographic.{slice_cmp}
use Rattle.std.specs.List.{AllByRecursion, Contains}
use Rattle.std.specs.List.Sorted.{IsStrictlySortedBy}
use Rattle.std.specs.Map.{keys_of}
use Rattle.std.specs.Ordering.{nat_cmp, match_ordering}
use Rattle.std.specs.declared.alloc.Global.{Global}
use Rattle.std.specs.declared.cmp.Ordering.{Ordering}
use Rattle.std.specs.declared.cmp.Ordering.TheVariants.{Less, Equal, Greater}
use Rattle.std.proofs.lemmas.List.Elements.{All-nil, All-cons, All-weaker, All-contains_itself, Contains-append_right}
use Rattle.std.proofs.lemmas.Map.Lookups.{exact_bytes}
use Rattle.fs_cert_evidence.specs.Evidence.{Shown}
use Rattle.fs_judge_outcomes.specs.declared.state.State.{State}
use Rattle.fs_judge_outcomes.specs.States.{words_of}
use Rattle.fs_judge_outcomes.specs.inner.Parts.{state_in}

abbrev pub Entry : Type 0
Entry = Vec ℕ Global × Shown

abbrev pub order : Vec ℕ Global → Vec ℕ Global → Ordering
order a b = slice_cmp nat_cmp a.items b.items

below_states : (k : Vec ℕ Global) (es : List Entry) → AllByRecursion (λ y. order k y ≡ Less) (keys_of es)
    → AllByRecursion (λ y. slice_cmp nat_cmp k.items y ≡ Less) (words_of (map state_in es))
below_states k [] all = tt
below_states k (e ∷ es) all = (all.0, below_states k es all.1)

pub rising_states : (es : List Entry) → IsStrictlySortedBy order (keys_of es) → IsStrictlySortedBy (slice_cmp nat_cmp) (words_of (map state_in es))
unfolding IsStrictlySortedBy
rising_states [] sorted = tt
rising_states (e ∷ es) sorted = (below_states e.0 es sorted.0, rising_states es sorted.1)

-- ---- one more

abbrev From : List State → State → State → Type 0
From known state one = Contains known one ⊎ (one ≡ state)

behind : (first : State) (known : List State) (state one : State) → From known state one → From (first ∷ known) state one
behind first known state one from =
    elim from [ inl there ↦ inl (Contains-append_right (first ∷ []) known one there) | inr same ↦ inr same ]

known_all : (known : List State) (state : State) → All (From known state) known
known_all known state = All-weaker (Contains known) (From known state) (λ one there. inl there) known (All-contains_itself known)

each_at : (k : Vec ℕ Global) (v : Shown) (e : Entry) (es : List Entry) (o : Ordering) → order k e.0 ≡ o
    → All (From (map state_in es) (state_in (k, v))) (map state_in (insert_entry order es k v))
    → All (From (map state_in (e ∷ es)) (state_in (k, v)))
    (map state_in (match_ordering o ((k, v) ∷ e ∷ es) ((e.0, v) ∷ es) (e ∷ insert_entry order es k v)))
each_at k v e es Less h ih =
    let all : List State = map state_in (e ∷ es) in
    All-cons (From all (state_in (k, v))) (state_in (k, v)) all (inr refl) (known_all all (state_in (k, v)))
each_at k v e es Equal h ih =
    let rest : List State = map state_in es in
    let state = state_in (k, v) in
    let same : state_in (e.0, v) ≡ state =
    ap (λ (ws : List ℕ). record { words = ws; witness = v }) (sym (exact_bytes k.items e.0.items h)) in
    All-cons (From (state_in e ∷ rest) state) (state_in (e.0, v)) rest (inr same)
    (All-weaker (From rest state) (From (state_in e ∷ rest) state) (behind (state_in e) rest state) rest (known_all rest state))
each_at k v e es Greater h ih =
    let rest : List State = map state_in es in
    let state = state_in (k, v) in
    let more : List State = map state_in (insert_entry order es k v) in
    All-cons (From (state_in e ∷ rest) state) (state_in e) more (inl (0, omega arith, refl))
    (All-weaker (From rest state) (From (state_in e ∷ rest) state) (behind (state_in e) rest state) more ih)

pub each_put : (es : List Entry) (k : Vec ℕ Global) (v : Shown)
    → All (From (map state_in es) (state_in (k, v))) (map state_in (insert_entry order es k v))
each_put [] k v = All-cons (From [] (state_in (k, v))) (state_in (k, v)) [] (inr refl) (All-nil (From [] (state_in (k, v))))
each_put (e ∷ es) k v = each_at k v e es (order k e.0) refl (each_put es k v)

contains_cases : (x : List ℕ) (xs : List (List ℕ)) (s : List ℕ) → Contains (x ∷ xs) s → (x ≡ s) ⊎ Contains xs s
contains_cases x xs s (zero, low, is) = inl is
contains_cases x xs s (suc i, low, is) = inr (i, omega (arith, low), is)

old_at : (k : Vec ℕ Global) (v : Shown) (e : Entry) (es : List Entry) (s : List ℕ) (o : Ordering)
    → (Contains (words_of (map state_in es)) s → Contains (words_of (map state_in (insert_entry order es k v))) s)
    → Contains (words_of (map state_in (e ∷ es))) s
    → Contains (words_of (map state_in (match_ordering o ((k, v) ∷ e ∷ es) ((e.0, v) ∷ es) (e ∷ insert_entry order es k v)))) s
old_at k v e es s Less ih h = Contains-append_right (k.items ∷ []) (words_of (map state_in (e ∷ es))) s h
old_at k v e es s Equal ih h = h
old_at k v e es s Greater ih h =
    let more : List (List ℕ) = words_of (map state_in (insert_entry order es k v)) in
    elim (contains_cases e.0.items (words_of (map state_in es)) s h) [
      | inl first ↦ subst (Contains (e.0.items ∷ more)) first (0, omega arith, refl)
      | inr later ↦ Contains-append_right (e.0.items ∷ []) more s (ih later)
    ]

pub old_put : (es : List Entry) (k : Vec ℕ Global) (v : Shown) (s : List ℕ) → Contains (words_of (map state_in es)) s
    → Contains (words_of (map state_in (insert_entry order es k v))) s
old_put [] k v s h = absurd (let low = h.1 in omega (arith, low))
old_put (e ∷ es) k v s h = old_at k v e es s (order k e.0) (old_put es k v s) h

new_at : (k : Vec ℕ Global) (v : Shown) (e : Entry) (es : List Entry) (o : Ordering) → order k e.0 ≡ o
    → Contains (words_of (map state_in (insert_entry order es k v))) k.items
    → Contains (words_of (map state_in (match_ordering o ((k, v) ∷ e ∷ es) ((e.0, v) ∷ es) (e ∷ insert_entry order es k v)))) k.items
new_at k v e es Less h ih = (0, omega arith, refl)
new_at k v e es Equal h ih = (0, omega arith, sym (exact_bytes k.items e.0.items h))
new_at k v e es Greater h ih = Contains-append_right (e.0.items ∷ []) (words_of (map state_in (insert_entry order es k v))) k.items ih

pub new_put : (es : List Entry) (k : Vec ℕ Global) (v : Shown) → Contains (words_of (map state_in (insert_entry order es k v))) k.items
new_put [] k v = (0, omega arith, refl)
new_put (e ∷ es) k v = new_at k v e es (order k e.0) refl (new_put es k v)
