-- Filling a placement slot by slot, from the words of its fences.
use Rattle.std.proofs.Common.{◌≡◌, ℕ, zero, suc, ◌+◌, ◌≤◌, true, false, Option, None, Some, List, [], ◌∷◌, ◌++◌, length, drop, refl, sym, ◌∙◌, ap, ap₂, subst, arith, append_assoc}
use Rattle.std.specs.Prelude.{if◌then◌else◌, slice_get}
use Rattle.std.specs.List.{AllByRecursion, list_all}
use Rattle.std.proofs.lemmas.Bool.{and_parts, and_from, false≢true, or_left, or_right}
use Rattle.std.proofs.lemmas.Bool.Decides.{nat_tests}
use Rattle.std.proofs.lemmas.List.{drop_all, length-drop}
use Rattle.std.proofs.lemmas.Option.{slice_get_within}
use Rattle.fs_kinds.specs.declared.kind.Kind.{Kind}
use Rattle.fs_kinds.specs.declared.placement.Entry.{Entry}
use Rattle.fs_kinds.specs.declared.slot.Slot.{Slot}
use Rattle.fs_kinds.specs.Placement.{slots_of, all_with, has_slot, with_kind}
use Rattle.fs_board_offers.specs.Offers.{Offers, is_offered, offer_at}
use Rattle.fs_kinds.specs.Slot.{IsSlot, fence_word, is_same_slot, is_before, is_rising}
use Rattle.fs_cert_evidence.specs.Certificate.{fence_words, words_at}
use Rattle.fs_check_certificate.specs.inner.Filled.{Fills, IsFilling}
use Rattle.fs_check_certificate.proofs.Words.{same_fence}

-- ---- slots that rise

pub itself : (s : Slot) → is_same_slot s s ≡ true
itself s = grind (arith, nat_tests)

later : (s u : Slot) → is_before s u ≡ true → is_same_slot s u ≡ false
later s u before = grind (arith, nat_tests)

earlier : (s u : Slot) → is_before s u ≡ true → is_same_slot u s ≡ false
earlier s u before = grind (arith, nat_tests)

not_before : (s : Slot) → is_before s s ≡ true → ⊥
not_before s before = false≢true (sym (later s s before) ∙ itself s)

-- what comes after a first part comes after each of its slots
before_here : (s : Slot) (done : List Entry) (u : Slot) (after : List Slot) → list_all (is_before s) (slots_of done ++ u ∷ after) ≡ true → is_before s u ≡ true
before_here s [] u after all = (and_parts (is_before s u) _ all).0
before_here s (e ∷ done) u after all = before_here s done u after (and_parts (is_before s e.slot) _ all).1

rising_rest : (done : List Entry) (s : Slot) (after : List Slot) → is_rising (slots_of done ++ s ∷ after) ≡ true → list_all (is_before s) after ≡ true
rising_rest [] s after rising = (and_parts (list_all (is_before s) after) _ rising).0
rising_rest (e ∷ done) s after rising = rising_rest done s after (and_parts (list_all (is_before e.slot) (slots_of done ++ s ∷ after)) _ rising).1

none_after : (s : Slot) (kind : Option Kind) (after : List Slot) → list_all (is_before s) after ≡ true → with_kind s kind (all_with None after) ≡ all_with None after
none_after s kind [] all = refl
none_after s kind (u ∷ after) all =
    let parts = and_parts (is_before s u) _ all in
    ap₂ (λ b p. (if b then record { slot = u; kind = kind } else record { slot = u; kind = None }) ∷ p) (earlier s u parts.0) (none_after s kind after parts.1)

-- ---- a fence is put at the slot after the first part

put_here : (s : Slot) (kind : Option Kind) (done : List Entry) (after : List Slot) → is_rising (slots_of done ++ s ∷ after) ≡ true
    → with_kind s kind (done ++ all_with None (s ∷ after)) ≡ done ++ record { slot = s; kind = kind } ∷ all_with None after
put_here s kind [] after rising =
    ap₂ (λ b p. (if b then record { slot = s; kind = kind } else record { slot = s; kind = None }) ∷ p) (itself s)
    (none_after s kind after (and_parts (list_all (is_before s) after) _ rising).0)
put_here s kind (e ∷ done) after rising =
    let parts = and_parts (list_all (is_before e.slot) (slots_of done ++ s ∷ after)) _ rising in
    ap₂ (λ b p. (if b then record { slot = e.slot; kind = kind } else e) ∷ p) (later e.slot s (before_here e.slot done s after parts.0))
    (put_here s kind done after parts.1)

there : (s : Slot) (done : List Entry) (after : List Entry) (kind : Option Kind) → has_slot s (done ++ record { slot = s; kind = kind } ∷ after) ≡ true
there s [] after kind = or_left (is_same_slot s s) _ (itself s)
there s (e ∷ done) after kind = or_right (is_same_slot e.slot s) _ (there s done after kind)

-- ---- what fills the slots from one on

pub heads : {A : Type 0} {a b : A} {xs ys : List A} → a ∷ xs ≡ b ∷ ys → (a ≡ b) × (xs ≡ ys)
heads e = (cc, cc)

-- no fence of a later slot has the slot's words
pub no_later : (s : Slot) (k : Kind) (p : List Entry) (words : List (List ℕ)) → IsSlot s → AllByRecursion IsSlot (slots_of p) → list_all (is_before s) (slots_of p) ≡ true
    → fence_words p ≡ fence_word s k ∷ words → ⊥
no_later s k [] words is small all e = (let none : [] ≡ fence_word s k ∷ words = e in cc)
no_later s k (e ∷ p) words is small all same = by_kind e.kind (no_later s k p words is small.1 parts.1) same
  where
    parts : (is_before s e.slot ≡ true) × (list_all (is_before s) (slots_of p) ≡ true)
    parts = and_parts (is_before s e.slot) _ all

    by_kind : (kind : Option Kind) → (fence_words p ≡ fence_word s k ∷ words → ⊥) → words_at e.slot kind ++ fence_words p ≡ fence_word s k ∷ words → ⊥
    by_kind None rest same = rest same
    by_kind (Some l) rest same =
        let one = same_fence e.slot s l k small.0 is (heads same).0 in
        not_before s (subst (λ u. is_before s u ≡ true) one.0 parts.0)

record Headed (offers : Offers) (s : Slot) (after : List Slot) (kind : Option Kind) (words : List (List ℕ)) (r : List Entry) : Type 0 where
  rest : List Entry
  is : r ≡ record { slot = s; kind = kind } ∷ rest
  offered : is_offered (offer_at offers s) kind ≡ true
  fills : Fills offers after words rest

module _ (offers : Offers) (s : Slot) (after : List Slot) (is : IsSlot s) (small : AllByRecursion IsSlot after) (before : list_all (is_before s) after ≡ true) where
  -- where the first word is that of a fence at the first slot, that fence is there
  head_filled : (k : Kind) (words : List (List ℕ)) (r : List Entry) → Fills offers (s ∷ after) (fence_word s k ∷ words) r → Headed offers s after (Some k) words r
  head_filled k words [] f = absurd (let none : [] ≡ s ∷ after = f.slots in cc)
  head_filled k words (e ∷ p) f = by_kind e.kind (and_parts (is_offered (offer_at offers e.slot) e.kind) _ f.offered).0 f.worded
    where
      same_slots : (e.slot ≡ s) × (slots_of p ≡ after)
      same_slots = heads f.slots

      by_kind : (kind : Option Kind) → is_offered (offer_at offers e.slot) kind ≡ true → words_at e.slot kind ++ fence_words p ≡ fence_word s k ∷ words
          → Headed offers s after (Some k) words (record { slot = e.slot; kind = kind } ∷ p)
      by_kind None offered same = absurd (no_later s k p words is (subst (AllByRecursion IsSlot) (sym same_slots.1) small)
          (ap (list_all (is_before s)) same_slots.1 ∙ before) same)
      by_kind (Some l) offered same =
          let parts = heads same in
          let one = same_fence e.slot s l k (subst IsSlot (sym same_slots.0) is) is parts.0 in
          record {
            rest = p;
            is = ap₂ (λ u m. record { slot = u; kind = Some m } ∷ p) same_slots.0 one.1;
            offered = subst (λ (u : Slot). is_offered (offer_at offers u) (Some k) ≡ true) same_slots.0
                (subst (λ m. is_offered (offer_at offers e.slot) (Some m) ≡ true) one.1 offered);
            fills = record { slots = same_slots.1; offered = (and_parts (is_offered (offer_at offers e.slot) e.kind) _ f.offered).1; worded = parts.1 };
          }

  -- where it isn't, there is none
  head_bare : (words : List (List ℕ)) (r : List Entry) → ((k : Kind) → slice_get words 0 ≡ Some (fence_word s k) → ⊥) → Fills offers (s ∷ after) words r
      → Headed offers s after None words r
  head_bare words [] other f = absurd (let none : [] ≡ s ∷ after = f.slots in cc)
  head_bare words (e ∷ p) other f = by_kind e.kind f.worded
    where
      same_slots : (e.slot ≡ s) × (slots_of p ≡ after)
      same_slots = heads f.slots

      by_kind : (kind : Option Kind) → words_at e.slot kind ++ fence_words p ≡ words → Headed offers s after None words (record { slot = e.slot; kind = kind } ∷ p)
      by_kind (Some l) same = absurd (other l (ap (λ ws. slice_get ws 0) (sym same) ∙ ap (λ u. Some (fence_word u l)) same_slots.0))
      by_kind None same = record {
        rest = p;
        is = ap (λ u. record { slot = u; kind = None } ∷ p) same_slots.0;
        offered = refl;
        fills = record { slots = same_slots.1; offered = (and_parts (is_offered (offer_at offers e.slot) e.kind) _ f.offered).1; worded = same };
      }

-- ---- lists from a place on

drop_first : {A : Type 0} (xs : List A) (i : ℕ) (x : A) → slice_get xs i ≡ Some x → drop i xs ≡ x ∷ drop (i + 1) xs
drop_first [] i x e = absurd (let none : None ≡ Some x = e in cc)
drop_first (y ∷ ys) zero x e = (let same : Some y ≡ Some x = e in let is : y ≡ x = cc in ap (λ z. z ∷ ys) is)
drop_first (y ∷ ys) (suc i) x e = let on : suc i + 1 ≡ suc (i + 1) = omega arith in rw on (drop_first ys i x e)

first_dropped : {A : Type 0} (xs : List A) (i : ℕ) → slice_get (drop i xs) 0 ≡ slice_get xs i
first_dropped [] zero = refl
first_dropped [] (suc i) = refl
first_dropped (x ∷ xs) zero = refl
first_dropped (x ∷ xs) (suc i) = first_dropped xs i

small_rest : (xs : List Slot) (i : ℕ) → AllByRecursion IsSlot xs → AllByRecursion IsSlot (drop i xs)
small_rest [] zero all = tt
small_rest [] (suc i) all = tt
small_rest (x ∷ xs) zero all = all
small_rest (x ∷ xs) (suc i) all = small_rest xs i all.1

regroup : (done : List Entry) (e : Entry) (after : List Slot) → slots_of (done ++ e ∷ []) ++ after ≡ slots_of done ++ e.slot ∷ after
regroup [] e after = refl
regroup (d ∷ done) e after = ap (λ rest. d.slot ∷ rest) (regroup done e after)

none_left : (p : List Entry) → slots_of p ≡ [] → p ≡ []
none_left [] e = refl
none_left (x ∷ p) e = absurd (let none : x.slot ∷ slots_of p ≡ [] = e in cc)

-- ---- the placement as it grows

module _ (offers : Offers) (all : List Slot) (words : List (List ℕ)) where
  -- The first slots are done, with the first words, and the others have no fence yet. What fills the slots is what is
  -- done and what fills the rest.
  pub record Going (i used : ℕ) (p : List Entry) : Type 0 where
    done : List Entry
    is : p ≡ done ++ all_with None (drop i all)
    parts : slots_of done ++ drop i all ≡ all
    pub low : used ≤ length words
    sound : (q : List Entry) → Fills offers (drop i all) (drop used words) q → Fills offers all words (done ++ q)
    complete : (q : List Entry) → Fills offers all words q → (r : List Entry) × (q ≡ done ++ r) × Fills offers (drop i all) (drop used words) r

  pub begin : Going 0 0 (all_with None all)
  begin = record { done = []; is = refl; parts = refl; low = omega arith; sound = λ q f. f; complete = λ q f. (q, refl, f) }

  step : (i used more : ℕ) (s : Slot) (kind : Option Kind) (p q : List Entry) (g : Going i used p) → drop i all ≡ s ∷ drop (i + 1) all → more ≤ length words
      → q ≡ g.done ++ record { slot = s; kind = kind } ∷ all_with None (drop (i + 1) all)
      → ((r : List Entry) → Fills offers (s ∷ drop (i + 1) all) (drop used words) r → Headed offers s (drop (i + 1) all) kind (drop more words) r)
      → ((r : List Entry) → Fills offers (drop (i + 1) all) (drop more words) r → Fills offers (s ∷ drop (i + 1) all) (drop used words) (record { slot = s; kind = kind } ∷ r))
      → Going (i + 1) more q
  step i used more s kind p q g at low is takes gives = record {
    done = g.done ++ entry ∷ [];
    is = is ∙ sym (append_assoc g.done (entry ∷ []) (all_with None (drop (i + 1) all)));
    parts = regroup g.done entry (drop (i + 1) all) ∙ ap (λ rest. slots_of g.done ++ rest) (sym at) ∙ g.parts;
    low = low;
    sound = λ r f. subst (Fills offers all words) (sym (append_assoc g.done (entry ∷ []) r))
        (g.sound (entry ∷ r) (subst (λ rest. Fills offers rest (drop used words) (entry ∷ r)) (sym at) (gives r f)));
    complete = λ r f.
        let old = g.complete r f in
        let head = takes old.0 (subst (λ rest. Fills offers rest (drop used words) old.0) at old.2) in
        (head.rest, old.1 ∙ ap (λ rest. g.done ++ rest) head.is ∙ sym (append_assoc g.done (entry ∷ []) head.rest), head.fills);
  }
    where
      entry : Entry
      entry = record { slot = s; kind = kind }

  module _ (rising : is_rising all ≡ true) (small : AllByRecursion IsSlot all) (i used : ℕ) (s : Slot) (p : List Entry) (g : Going i used p) (at : drop i all ≡ s ∷ drop (i + 1) all) where
    here_rising : is_rising (slots_of g.done ++ s ∷ drop (i + 1) all) ≡ true
    here_rising = ap (λ rest. is_rising (slots_of g.done ++ rest)) (sym at) ∙ ap is_rising g.parts ∙ rising

    before : list_all (is_before s) (drop (i + 1) all) ≡ true
    before = rising_rest g.done s (drop (i + 1) all) here_rising

    in_range : AllByRecursion IsSlot (s ∷ drop (i + 1) all)
    in_range = subst (AllByRecursion IsSlot) at (small_rest all i small)

    placed : p ≡ g.done ++ all_with None (s ∷ drop (i + 1) all)
    placed = g.is ∙ ap (λ rest. g.done ++ all_with None rest) at

    pub has_it : has_slot s p ≡ true
    has_it = ap (has_slot s) placed ∙ there s g.done (all_with None (drop (i + 1) all)) None

    filled_at : (k : Kind) → slice_get words used ≡ Some (fence_word s k) → (r : List Entry) → Fills offers (s ∷ drop (i + 1) all) (drop used words) r
        → Headed offers s (drop (i + 1) all) (Some k) (drop (used + 1) words) r
    filled_at k e r f = head_filled offers s (drop (i + 1) all) in_range.0 in_range.1 before k (drop (used + 1) words) r
        (subst (λ ws. Fills offers (s ∷ drop (i + 1) all) ws r) (drop_first words used (fence_word s k) e) f)

    pub put : (k : Kind) → slice_get words used ≡ Some (fence_word s k) → is_offered (offer_at offers s) (Some k) ≡ true → Going (i + 1) (used + 1) (with_kind s (Some k) p)
    put k e offered = step i used (used + 1) s (Some k) p (with_kind s (Some k) p) g at (let less = slice_get_within words used _ e in omega (arith, less))
        (ap (with_kind s (Some k)) placed ∙ put_here s (Some k) g.done (drop (i + 1) all) here_rising)
        (filled_at k e)
        (λ r f. record {
          slots = ap (λ rest. s ∷ rest) f.slots;
          offered = and_from _ _ offered f.offered;
          worded = ap (λ rest. fence_word s k ∷ rest) f.worded ∙ sym (drop_first words used (fence_word s k) e);
        })

    pub refuse : (k : Kind) → slice_get words used ≡ Some (fence_word s k) → is_offered (offer_at offers s) (Some k) ≡ false → (q : List Entry) → Fills offers all words q → ⊥
    refuse k e missing q f =
        let old = g.complete q f in
        let head = filled_at k e old.0 (subst (λ rest. Fills offers rest (drop used words) old.0) at old.2) in
        false≢true (sym missing ∙ head.offered)

    pub skip : ((k : Kind) → slice_get words used ≡ Some (fence_word s k) → ⊥) → Going (i + 1) used p
    skip other = step i used used s None p p g at g.low placed
        (λ r f. head_bare offers s (drop (i + 1) all) in_range.0 in_range.1 before (drop used words) r (λ k e. other k (sym (first_dropped words used) ∙ e)) f)
        (λ r f. record { slots = ap (λ rest. s ∷ rest) f.slots; offered = f.offered; worded = f.worded })

  -- ---- the end

  module _ (i used : ℕ) (p : List Entry) (g : Going i used p) (past : length all ≤ i) where
    no_slots : drop i all ≡ []
    no_slots = drop_all i all past

    placed_whole : p ≡ g.done ++ []
    placed_whole = g.is ∙ ap (λ rest. g.done ++ all_with None rest) no_slots

    rest_of : (q : List Entry) → Fills offers all words q → (r : List Entry) × (q ≡ g.done ++ r) × (r ≡ []) × (fence_words r ≡ drop used words)
    rest_of q f =
        let old = g.complete q f in
        (old.0, old.1, none_left old.0 (old.2.slots ∙ no_slots), old.2.worded)

    pub whole : used ≡ length words → IsFilling offers all words (Some p)
    whole end =
        let no_words : drop used words ≡ [] = drop_all used words (omega (arith, end)) in
        let empty : Fills offers (drop i all) (drop used words) [] = record { slots = sym no_slots; offered = refl; worded = sym no_words } in (
          subst (Fills offers all words) (sym placed_whole) (g.sound [] empty),
          λ q f. (let rest = rest_of q f in rest.1 ∙ ap (λ r. g.done ++ r) rest.2 ∙ sym placed_whole),
        )

    pub left : (used ≡ length words → ⊥) → (q : List Entry) → Fills offers all words q → ⊥
    left more q f =
        let rest = rest_of q f in
        let none : [] ≡ drop used words = ap fence_words (sym rest.2) ∙ rest.3 in
        more (omega (arith, ap length none, length-drop used words, g.low))
