-- What is before a cursor, and what begins with it, as the cursor moves.
use Rattle.std.proofs.Common.{◌≡◌, ◌⊎◌, ℕ, ◌<◌, ◌≤◌, nat_lt, Bool, true, false, None, Some, List, [], ◌∷◌, ◌++◌, length, take, inl, inr, refl, sym, ap, ap₂, subst, ◌∙◌, arith}
use Rattle.std.specs.Prelude.{slice_get}
use Rattle.std.proofs.lemmas.Bool.{false≢true, cases_Bool, ltb-true}
use Rattle.std.proofs.lemmas.Bool.Decides.{nat_tests}
use Rattle.fs_kinds.specs.declared.kind.Kind.{Kind}
use Rattle.fs_kinds.specs.declared.placement.Entry.{Entry}
use Rattle.fs_kinds.specs.declared.slot.Slot.{Slot}
use Rattle.fs_kinds.specs.Placement.{rank, precedes}
use Rattle.fs_model_laws.proofs.Ranked.{by_first, first-less, first-same, first-cases, rank-injective, entry_of}
use Rattle.fs_board_offers.specs.Offers.{Offer, is_offered}
use Rattle.fs_sites.specs.Sinking.{Fills, Begins}
use Rattle.fs_sites.specs.Walks.{is_reached, IsNext, IsLast}

pub before-nothing : (p : List Entry) → precedes p [] ≡ false
before-nothing [] = refl
before-nothing (e ∷ p) = refl

-- ---- a cursor that grows

first-none : (m : ℕ) (b : Bool) → b ≡ false → by_first m 0 b ≡ false
first-none m b none = grind (arith, nat_tests)

-- with none at one more site nothing more is before the cursor
pub before-none : (cursor q : List Entry) (s : Slot) → length cursor < length q
    → precedes q (cursor ++ (entry_of s None ∷ [])) ≡ precedes q cursor
before-none cursor [] s longer = absurd (omega (arith, longer))
before-none [] (x ∷ q) s longer = first-none (rank x.kind) (precedes q []) (before-nothing q)
before-none (f ∷ cursor) (x ∷ q) s longer =
    ap (by_first (rank x.kind) (rank f.kind)) (before-none cursor q s (omega (arith, longer)))

-- ---- a cursor that moves on

first-next : (m n k : ℕ) (b : Bool) → b ≡ false → n < k → (m < k → m ≤ n) → by_first m k b ≡ by_first m n true
first-next m n k b none later low = elim (cases_Bool (nat_lt m k)) [
  | inl less ↦ (let within = low (ltb-true m k less) in next-less m n k b within later)
  | inr more ↦ next-more m n k b none later more
]
  where
    next-less : (m n k : ℕ) (b : Bool) → m ≤ n → n < k → by_first m k b ≡ by_first m n true
    next-less m n k b within later = grind (arith, nat_tests)

    next-more : (m n k : ℕ) (b : Bool) → b ≡ false → n < k → nat_lt m k ≡ false → by_first m k b ≡ by_first m n true
    next-more m n k b none later more = grind (arith, nat_tests)

pub before-next : (offers : List Offer) (cursor q : List Entry) (o : Offer) (e : Entry) (next : Kind)
    → slice_get offers (length cursor) ≡ Some o → Fills offers q → IsNext o e.kind next
    → precedes q (cursor ++ (entry_of e.slot (Some next) ∷ [])) ≡ is_reached q (cursor ++ (e ∷ []))
before-next [] cursor q o e next at fills is = absurd (cc)
before-next (u ∷ offers) cursor [] o e next at fills is = absurd fills
before-next (u ∷ offers) [] (x ∷ q) o e next at fills is =
    let same : u ≡ o = cc in
    let offered = subst (λ (v : Offer). is_offered v x.kind ≡ true) same fills.1 in
    first-next (rank x.kind) (rank e.kind) (rank (Some next)) (precedes q []) (before-nothing q) is.later (is.none_between x.kind offered)
before-next (u ∷ offers) (f ∷ cursor) (x ∷ q) o e next at fills is =
    ap (by_first (rank x.kind) (rank f.kind)) (before-next offers cursor q o e next at fills.2 is)

first-last : (m n : ℕ) → m ≤ n → by_first m n true ≡ true
first-last m n low = grind (arith, nat_tests)

pub reached-last : (offers : List Offer) (cursor q : List Entry) (o : Offer) (e : Entry)
    → slice_get offers (length cursor) ≡ Some o → Fills offers q → IsLast o e.kind
    → is_reached q (cursor ++ (e ∷ [])) ≡ is_reached q cursor
reached-last [] cursor q o e at fills is = absurd (cc)
reached-last (u ∷ offers) cursor [] o e at fills is = absurd fills
reached-last (u ∷ offers) [] (x ∷ q) o e at fills is =
    let same : u ≡ o = cc in
    let offered = subst (λ (v : Offer). is_offered v x.kind ≡ true) same fills.1 in
    first-last (rank x.kind) (rank e.kind) (is x.kind offered)
reached-last (u ∷ offers) (f ∷ cursor) (x ∷ q) o e at fills is =
    ap (by_first (rank x.kind) (rank f.kind)) (reached-last offers cursor q o e at fills.2 is)

-- ---- before it, or with it

first-true : (m n : ℕ) (a b : Bool) → (a ≡ true → b ≡ true) → by_first m n a ≡ true → by_first m n b ≡ true
first-true m n a b next h = elim (first-cases m n a h) [
  | inl less ↦ first-less m n b less
  | inr same ↦ first-same m n b same.0 (next same.1)
]

pub before-reached : (q cursor : List Entry) → precedes q cursor ≡ true → is_reached q cursor ≡ true
before-reached q [] before = refl
before-reached [] (f ∷ cursor) before = absurd (false≢true before)
before-reached (e ∷ q) (f ∷ cursor) before =
    first-true (rank e.kind) (rank f.kind) (precedes q cursor) (is_reached q cursor) (before-reached q cursor) before

pub reached-itself : (p : List Entry) → is_reached p p ≡ true
reached-itself [] = refl
reached-itself (e ∷ p) = first-same (rank e.kind) (rank e.kind) (is_reached p p) refl (reached-itself p)

same-entry : (e f : Entry) (o : Offer) → e.slot ≡ o.slot → f.slot ≡ o.slot → rank e.kind ≡ rank f.kind → e ≡ f
same-entry e f o first second same = ap₂ entry_of (first ∙ sym second) (rank-injective e.kind f.kind same)

pub reached-cases : (offers : List Offer) (cursor q : List Entry) → Begins offers cursor → Fills offers q → is_reached q cursor ≡ true
    → (precedes q cursor ≡ true) ⊎ (take (length cursor) q ≡ cursor)
reached-cases offers [] q begins fills reached = inr refl
reached-cases offers (f ∷ cursor) [] begins fills reached = absurd (false≢true reached)
reached-cases [] (f ∷ cursor) (x ∷ q) begins fills reached = absurd fills
reached-cases (o ∷ offers) (f ∷ cursor) (x ∷ q) begins fills reached =
    elim (first-cases (rank x.kind) (rank f.kind) (is_reached q cursor) reached) [
      | inl less ↦ inl (first-less (rank x.kind) (rank f.kind) (precedes q cursor) less)
      | inr same ↦ elim (reached-cases offers cursor q begins.2 fills.2 same.1) [
        | inl before ↦ inl (first-same (rank x.kind) (rank f.kind) (precedes q cursor) same.0 before)
        | inr with ↦ inr (ap₂ (λ g p. g ∷ p) (same-entry x f o fills.0 begins.0 same.0) with)
      ]
    ]

-- what is before the cursor is before all that begins with it
pub before-all : (p cursor q : List Entry) → precedes p cursor ≡ true → take (length cursor) q ≡ cursor → precedes p q ≡ true
before-all [] cursor q before with = absurd (false≢true before)
before-all (e ∷ p) [] q before with = absurd (false≢true before)
before-all (e ∷ p) (f ∷ cursor) [] before with = absurd (cc)
before-all (e ∷ p) (f ∷ cursor) (g ∷ q) before with =
    let same : f ≡ g = cc in
    let rest : take (length cursor) q ≡ cursor = cc in
    let there = subst (λ (h : Entry). by_first (rank e.kind) (rank h.kind) (precedes p cursor) ≡ true) same before in
    first-true (rank e.kind) (rank g.kind) (precedes p cursor) (precedes p q) (λ here. before-all p cursor q here rest) there
