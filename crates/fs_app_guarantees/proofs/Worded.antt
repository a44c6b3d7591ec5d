-- The words of fences name one placement over a test's slots.
use Rattle.std.proofs.Common.{◌≡◌, ℕ, true, Option, None, Some, List, [], ◌∷◌, ◌++◌, refl, sym, ◌∙◌, ap, ap₂, subst}
use Rattle.std.specs.List.{AllByRecursion, list_all}
use Rattle.std.proofs.lemmas.Bool.{and_parts}
use Rattle.fs_kinds.specs.declared.kind.Kind.{Kind}
use Rattle.fs_kinds.specs.declared.placement.Entry.{Entry}
use Rattle.fs_kinds.specs.declared.slot.Slot.{Slot}
use Rattle.fs_kinds.specs.Placement.{slots_of}
use Rattle.fs_kinds.specs.Slot.{IsSlot, is_before, is_rising}
use Rattle.fs_cert_evidence.specs.Certificate.{Answer, Fenced, fence_words, words_at}
use Rattle.fs_board_offers.specs.Offers.{Offers, slots}
use Rattle.fs_board_offers.specs.Valid.{IsAnswered}
use Rattle.fs_check_certificate.proofs.Words.{same_fence}
use Rattle.fs_check_certificate.proofs.Filled.{heads, no_later}

-- ---- placements over the same slots

-- of two entries at one slot, with the same words up to the end, the kinds are the same, and so are the words behind
-- them
same_kinds : (s : Slot) (k l : Option Kind) (p q : List Entry) → IsSlot s → AllByRecursion IsSlot (slots_of p) → AllByRecursion IsSlot (slots_of q)
    → list_all (is_before s) (slots_of p) ≡ true → list_all (is_before s) (slots_of q) ≡ true
    → words_at s k ++ fence_words p ≡ words_at s l ++ fence_words q → (k ≡ l) × (fence_words p ≡ fence_words q)
same_kinds s None None p q is small tiny before after e = (refl, e)
same_kinds s None (Some l) p q is small tiny before after e = absurd (no_later s l p (fence_words q) is small before e)
same_kinds s (Some k) None p q is small tiny before after e = absurd (no_later s k q (fence_words p) is tiny after (sym e))
same_kinds s (Some k) (Some l) p q is small tiny before after e =
    let parts = heads e in
    (ap (λ kind. Some kind) (same_fence s s k l is is parts.0).1, parts.1)

same_placement : (p q : List Entry) → AllByRecursion IsSlot (slots_of p) → is_rising (slots_of p) ≡ true → slots_of p ≡ slots_of q → fence_words p ≡ fence_words q → p ≡ q
same_placement [] [] small rising over e = refl
same_placement [] (f ∷ q) small rising over e = absurd (let none : [] ≡ f.slot ∷ slots_of q = over in cc)
same_placement (d ∷ p) [] small rising over e = absurd (let none : d.slot ∷ slots_of p ≡ [] = over in cc)
same_placement (d ∷ p) (f ∷ q) small rising over e =
    ap₂ (λ s k. entry s k ∷ p) slot.0 kinds.0 ∙ ap (λ r. entry f.slot f.kind ∷ r) (same_placement p q small.1 parts.1 slot.1 kinds.1)
  where
    entry : Slot → Option Kind → Entry
    entry s k = record { slot = s; kind = k }

    slot : (d.slot ≡ f.slot) × (slots_of p ≡ slots_of q)
    slot = heads over

    parts : (list_all (is_before d.slot) (slots_of p) ≡ true) × (is_rising (slots_of p) ≡ true)
    parts = and_parts (list_all (is_before d.slot) (slots_of p)) _ rising

    words : words_at d.slot d.kind ++ fence_words p ≡ words_at d.slot f.kind ++ fence_words q
    words = subst (λ s. words_at d.slot d.kind ++ fence_words p ≡ words_at s f.kind ++ fence_words q) (sym slot.0) e

    kinds : (d.kind ≡ f.kind) × (fence_words p ≡ fence_words q)
    kinds = same_kinds d.slot d.kind f.kind p q small.0 small.1 (subst (AllByRecursion IsSlot) slot.1 small.1) parts.0
        (subst (λ ss. list_all (is_before d.slot) ss ≡ true) slot.1 parts.0) words

words_of : (m n : ℕ) (ws us : List (List ℕ)) → Fenced m ws ≡ Fenced n us → ws ≡ us
words_of m n ws us e = cc

pub one_answered : (offers : Offers) (answer : Answer) (p q : List Entry) → AllByRecursion IsSlot (slots offers) → is_rising (slots offers) ≡ true
    → IsAnswered offers answer p → IsAnswered offers answer q → p ≡ q
one_answered offers answer p q small rising left right =
    let over : slots_of p ≡ slots offers = left.placement.slots in
    same_placement p q (subst (AllByRecursion IsSlot) (sym over) small) (ap is_rising over ∙ rising)
    (over ∙ sym right.placement.slots) (words_of _ _ (fence_words p) (fence_words q) (sym left.answered ∙ right.answered))
