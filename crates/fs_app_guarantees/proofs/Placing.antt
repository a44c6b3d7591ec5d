-- The words of fences put one placement at a test's slots, and each placement has words.
use Rattle.std.proofs.Common.{◌≡◌, ℕ, List, [], ◌∷◌, ◌++◌, map, Bool, true, false, ◌&&◌, Option, None, Some, is_none, unwrap_or, inl, inr, refl, sym, ap, subst, ◌∙◌, arith, if◌then◌else◌, append_assoc}
use Rattle.std.specs.List.{list_all}
use Rattle.std.proofs.lemmas.Bool.{and_parts, and_from, or_cases, or_left, or_right, false≢true}
use Rattle.fs_kinds.specs.declared.kind.Kind.{Kind}
use Rattle.fs_kinds.specs.declared.slot.Slot.{Slot}
use Rattle.fs_kinds.specs.declared.placement.Entry.{Entry}
use Rattle.fs_kinds.specs.Placement.{slots_of, all_with, has_slot, kind_at, with_kind}
use Rattle.fs_kinds.specs.Slot.{IsSlot, fence_word, is_same_slot, is_before, is_rising}
use Rattle.fs_kinds.proofs.Entries.{slots_of-all_with, slots_of-with_kind}
use Rattle.fs_model.specs.declared.test.Test.{Test}
use Rattle.fs_model.specs.Placed.{word_of, fits, placed}
use Rattle.fs_model.specs.Slots.{slots}
use Rattle.fs_model.specs.Test.{IsBounded}
use Rattle.fs_model.proofs.Rising.{rising-slots_from}
use Rattle.fs_model.proofs.SlotLists.{same_slot, same_slot-refl}
use Rattle.fs_cert_evidence.specs.Certificate.{fence_words, words_at}
use Rattle.fs_check_certificate.proofs.Words.{same_fence, small_slots}
use Rattle.fs_app_guarantees.proofs.SamePrices.{AreSlots}
use Rattle.fs_app_guarantees.specs.Agreement.{Place}

-- ---- words place one placement at most

-- a word is that of one fence
fence_once : (f g : Slot × Kind) → IsSlot f.0 → IsSlot g.0 → word_of f ≡ word_of g → f ≡ g
fence_once f g left right e =
    let one = same_fence f.0 g.0 f.1 g.1 left right e in
    ap (λ (s : Slot). (s, f.1)) one.0 ∙ ap (λ (k : Kind). (g.0, k)) one.1

slot_there : (s : Slot) (p : List Entry) → AreSlots (slots_of p) → has_slot s p ≡ true → IsSlot s
slot_there s [] small has = absurd (false≢true has)
slot_there s (e ∷ p) small has = elim (or_cases (is_same_slot e.slot s) (has_slot s p) has) [
  | inl same ↦ subst IsSlot (same_slot e.slot s same) small.0
  | inr later ↦ slot_there s p small.1 later
]

-- where the choice is a value, the test passed
pub if_some : {A : Type 0} (b : Bool) (o : Option A) (x : A) → (if b then o else None) ≡ Some x → (b ≡ true) × (o ≡ Some x)
if_some true o x e = (refl, e)
if_some false o x e = absurd (let none : None ≡ Some x = e in cc)

if_true : {A : Type 0} (b : Bool) (x y : A) → b ≡ true → (if b then x else y) ≡ x
if_true true x y e = refl
if_true false x y e = absurd (false≢true e)

fit_there : (p : List Entry) (f : Slot × Kind) → AreSlots (slots_of p) → fits None p f ≡ true → IsSlot f.0
fit_there p f small fit =
    let open_slot = and_parts true (is_none (kind_at f.0 p) && has_slot f.0 p) fit in
    slot_there f.0 p small (and_parts (is_none (kind_at f.0 p)) (has_slot f.0 p) open_slot.1).1

same_value : (a b : List Entry) (p : List Entry) → Some p ≡ Some a → Some p ≡ Some b → a ≡ b
same_value a b p e k = let l : Some a ≡ Some b = sym e ∙ k in ap (λ o. unwrap_or o p) l

placed_once : (fences others : List (Slot × Kind)) (p a b : List Entry) → AreSlots (slots_of p) → map word_of fences ≡ map word_of others
    → placed None p fences ≡ Some a → placed None p others ≡ Some b → a ≡ b
placed_once [] [] p a b small same left right = same_value a b p left right
placed_once [] (g ∷ others) p a b small same left right = absurd (let none : [] ≡ word_of g ∷ map word_of others = same in cc)
placed_once (f ∷ fences) [] p a b small same left right = absurd (let none : word_of f ∷ map word_of fences ≡ [] = same in cc)
placed_once (f ∷ fences) (g ∷ others) p a b small same left right =
    let whole : word_of f ∷ map word_of fences ≡ word_of g ∷ map word_of others = same in
    let first : word_of f ≡ word_of g = cc in
    let rest : map word_of fences ≡ map word_of others = cc in
    let here = if_some (fits None p f) (placed None (with_kind f.0 (Some f.1) p) fences) a left in
    let there = if_some (fits None p g) (placed None (with_kind g.0 (Some g.1) p) others) b right in
    let one : f ≡ g = fence_once f g (fit_there p f small here.0) (fit_there p g small there.0) first in
    placed_once fences others (with_kind f.0 (Some f.1) p) a b
    (subst AreSlots (sym (slots_of-with_kind f.0 (Some f.1) p)) small) rest here.1
    (subst (λ (h : Slot × Kind). placed None (with_kind h.0 (Some h.1) p) others ≡ Some b) (sym one) there.1)

pub one_placement : (t : Test) → IsBounded t → (words : List (List ℕ)) (p q : List Entry) → Place t words p → Place t words q → p ≡ q
one_placement t bounded words p q h k =
    placed_once h.0 k.0 (all_with None (slots t)) p q (subst AreSlots (sym (slots_of-all_with None (slots t))) (small_slots t bounded))
    (h.1 ∙ sym k.1) h.2 k.2

-- ---- each placement has words

abbrev pub fences_at : Slot → Option Kind → List (Slot × Kind)
fences_at s None = []
fences_at s (Some kind) = (s, kind) ∷ []

abbrev pub fences_of : List Entry → List (Slot × Kind)
fences_of [] = []
fences_of (e ∷ p) = fences_at e.slot e.kind ++ fences_of p

pub words_are : (p : List Entry) → map word_of (fences_of p) ≡ fence_words p
words_are [] = refl
words_are (e ∷ p) = at e.kind (words_are p)
  where
    at : (kind : Option Kind) → map word_of (fences_of p) ≡ fence_words p → map word_of (fences_at e.slot kind ++ fences_of p) ≡ words_at e.slot kind ++ fence_words p
    at None rest = rest
    at (Some kind) rest = ap (λ (ws : List (List ℕ)). fence_word e.slot kind ∷ ws) rest

-- s is none of these slots
abbrev Lacks : Slot → List Slot → Type 0
Lacks s [] = Unit {0}
Lacks s (r ∷ rs) = (is_same_slot r s ≡ false) × Lacks s rs

abbrev entry : Slot → Option Kind → Entry
entry s kind = record { slot = s; kind = kind }

earlier : (r s : Slot) → is_before r s ≡ true → is_same_slot r s ≡ false
earlier r s before = grind arith

later : (r s : Slot) → is_before s r ≡ true → is_same_slot r s ≡ false
later r s before = grind arith

all_later : (s : Slot) (rs : List Slot) → list_all (is_before s) rs ≡ true → Lacks s rs
all_later s [] all = tt
all_later s (r ∷ rs) all = let both = and_parts (is_before s r) (list_all (is_before s) rs) all in (later r s both.0, all_later s rs both.1)

before_one : (r s : Slot) (rs ts : List Slot) → list_all (is_before r) (rs ++ s ∷ ts) ≡ true → is_before r s ≡ true
before_one r s [] ts all = (and_parts (is_before r s) (list_all (is_before r) ts) all).0
before_one r s (q ∷ rs) ts all = before_one r s rs ts (and_parts (is_before r q) (list_all (is_before r) (rs ++ s ∷ ts)) all).1

apart : (s : Slot) (rs ts : List Slot) → is_rising (rs ++ s ∷ ts) ≡ true → Lacks s rs × Lacks s ts
apart s [] ts rising = (tt, all_later s ts (and_parts (list_all (is_before s) ts) (is_rising ts) rising).0)
apart s (r ∷ rs) ts rising =
    let both = and_parts (list_all (is_before r) (rs ++ s ∷ ts)) (is_rising (rs ++ s ∷ ts)) rising in
    let rest = apart s rs ts both.1 in
    ((earlier r s (before_one r s rs ts both.0), rest.0), rest.1)

kept : (s : Slot) (kind : Option Kind) (p : List Entry) → Lacks s (slots_of p) → with_kind s kind p ≡ p
kept s kind [] h = refl
kept s kind (e ∷ p) h = rw (h.0, kept s kind p h.1) refl

module _ (s : Slot) (rest : List Entry) where
  put : (kind : Option Kind) (pre : List Entry) → Lacks s (slots_of pre) → Lacks s (slots_of rest)
      → with_kind s kind (pre ++ entry s None ∷ rest) ≡ pre ++ entry s kind ∷ rest
  put kind [] h k = rw (same_slot-refl s, kept s kind rest k) refl
  put kind (e ∷ pre) h k = rw (h.0, put kind pre h.1 k) refl

  free : (pre : List Entry) → Lacks s (slots_of pre) → kind_at s (pre ++ entry s None ∷ rest) ≡ None
  free [] h = rw (same_slot-refl s) refl
  free (e ∷ pre) h = rw h.0 (free pre h.1)

  there : (pre : List Entry) → has_slot s (pre ++ entry s None ∷ rest) ≡ true
  there [] = or_left _ _ (same_slot-refl s)
  there (e ∷ pre) = or_right _ _ (there pre)

slots-append : (pre p : List Entry) → slots_of (pre ++ p) ≡ slots_of pre ++ slots_of p
slots-append [] p = refl
slots-append (e ∷ pre) p = ap (λ ss. e.slot ∷ ss) (slots-append pre p)

one_further : {A : Type 0} (pre rest : List A) (x : A) → (pre ++ x ∷ []) ++ rest ≡ pre ++ x ∷ rest
one_further pre rest x = append_assoc pre (x ∷ []) rest

-- the fences of the entries to come, where those before are placed
place_on : (pre : List Entry) (s : Slot) (kind : Option Kind) (p : List Entry) → is_rising (slots_of pre ++ s ∷ slots_of p) ≡ true
    → placed None ((pre ++ entry s kind ∷ []) ++ all_with None (slots_of p)) (fences_of p) ≡ Some ((pre ++ entry s kind ∷ []) ++ p)
    → placed None (pre ++ entry s None ∷ all_with None (slots_of p)) (fences_at s kind ++ fences_of p) ≡ Some (pre ++ entry s kind ∷ p)
place_on pre s None p rising rest =
    ap (λ (q : List Entry). placed None q (fences_of p)) (sym (one_further pre (all_with None (slots_of p)) (entry s None)))
    ∙ (rest ∙ ap (λ (q : List Entry). Some q) (one_further pre p (entry s None)))
place_on pre s (Some kind) p rising rest =
    let after = all_with None (slots_of p) in
    let lacks = apart s (slots_of pre) (slots_of p) rising in
    let later_lacks : Lacks s (slots_of after) = subst (Lacks s) (sym (slots_of-all_with None (slots_of p))) lacks.1 in
    let q = pre ++ entry s None ∷ after in
    let fit : fits None q (s, kind) ≡ true =
    and_from true (is_none (kind_at s q) && has_slot s q) refl (and_from (is_none (kind_at s q)) (has_slot s q) (ap is_none (free s after pre lacks.0)) (there s after pre)) in
    if_true (fits None q (s, kind)) (placed None (with_kind s (Some kind) q) (fences_of p)) None fit
    ∙ (ap (λ (r : List Entry). placed None r (fences_of p))
    (put s after (Some kind) pre lacks.0 later_lacks ∙ sym (one_further pre after (entry s (Some kind))))
    ∙ (rest ∙ ap (λ (r : List Entry). Some r) (one_further pre p (entry s (Some kind)))))

place_from : (pre p : List Entry) → is_rising (slots_of pre ++ slots_of p) ≡ true
    → placed None (pre ++ all_with None (slots_of p)) (fences_of p) ≡ Some (pre ++ p)
place_from pre [] rising = refl
place_from pre (e ∷ p) rising =
    let same : slots_of (pre ++ entry e.slot e.kind ∷ []) ++ slots_of p ≡ slots_of pre ++ e.slot ∷ slots_of p =
    ap (λ (ss : List Slot). ss ++ slots_of p) (slots-append pre (entry e.slot e.kind ∷ [])) ∙ one_further (slots_of pre) (slots_of p) e.slot in
    place_on pre e.slot e.kind p rising (place_from (pre ++ entry e.slot e.kind ∷ []) p (ap is_rising same ∙ rising))

pub words_place : (t : Test) (p : List Entry) → slots_of p ≡ slots t → Place t (fence_words p) p
words_place t p over = (
  fences_of p,
  words_are p,
  subst (λ (ss : List Slot). placed None (all_with None ss) (fences_of p) ≡ Some p) over
      (place_from [] p (ap is_rising over ∙ rising-slots_from 0 t.codes)),
)
