-- The lines of an answer are read in one way.
use Rattle.std.proofs.Common.{◌≡◌, ◌≢◌, ℕ, zero, suc, ◌<◌, ◌%◌, ◌/◌, ◌==◌, ◌+◌, nat_lt, Bool, true, false, Option, None, Some, List, [], ◌∷◌, ◌++◌, map, drop, length, get_or, codes, refl, sym, ap, ap₂, subst, ◌∙◌, arith, append_assoc, if◌then◌else◌}
use Rattle.std.specs.Prelude.{slice_index}
use Rattle.std.specs.Fmt.{decimal, digits, digits_onto, digit_glyph}
use Rattle.std.specs.List.{flat_map, list_all}
use Rattle.std.proofs.lemmas.Bool.{and_parts, ltb-true}
use Rattle.std.proofs.lemmas.List.{append_cancel_right}
use Rattle.std.proofs.lemmas.Fmt.{decimal_injective}
use Rattle.fs_kinds.specs.declared.kind.Kind.{Kind}
use Rattle.fs_kinds.specs.declared.kind.Kind.TheVariants.{RR, RW, RRw, WR, WW, WRw, RwR, RwW, RwRw, Tso}
use Rattle.fs_kinds.specs.declared.placement.Entry.{Entry}
use Rattle.fs_kinds.specs.declared.slot.Slot.{Slot}
use Rattle.fs_kinds.specs.Kind.{word}
use Rattle.fs_kinds.specs.Placement.{slots_of}
use Rattle.fs_kinds.specs.Slot.{IsSlot}
use Rattle.fs_kinds.proofs.Names.{cut-same, word-injective}
use Rattle.fs_model.specs.declared.test.Test.{Test}
use Rattle.fs_model.specs.Placed.{word_of}
use Rattle.fs_model.specs.Slots.{slots}
use Rattle.fs_model.specs.Test.{IsBounded}
use Rattle.fs_litmus.specs.Reads.{Reads}
use Rattle.fs_litmus.proofs.ReadsTest.{is_test}
use Rattle.fs_model.specs.Witness.{Witness}
use Rattle.fs_cert_evidence.specs.Certificate.{fence_words}
use Rattle.fs_cert_evidence.specs.Texts.{fence_line, fenced_lines, none_lines, witness_text}
use Rattle.fs_cert_evidence.specs.WitnessFile.{IsWitnessFile}
use Rattle.fs_cert_evidence.proofs.Once.{file-once}
use Rattle.fs_check_certificate.proofs.Words.{small_slots}
use Rattle.fs_app_guarantees.specs.Agreement.{Place}
use Rattle.fs_app_guarantees.specs.Lines.{SayOneAnswer}
use Rattle.fs_app_guarantees.proofs.Placing.{fences_at, fences_of, words_are, words_place, one_placement}
use Rattle.fs_app_guarantees.proofs.SamePrices.{AreSlots}

-- ---- bytes that a text hasn't

-- no byte of the text is c
abbrev Lacks : ℕ → List ℕ → Type 0
Lacks c xs = (i : ℕ) → i < length xs → get_or xs i 0 ≢ c

lacks_nil : (c : ℕ) → Lacks c []
lacks_nil c i low = absurd (omega (arith, low))

lacks_cons : (c x : ℕ) (xs : List ℕ) → x ≢ c → Lacks c xs → Lacks c (x ∷ xs)
lacks_cons c x xs here rest zero low = here
lacks_cons c x xs here rest (suc i) low = rest i (omega (arith, low))

lacks_if : (c : ℕ) (b : Bool) (xs ys : List ℕ) → Lacks c xs → Lacks c ys → Lacks c (if b then xs else ys)
lacks_if c true xs ys left right = left
lacks_if c false xs ys left right = right

-- the bytes before the digits stand in no number
other_glyph : (b : Bool) (c d : ℕ) → c < 48 → (if b then 48 + d else 87 + d) ≢ c
other_glyph true c d low = λ same. omega (arith, low, same)
other_glyph false c d low = λ same. omega (arith, low, same)

lacks_digits : (k n c : ℕ) (after : List ℕ) → c < 48 → Lacks c after → Lacks c (digits_onto k 10 false n after)
lacks_digits zero n c after low rest = rest
lacks_digits (suc k) n c after low rest =
    let more = digit_glyph false (n % 10) ∷ after in
    let here : Lacks c more = lacks_cons c (digit_glyph false (n % 10)) after (other_glyph (nat_lt (n % 10) 10) c (n % 10) low) rest in
    lacks_if c (n / 10 == 0) more (digits_onto k 10 false (n / 10) more) here (lacks_digits k (n / 10) c more low here)

lacks_decimal : (n c : ℕ) → c < 48 → Lacks c (decimal n)
unfolding digits
lacks_decimal n c low = lacks_digits 64 n c [] low (lacks_nil c)

all_above : (xs : List ℕ) → list_all (nat_lt 10) xs ≡ true → Lacks 10 xs
all_above [] all = lacks_nil 10
all_above (x ∷ xs) all =
    let both = and_parts (nat_lt 10 x) (list_all (nat_lt 10) xs) all in
    let above : 10 < x = ltb-true 10 x both.0 in
    lacks_cons 10 x xs (λ same. omega (arith, above, same)) (all_above xs both.1)

word_above : (kind : Kind) → list_all (nat_lt 10) (word kind) ≡ true
word_above RR = refl
word_above RW = refl
word_above RRw = refl
word_above WR = refl
word_above WW = refl
word_above WRw = refl
word_above RwR = refl
word_above RwW = refl
word_above RwRw = refl
word_above Tso = refl

-- ---- the line of a fence

-- what stands behind `fence P` in the line of a fence, with the lines below it
abbrev behind_name : Slot → Kind → List ℕ → List ℕ
behind_name s kind below = decimal s.hart ++ 32 ∷ (decimal s.at ++ 32 ∷ (word kind ++ 10 ∷ below))

split_line : (s : Slot) (kind : Kind) (below : List ℕ) → fence_line s (Some kind) ++ below ≡ codes "fence P" ++ behind_name s kind below
split_line s kind below =
    let hart = decimal s.hart ++ 32 ∷ [] in
    let at = hart ++ decimal s.at in
    let last = word kind ++ 10 ∷ below in
    ap (λ text. codes "fence P" ++ text)
    (append_assoc ((at ++ 32 ∷ []) ++ word kind) (10 ∷ []) below
    ∙ (append_assoc (at ++ 32 ∷ []) (word kind) (10 ∷ below)
    ∙ (append_assoc at (32 ∷ []) last
    ∙ (append_assoc hart (decimal s.at) (32 ∷ last) ∙ append_assoc (decimal s.hart) (32 ∷ []) (decimal s.at ++ 32 ∷ last)))))

abbrev slot_of : ℕ → ℕ → Slot
slot_of hart at = record { hart = hart; at = at }

fence_read : (s u : Slot) (k l : Kind) (below other : List ℕ) → IsSlot s → IsSlot u → behind_name s k below ≡ behind_name u l other
    → (s ≡ u) × (k ≡ l) × (below ≡ other)
fence_read s u k l below other left right same =
    let hart = cut-same 32 (decimal s.hart) (decimal u.hart) (decimal s.at ++ 32 ∷ (word k ++ 10 ∷ below)) (decimal u.at ++ 32 ∷ (word l ++ 10 ∷ other))
    (lacks_decimal s.hart 32 (omega arith)) (lacks_decimal u.hart 32 (omega arith)) same in
    let at = cut-same 32 (decimal s.at) (decimal u.at) (word k ++ 10 ∷ below) (word l ++ 10 ∷ other)
    (lacks_decimal s.at 32 (omega arith)) (lacks_decimal u.at 32 (omega arith)) hart.1 in
    let kind = cut-same 10 (word k) (word l) below other (all_above (word k) (word_above k)) (all_above (word l) (word_above l)) at.1 in
    let harts : s.hart ≡ u.hart = decimal_injective s.hart u.hart (omega (arith, left.0)) (omega (arith, right.0)) hart.0 in
    let places : s.at ≡ u.at = decimal_injective s.at u.at (omega (arith, left.1)) (omega (arith, right.1)) at.0 in
    (ap₂ slot_of harts places, word-injective k l kind.0, kind.1)

-- ---- the lines of fences

abbrev AreOfSlots : List (Slot × Kind) → Type 0
AreOfSlots [] = Unit {0}
AreOfSlots (f ∷ fences) = IsSlot f.0 × AreOfSlots fences

abbrev lines_of : List (Slot × Kind) → List ℕ
lines_of [] = []
lines_of (f ∷ fences) = fence_line f.0 (Some f.1) ++ lines_of fences

not_empty : (f : Slot × Kind) (below : List ℕ) → [] ≡ fence_line f.0 (Some f.1) ++ below → ⊥
not_empty f below same = let long = ap (λ text. slice_index text 0) same in absurd (omega (arith, long))

abbrev first_with : Slot → Kind → List (Slot × Kind) → List (Slot × Kind)
first_with s kind fences = (s, kind) ∷ fences

fences_read : (fences others : List (Slot × Kind)) → AreOfSlots fences → AreOfSlots others → lines_of fences ≡ lines_of others → fences ≡ others
fences_read [] [] left right same = refl
fences_read [] (g ∷ others) left right same = absurd (not_empty g (lines_of others) same)
fences_read (f ∷ fences) [] left right same = absurd (not_empty f (lines_of fences) (sym same))
fences_read (f ∷ fences) (g ∷ others) left right same =
    let whole : codes "fence P" ++ behind_name f.0 f.1 (lines_of fences) ≡ codes "fence P" ++ behind_name g.0 g.1 (lines_of others) =
    sym (split_line f.0 f.1 (lines_of fences)) ∙ (same ∙ split_line g.0 g.1 (lines_of others)) in
    let read = fence_read f.0 g.0 f.1 g.1 (lines_of fences) (lines_of others) left.0 right.0 (ap (drop 7) whole) in
    let rest : fences ≡ others = fences_read fences others left.1 right.1 read.2 in
    ap (λ s. first_with s f.1 fences) read.0 ∙ ap₂ (first_with g.0) read.1 rest

lines_are : (p : List Entry) → flat_map (λ e. fence_line e.slot e.kind) p ≡ lines_of (fences_of p)
lines_are [] = refl
lines_are (e ∷ p) = at e.kind (lines_are p)
  where
    at : (kind : Option Kind) → flat_map (λ d. fence_line d.slot d.kind) p ≡ lines_of (fences_of p)
        → fence_line e.slot kind ++ flat_map (λ d. fence_line d.slot d.kind) p ≡ lines_of (fences_at e.slot kind ++ fences_of p)
    at None rest = rest
    at (Some kind) rest = ap (λ below. fence_line e.slot (Some kind) ++ below) rest

of_slots : (p : List Entry) → AreSlots (slots_of p) → AreOfSlots (fences_of p)
of_slots [] small = tt
of_slots (e ∷ p) small = at e.kind (of_slots p small.1)
  where
    at : (kind : Option Kind) → AreOfSlots (fences_of p) → AreOfSlots (fences_at e.slot kind ++ fences_of p)
    at None rest = rest
    at (Some kind) rest = (small.0, rest)

-- ---- placements

-- the first line ends where the cost does
split_cost : (n : ℕ) (p : List Entry) → fenced_lines n p ≡ codes "fenced " ++ (decimal n ++ 10 ∷ lines_of (fences_of p))
split_cost n p =
    ap (λ text. codes "fenced " ++ text)
    (append_assoc (decimal n) (10 ∷ []) (flat_map (λ e. fence_line e.slot e.kind) p) ∙ ap (λ below. decimal n ++ 10 ∷ below) (lines_are p))

fences_same : (p q : List Entry) (m n : ℕ) → AreSlots (slots_of p) → AreSlots (slots_of q) → fenced_lines m p ≡ fenced_lines n q → fences_of p ≡ fences_of q
fences_same p q m n left right same =
    let whole = sym (split_cost m p) ∙ (same ∙ split_cost n q) in
    let cut = cut-same 10 (decimal m) (decimal n) (lines_of (fences_of p)) (lines_of (fences_of q)) (lacks_decimal m 10 (omega arith))
    (lacks_decimal n 10 (omega arith)) (ap (drop 7) whole) in
    fences_read (fences_of p) (fences_of q) (of_slots p left) (of_slots q right) cut.1

placement_read : (t : Test) → IsBounded t → (p q : List Entry) (m n : ℕ) → slots_of p ≡ slots t → slots_of q ≡ slots t
    → fenced_lines m p ≡ fenced_lines n q → p ≡ q
placement_read t bounded p q m n over also same =
    let small = small_slots t bounded in
    let fences = fences_same p q m n (subst AreSlots (sym over) small) (subst AreSlots (sym also) small) same in
    let words : fence_words q ≡ fence_words p = sym (words_are q) ∙ (ap (map word_of) (sym fences) ∙ words_are p) in
    one_placement t bounded (fence_words p) p q (words_place t p over) (subst (λ ws. Place t ws q) words (words_place t q also))

-- ---- witnesses

witness_read : (harts : ℕ) (v w : Witness) → IsWitnessFile harts (witness_text v) v → IsWitnessFile harts (witness_text w) w → none_lines v ≡ none_lines w → v ≡ w
witness_read harts v w left right same =
    let text : witness_text v ≡ witness_text w = append_cancel_right (witness_text v) (witness_text w) (10 ∷ []) (ap (drop 5) same) in
    file-once harts (witness_text v) v w left (subst (λ bytes. IsWitnessFile harts bytes w) (sym text) right)

differ : (p : List Entry) (n : ℕ) (w : Witness) → fenced_lines n p ≡ none_lines w → ⊥
differ p n w same = let first = ap (λ text. slice_index text 0) same in absurd (omega (arith, first))

pub one_answer : (bytes : List ℕ) (t : Test) → Reads bytes t → SayOneAnswer t
one_answer bytes t reads = record {
  placement = placement_read t (is_test bytes t reads).bounded;
  witness = witness_read (length t.codes);
  not_both = differ;
}
