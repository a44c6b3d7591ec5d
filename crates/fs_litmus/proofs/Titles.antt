-- The name of a test is a text in one line, without blanks at its ends.
use Rattle.std.proofs.Common.{◌≡◌, ◌≢◌, ℕ, suc, ◌+◌, ◌<◌, List, [], ◌∷◌, ◌++◌, Bool, true, false, ◌&&◌, ◌||◌, ◌==◌, cond, not, Some, None, refl, sym, ◌∙◌, subst, append_assoc, append-nil, take, drop, arith, eqb-true}
use Rattle.std.specs.Prelude.{IsTrue, slice_get}
use Rattle.std.specs.List.{prefix_len, list_all, list_any, last_or}
use Rattle.std.specs.Str.{IsUtf8}
use Rattle.std.proofs.lemmas.List.{take-append-drop}
use Rattle.std.proofs.lemmas.List.Folds.{list_any-append}
use Rattle.fs_litmus_tokens.specs.Bytes.{is_blank}
use Rattle.fs_model.specs.Test.{is_title, is_visible}
use Rattle.fs_litmus.specs.Title.{is_within_line, line_of, ends_in_blank, begins_with_blank, top_of, IsTrimmed, HasTitle}
use Rattle.fs_litmus.proofs.Utf8Pieces.{utf8_before, utf8_tail}
use Rattle.fs_litmus.proofs.Tops.{top_below}
use Rattle.fs_litmus.proofs.Bools.{both, neither}

-- ---- lines

abbrev is_feed : ℕ → Bool
is_feed c = c == 10

feed_step : (b : ℕ) (bs : List ℕ) (r : Bool) → (b == 10) ≡ r → list_any is_feed (line_of bs) ≡ false → list_any is_feed (take (cond (not r) (1 + prefix_len is_within_line bs) 0) (b ∷ bs)) ≡ false
feed_step b bs true e h = refl
feed_step b bs false e h =
    let same : suc (prefix_len is_within_line bs) ≡ 1 + prefix_len is_within_line bs = omega arith in
    subst (λ n. list_any is_feed (take n (b ∷ bs)) ≡ false) same (rw e h)

no_feed : (bs : List ℕ) → list_any is_feed (line_of bs) ≡ false
no_feed [] = refl
no_feed (b ∷ bs) = feed_step b bs (b == 10) refl (no_feed bs)

-- nothing, or a line feed
abbrev EndsLine : List ℕ → Type 0
EndsLine [] = Unit {0}
EndsLine (b ∷ bs) = b ≡ 10

end_step : (b : ℕ) (bs : List ℕ) (r : Bool) → (b == 10) ≡ r → EndsLine (drop (prefix_len is_within_line bs) bs) → EndsLine (drop (cond (not r) (1 + prefix_len is_within_line bs) 0) (b ∷ bs))
end_step b bs true e h = eqb-true b 10 e
end_step b bs false e h =
    let same : suc (prefix_len is_within_line bs) ≡ 1 + prefix_len is_within_line bs = omega arith in
    subst (λ n. EndsLine (drop n (b ∷ bs))) same h

ends_line : (bs : List ℕ) → EndsLine (drop (prefix_len is_within_line bs) bs)
ends_line [] = tt
ends_line (b ∷ bs) = end_step b bs (b == 10) refl (ends_line bs)

cut_line : (line rest : List ℕ) → EndsLine rest → IsUtf8 (line ++ rest) → IsUtf8 line
cut_line line [] h u = subst IsUtf8 (append-nil line) u
cut_line line (b ∷ rest) h u = let low : b < 128 = omega (arith, h) in utf8_before line rest b low u

line_utf8 : (bs : List ℕ) → IsUtf8 bs → IsUtf8 (line_of bs)
line_utf8 bs u =
    cut_line (line_of bs) (drop (prefix_len is_within_line bs) bs) (ends_line bs) (subst IsUtf8 (sym (take-append-drop (prefix_len is_within_line bs) bs)) u)

-- ---- between blanks

blank_if : (b : ℕ) (x y z : Bool) → (b == 32) ≡ x → (b == 9) ≡ y → (b == 13) ≡ z → (x || (y || z)) ≡ true → b < 128
blank_if b true y z e f g h = let same = eqb-true b 32 e in omega (arith, same)
blank_if b false true z e f g h = let same = eqb-true b 9 f in omega (arith, same)
blank_if b false false true e f g h = let same = eqb-true b 13 g in omega (arith, same)
blank_if b false false false e f g h = absurd (cc)

blank_low : (b : ℕ) → is_blank b ≡ true → b < 128
blank_low b h = blank_if b (b == 32) (b == 9) (b == 13) refl refl refl h

utf8_past : (blanks text : List ℕ) → list_all is_blank blanks ≡ true → IsUtf8 (blanks ++ text) → IsUtf8 text
utf8_past [] text h u = u
utf8_past (b ∷ bs) text h u =
    let s = both (is_blank b) (list_all is_blank bs) h in
    utf8_past bs text s.1 (utf8_tail (bs ++ text) b (blank_low b s.0) u)

utf8_until : (text blanks : List ℕ) → list_all is_blank blanks ≡ true → IsUtf8 (text ++ blanks) → IsUtf8 text
utf8_until text [] h u = subst IsUtf8 (append-nil text) u
utf8_until text (b ∷ bs) h u = utf8_before text bs b (blank_low b (both (is_blank b) (list_all is_blank bs) h).0) u

trimmed_utf8 : (line text : List ℕ) → IsTrimmed line text → IsUtf8 line → IsUtf8 text
trimmed_utf8 line text h u =
    utf8_until text h.after h.blank_after (utf8_past h.before (text ++ h.after) h.blank_before (subst IsUtf8 (h.split ∙ append_assoc h.before text h.after) u))

five_past : (a b c d e : ℕ) (rest : List ℕ) → a < 128 → b < 128 → c < 128 → d < 128 → e < 128 → IsUtf8 (a ∷ b ∷ c ∷ d ∷ e ∷ rest) → IsUtf8 rest
five_past a b c d e rest la lb lc ld le u =
    utf8_tail rest e le (utf8_tail (e ∷ rest) d ld (utf8_tail (d ∷ e ∷ rest) c lc (utf8_tail (c ∷ d ∷ e ∷ rest) b lb (utf8_tail (b ∷ c ∷ d ∷ e ∷ rest) a la u))))

-- the name is text
pub title_utf8 : (bytes name : List ℕ) → IsUtf8 bytes → HasTitle bytes name → IsUtf8 name
title_utf8 bytes name u h =
    let line = subst IsUtf8 h.line (line_utf8 (top_of bytes).0 ((top_below bytes).utf8 u)) in
    let rest = five_past 82 73 83 67 86 (h.blank ∷ h.words) (omega arith) (omega arith) (omega arith) (omega arith) (omega arith) line in
    trimmed_utf8 h.words name h.trimmed (utf8_tail h.words h.blank (blank_low h.blank h.is_blank) rest)

-- ---- what is_title asks for

seen : (b : Bool) → b ≡ false → not b ≡ true
seen b e = rw e refl

first_visible : (text : List ℕ) → text ≢ [] → begins_with_blank text ≡ false → is_visible (slice_get text 0) ≡ true
first_visible [] n h = absurd (n refl)
first_visible (b ∷ bs) n h = seen (is_blank b) h

last_visible : (b : ℕ) (bs : List ℕ) → ends_in_blank (b ∷ bs) ≡ false → is_visible (last_or (Some b) bs) ≡ true
last_visible b [] h = seen (is_blank b) h
last_visible b (c ∷ bs) h = last_visible c bs h

last_seen : (text : List ℕ) → text ≢ [] → ends_in_blank text ≡ false → is_visible (last_or None text) ≡ true
last_seen [] n h = absurd (n refl)
last_seen (b ∷ bs) n h = last_visible b bs h

-- of a line without a line feed, a part has none
part_feed : (a b : List ℕ) → list_any is_feed (a ++ b) ≡ false → (list_any is_feed a ≡ false) × (list_any is_feed b ≡ false)
part_feed a b h = neither (list_any is_feed a) (list_any is_feed b) (sym (list_any-append is_feed a b) ∙ h)

three : (a b c : Bool) → a ≡ true → b ≡ true → c ≡ false → IsTrue (a && b && not c)
three true true false e f g = refl
three true true true e f g = absurd (cc)
three true false c e f g = absurd (cc)
three false b c e f g = absurd (cc)

later_feed : (b : ℕ) (bs : List ℕ) → list_any is_feed (b ∷ bs) ≡ false → list_any is_feed bs ≡ false
later_feed b bs h = (neither (b == 10) (list_any is_feed bs) h).1

pub title_is : (bytes name : List ℕ) → HasTitle bytes name → IsTrue (is_title name)
title_is bytes name h =
    let line = subst (λ l. list_any is_feed l ≡ false) h.line (no_feed (top_of bytes).0) in
    let words = later_feed h.blank h.words (part_feed (82 ∷ 73 ∷ 83 ∷ 67 ∷ 86 ∷ []) (h.blank ∷ h.words) line).1 in
    let text = subst (λ l. list_any is_feed l ≡ false) h.trimmed.split words in
    let none = (part_feed h.trimmed.before name (part_feed (h.trimmed.before ++ name) h.trimmed.after text).0).1 in
    three _ _ _ (first_visible name h.some h.trimmed.first) (last_seen name h.some h.trimmed.last) none
