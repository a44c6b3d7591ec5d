-- When a text is another one with lines put in, and labels moved.
use Rattle.std.specs.Prelude.{ℕ, Bool, true, false, not, ◌||◌, ◌&&◌, ◌==◌, List, [], ◌∷◌, if◌then◌else◌}
use Rattle.fs_litmus_tokens.specs.Bytes.{is_blank, is_letter, tail}

-- a byte of a line that is put in: of a word, a blank, one of , : | ; or the LF
abbrev pub is_added_byte : ℕ → Bool
is_added_byte b = (is_letter b || is_blank b) || (b == 44 || (b == 58 || (b == 124 || (b == 59 || b == 10))))

-- blanks, and then `:`
abbrev pub begins_colon : List ℕ → Bool
begins_colon [] = false
begins_colon (b ∷ bs) = if b == 58 then true else (if not (is_blank b) then false else begins_colon bs)

-- what is left of a label: letters, blanks, and then `:`
abbrev pub begins_label : List ℕ → Bool
begins_label [] = false
begins_label (b ∷ bs) = if not (is_letter b) then begins_colon (b ∷ bs) else begins_label bs

-- a letter of a label of which this byte, or one before it, is another one now
abbrev pub goes_on : (was : Bool) → (old new : ℕ) → Bool
goes_on was x y = is_letter x && (was || not (x == y))

-- The line in which the first text begins is that in which the second one does; but blanks may stand in the place of
-- labels. `was` says that the bytes before are of such a label, in letters.
abbrev pub is_same_line : (was : Bool) → (old new : List ℕ) → Bool
is_same_line was [] [] = true
is_same_line was [] (y ∷ ys) = false
is_same_line was (x ∷ xs) [] = false
is_same_line was (x ∷ xs) (y ∷ ys) =
    if not (x == y) && not (y == 32 && (was || begins_label (x ∷ xs))) then false
    else (if x == 10 then true else is_same_line (goes_on was x y) xs ys)

-- the first byte of the new text stands in a line that is put in: one that isn't the next line of the old text
abbrev pub is_new : (begins skips : Bool) → (old new : List ℕ) → Bool
is_new begins skips old new = if begins then not (is_same_line false old new) else skips

abbrev pub is_over : List ℕ → Bool
is_over [] = true
is_over (b ∷ bs) = false

-- Without the lines that are put in the new text is the old one, but blanks may stand in the place of labels.
abbrev pub adds : (begins skips : Bool) → (old new : List ℕ) → Bool
adds begins skips old [] = is_over old
adds begins skips old (y ∷ ys) =
    if is_new begins skips old (y ∷ ys) then is_added_byte y && adds (y == 10) true old ys
    else adds (y == 10) false (tail old) ys
