-- When a text is another one in which FENCEs became others, or blanks.
use Rattle.std.specs.Prelude.{ℕ, Bool, true, false, ◌||◌, ◌&&◌, ◌==◌, nat_eq, List, [], ◌∷◌, codes}
use Rattle.std.specs.List.{starts_with}
use Rattle.fs_litmus_tokens.specs.Bytes.{is_letter}

-- a byte of the words of a FENCE, or of the blanks between them
abbrev pub is_word_byte : ℕ → Bool
is_word_byte b = is_letter b || (b == 44 || (b == 32 || b == 9))

abbrev pub begins_words : List ℕ → Bool
begins_words [] = false
begins_words (b ∷ bs) = is_word_byte b

-- a FENCE stands over the first byte: its `fence` begins there, or it stands over the byte before and its words go on
abbrev pub is_inside : (was : Bool) → List ℕ → Bool
is_inside was bs = starts_with nat_eq bs (codes "fence") || (was && begins_words bs)

-- Both are equally long, and each byte is as it was; but where a FENCE stood there may be other words, or blanks.
abbrev pub keeps : (was : Bool) → (old new : List ℕ) → Bool
keeps was [] [] = true
keeps was [] (y ∷ ys) = false
keeps was (x ∷ xs) [] = false
keeps was (x ∷ xs) (y ∷ ys) =
    (x == y || (is_inside was (x ∷ xs) && is_word_byte y)) && keeps (is_inside was (x ∷ xs)) xs ys
