-- The letters of a fence.
use Rattle.std.specs.Prelude.{ℕ, List, [], ◌∷◌, ◌++◌, Option, Some, None, Bool, true, false, codes, if◌then◌else◌}
use Rattle.std.specs.Str.{bytes_eq}
use Rattle.fs_instr.specs.declared.letters.Letters.{Letters}

abbrev pub letter : Bool → List ℕ → List ℕ
letter true text = text
letter false text = []

-- the letters i, o, r and w in this order
abbrev pub letters_text : Letters → List ℕ
letters_text l = letter l.input (codes "i") ++ letter l.output (codes "o") ++ letter l.reads (codes "r") ++ letter l.writes (codes "w")

abbrev pub lettered : List Letters → List ℕ → Option Letters
lettered [] word = None
lettered (l ∷ ls) word = if bytes_eq word (letters_text l) then Some l else lettered ls word

abbrev pub some_letters : Bool → Bool → Bool → Bool → Letters
some_letters i o r w = record { input = i; output = o; reads = r; writes = w }

-- one letter or more
unfoldable pub letters_rows : List Letters
letters_rows =
    some_letters false false false true ∷
    some_letters false false true false ∷
    some_letters false false true true ∷
    some_letters false true false false ∷
    some_letters false true false true ∷
    some_letters false true true false ∷
    some_letters false true true true ∷
    some_letters true false false false ∷
    some_letters true false false true ∷
    some_letters true false true false ∷
    some_letters true false true true ∷
    some_letters true true false false ∷
    some_letters true true false true ∷
    some_letters true true true false ∷
    some_letters true true true true ∷
    []

-- the letters that this word writes
abbrev pub letters_of : List ℕ → Option Letters
letters_of word = lettered letters_rows word
