-- The name of a site, as its labels give it: lock_0 and lock_17 are labels of the site lock.
use Rattle.std.specs.Prelude.{ℕ, List, [], ◌∷◌, Bool, ◌||◌, ◌==◌, if◌then◌else◌}
use Rattle.std.specs.Char.{is_ascii_digit}
use Rattle.std.specs.List.{list_all}

-- what may stand behind a site's name: a digit or _
abbrev pub is_copy_byte : ℕ → Bool
is_copy_byte b = is_ascii_digit b || b == 95

-- the bytes without the digits and _ at their end
abbrev pub stem : List ℕ → List ℕ
stem [] = []
stem (b ∷ bs) = if list_all is_copy_byte (b ∷ bs) then [] else b ∷ stem bs

-- the name, or the whole word where that is empty
abbrev pub or_whole : List ℕ → List ℕ → List ℕ
or_whole word [] = word
or_whole word (b ∷ bs) = b ∷ bs

-- the site that a label names: its word without the digits and _ at its end, or all of it where nothing else is there
abbrev pub site_name : List ℕ → List ℕ
site_name word = or_whole word (stem word)
