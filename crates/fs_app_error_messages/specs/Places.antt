-- Places in a file as editors count them, and a line of it as it is shown.
use Rattle.std.specs.Prelude.{ℕ, ◌+◌, List, [], ◌∷◌, Bool, ◌==◌, ◌&&◌, nat_le, nat_lt, not, map, if◌then◌else◌}
use Rattle.std.specs.List.{filter}
use Rattle.fs_app_error_messages.specs.declared.places.Place.{Place}

-- a byte that goes on with a character of UTF-8, and begins none
abbrev pub goes_on : ℕ → Bool
goes_on b = nat_le 128 b && nat_lt b 192

-- the place behind a byte at this offset; a column counts characters
abbrev pub behind : Place → ℕ → ℕ → Place
behind p at b =
    if b == 10 then record { line = p.line + 1; column = 1; start = at + 1 }
    else (if goes_on b then p else record { line = p.line; column = p.column + 1; start = p.start })

-- the place behind these bytes, the first of which stands at this place and offset
abbrev pub place_after : Place → ℕ → List ℕ → Place
place_after p at [] = p
place_after p at (b ∷ bs) = place_after (behind p at b) (at + 1) bs

abbrev pub first_place : Place
first_place = record { line = 1; column = 1; start = 0 }

-- a character as it is shown: as it is where ASCII prints it, a tab as a space, any other as ?
abbrev pub shown_byte : ℕ → ℕ
shown_byte b = if nat_le 32 b && nat_lt b 127 then b else (if b == 9 then 32 else 63)

-- the characters of these bytes, as they are shown
abbrev pub shown : List ℕ → List ℕ
shown bs = map shown_byte (filter (λ b. not (goes_on b)) bs)
