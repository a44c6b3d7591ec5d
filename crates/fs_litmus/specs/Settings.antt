-- Registers and locations that have a value, and the words that are written for them (herd7's format of litmus tests).
use Rattle.std.specs.Prelude.{ℕ, ◌-◌, ◌%◌, ◌^◌, ◌<◌, List, [], ◌∷◌, Option, Some, None, Bool, true, false, ◌==◌, ◌&&◌, ◌||◌, ◌++◌, nat_lt, nat_le, is_some, option_map, option_and_then, map, if◌then◌else◌}
use Rattle.std.specs.List.{list_any}
use Rattle.fs_litmus_syntax.specs.Init.{Entry}
use Rattle.fs_litmus_tokens.specs.Numbers.{number_of}
use Rattle.fs_litmus_tokens.specs.Values.{Target, Register, Location, Value, Number, Address}
use Rattle.fs_instr.specs.Registers.{register_of}
use Rattle.fs_model.specs.Test.{address_of}
use Rattle.fs_litmus.specs.Locations.{Names, Binding, number_of_location}
use Rattle.fs_litmus.specs.declared.settings.Holder.{Holder}
use Rattle.fs_litmus.specs.declared.settings.Holder.TheVariants as holder
use Rattle.fs_litmus.specs.declared.settings.Setting.{Setting}

-- a number from -2147483648 to 4294967295, modulo 2^32
abbrev pub signed : Bool → ℕ → Option ℕ
signed false n = Some n
signed true n = if nat_le n 2147483648 then Some ((2 ^ 32 - n) % (2 ^ 32)) else None

-- the address of a location, as a word; a test has so few locations that it never wraps
abbrev pub address_word : ℕ → ℕ
address_word k = address_of k % 2 ^ 32

-- the word that a value means; nothing for a number out of range
abbrev pub word_of : Names → Value → Option ℕ
word_of names (Number negative digits) = option_and_then (signed negative) (number_of digits)
word_of names (Address w) = option_map address_word (number_of_location names w)

abbrev pub register_holder : ℕ → ℕ → ℕ → Option Holder
register_holder columns h r = if nat_lt h columns then Some (holder.Register h r) else None

-- the register or location that a target means, in a test of so many harts; nothing for a hart or register that isn't
-- there
abbrev pub holder_of : ℕ → Names → Target → Option Holder
holder_of columns names (Register h r) = option_and_then (λ n. option_and_then (register_holder columns n) (register_of r)) (number_of h)
holder_of columns names (Location w) = option_map (λ k. holder.Location k) (number_of_location names w)

-- the register or location of a binding, and its word
abbrev pub setting_of : ℕ → Names → Binding → Option Setting
setting_of columns names b =
    option_and_then (λ p. option_map (λ w. record { holder = p; word = w }) (word_of names b.1)) (holder_of columns names b.0)

-- each binding is of a hart, a register and a location that are there, and of a number in range
abbrev pub are_there : ℕ → Names → List Binding → Bool
are_there columns names [] = true
are_there columns names (b ∷ bs) = is_some (setting_of columns names b) && are_there columns names bs

-- one of so many harts, or of so many locations
abbrev pub IsThere : (columns locations : ℕ) → Holder → Type 0
IsThere columns locations (holder.Register h r) = (h < columns) × (r < 32)
IsThere columns locations (holder.Location k) = k < locations

-- what an entry of the block of initial values binds
abbrev pub entry_bindings : List Entry → List Binding
entry_bindings es = map (λ e. (e.target, e.value)) es

-- x0 has no initial value
abbrev pub is_x0 : Holder → Bool
is_x0 (holder.Register h r) = r == 0
is_x0 (holder.Location k) = false

abbrev pub same_holder : Holder → Holder → Bool
same_holder (holder.Register h r) (holder.Register g q) = h == g && r == q
same_holder (holder.Location k) (holder.Location m) = k == m
same_holder _ _ = false

-- the registers and locations that are set
abbrev pub holders : List Setting → List Holder
holders ss = map (λ s. s.holder) ss

-- what an entry sets, after those that set these holders: not x0, and none of them
abbrev pub fresh : List Holder → Setting → Option Setting
fresh seen s = if is_x0 s.holder || list_any (same_holder s.holder) seen then None else Some s

-- the settings of the bindings, each of a register or location of its own, after those that are read already
abbrev pub settings_after : ℕ → Names → List Setting → List Binding → Option (List Setting)
settings_after columns names ss [] = Some ss
settings_after columns names ss (b ∷ bs) =
    option_and_then (λ s. settings_after columns names (ss ++ s ∷ []) bs) (option_and_then (fresh (holders ss)) (setting_of columns names b))
