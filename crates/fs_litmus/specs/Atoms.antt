-- A condition in terms of a test's harts, registers and locations.
use Rattle.std.specs.Prelude.{ℕ, Option, Some, option_map, option_and_then}
use Rattle.fs_litmus_syntax.specs.Meaning as written
use Rattle.fs_model.specs.Condition.{Condition, Always, Never, RegisterIs, LocationIs, Deny, Both, Either}
use Rattle.fs_litmus.specs.Locations.{Names, Binding}
use Rattle.fs_litmus.specs.Settings.{setting_of}
use Rattle.fs_litmus.specs.declared.settings.Holder.{Holder}
use Rattle.fs_litmus.specs.declared.settings.Holder.TheVariants as holder

-- the register or location has this word at the end
abbrev pub atom_at : Holder → ℕ → Condition
atom_at (holder.Register h r) word = RegisterIs h r word
atom_at (holder.Location k) word = LocationIs k word

abbrev pub atom_of : ℕ → Names → Binding → Option Condition
atom_of columns names b = option_map (λ s. atom_at s.holder s.word) (setting_of columns names b)

abbrev pub with_both : (Condition → Condition → Condition) → Option Condition → Option Condition → Option Condition
with_both f a b = option_and_then (λ x. option_map (λ y. f x y) b) a

-- the condition that is written, in a test of so many harts and these locations; nothing where an atom names what isn't
-- there or has a number out of range
abbrev pub condition_in : ℕ → Names → written.Condition → Option Condition
condition_in columns names (written.Atom t v) = atom_of columns names (t, v)
condition_in columns names written.True = Some Always
condition_in columns names written.False = Some Never
condition_in columns names (written.Deny c) = option_map Deny (condition_in columns names c)
condition_in columns names (written.Both a b) = with_both Both (condition_in columns names a) (condition_in columns names b)
condition_in columns names (written.Either a b) = with_both Either (condition_in columns names a) (condition_in columns names b)
