-- What the printed condition means, and how deep it is.
use Rattle.std.proofs.Common.{◌≡◌, ℕ, ◌+◌, ◌≤◌, max, List, length, Some, option_map, refl, ap, ap₂, arith}
use Rattle.fs_litmus_syntax.specs.Meaning as meaning
use Rattle.fs_litmus_syntax.specs.Meaning.{written_depth, grouped_depth, depth_of}
use Rattle.fs_litmus.specs.Atoms.{atom_at, condition_in, with_both}
use Rattle.fs_model.specs.Condition as condition
use Rattle.fs_model.specs.Condition.{Condition, nesting, SpeaksOf}
use Rattle.fs_model.specs.declared.test.Location.{Location}
use Rattle.fs_litmus.specs.inner.Written.{syntax_of}
use Rattle.fs_litmus.proofs.PrintedMeaningNames.{names_of, AreApart}
use Rattle.fs_litmus.proofs.PrintedMeaningValues.{register_set, location_asked}

pub condition_back : (columns : ℕ) (ls : List Location) (c : Condition) → AreApart ls → length ls ≤ 8 → columns ≤ 8 → SpeaksOf columns (length ls) c → condition_in columns (names_of ls) (meaning.condition_of (syntax_of ls c)) ≡ Some c
condition_back columns ls condition.Always apart few harts h = refl
condition_back columns ls condition.Never apart few harts h = refl
condition_back columns ls (condition.RegisterIs hart reg w) apart few harts h = ap (option_map (λ s. atom_at s.holder s.word)) (register_set columns ls hart reg w apart few h.0 harts h.1 h.2)
condition_back columns ls (condition.LocationIs k w) apart few harts h = ap (option_map (λ s. atom_at s.holder s.word)) (location_asked columns ls k w apart few h.0 h.1)
condition_back columns ls (condition.Deny c) apart few harts h = ap (option_map condition.Deny) (condition_back columns ls c apart few harts h)
condition_back columns ls (condition.Both c d) apart few harts h = ap₂ (with_both condition.Both) (condition_back columns ls c apart few harts h.0) (condition_back columns ls d apart few harts h.1)
condition_back columns ls (condition.Either c d) apart few harts h = ap₂ (with_both condition.Either) (condition_back columns ls c apart few harts h.0) (condition_back columns ls d apart few harts h.1)

-- ---- depth

written_nesting : (ls : List Location) (c : Condition) → written_depth (syntax_of ls c) ≡ nesting c
written_nesting ls condition.Always = refl
written_nesting ls condition.Never = refl
written_nesting ls (condition.RegisterIs hart reg w) = refl
written_nesting ls (condition.LocationIs k w) = refl
written_nesting ls (condition.Deny c) = ap (λ n. n + 1) (written_nesting ls c)
written_nesting ls (condition.Both c d) = ap₂ (λ m n. max m n + 1) (written_nesting ls c) (written_nesting ls d)
written_nesting ls (condition.Either c d) = ap₂ (λ m n. max m n + 1) (written_nesting ls c) (written_nesting ls d)

grouped_nesting : (ls : List Location) (c : Condition) → grouped_depth (meaning.condition_of (syntax_of ls c)) ≡ nesting c
grouped_nesting ls condition.Always = refl
grouped_nesting ls condition.Never = refl
grouped_nesting ls (condition.RegisterIs hart reg w) = refl
grouped_nesting ls (condition.LocationIs k w) = refl
grouped_nesting ls (condition.Deny c) = ap (λ n. n + 1) (grouped_nesting ls c)
grouped_nesting ls (condition.Both c d) = ap₂ (λ m n. max m n + 1) (grouped_nesting ls c) (grouped_nesting ls d)
grouped_nesting ls (condition.Either c d) = ap₂ (λ m n. max m n + 1) (grouped_nesting ls c) (grouped_nesting ls d)

pub depth_within : (ls : List Location) (c : Condition) → nesting c ≤ 64 → depth_of (syntax_of ls c) ≤ 64
depth_within ls c h =
    let text = written_nesting ls c in
    let grouped = grouped_nesting ls c in
    omega (arith, text, grouped, h)
