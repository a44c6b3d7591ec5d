-- The test for a memory instruction at a position.
use Rattle.std.proofs.Common.{◌≡◌, ℕ, ◌<◌, ◌≤◌, List, length, get_or, false, ap}
use Rattle.std.specs.Prelude.{option_map, unwrap_or}
use Rattle.std.proofs.lemmas.Option.{slice_get-get_or, slice_get_past}
use Rattle.fs_instr.specs.declared.instr.Instr.{Instr}
use Rattle.fs_model.specs.Slots.{is_memory_at}
use Rattle.fs_instr.specs.Instructions.{is_memory}

pub is_memory_at-within : (code : List Instr) (at : ℕ) (d : Instr) → at < length code → is_memory_at code at ≡ is_memory (get_or code at d)
is_memory_at-within code at d h = ap (λ o. unwrap_or (option_map is_memory o) false) (slice_get-get_or code at d h)

pub is_memory_at-past : (code : List Instr) (at : ℕ) → length code ≤ at → is_memory_at code at ≡ false
is_memory_at-past code at h = ap (λ o. unwrap_or (option_map is_memory o) false) (slice_get_past code at h)

pub ruleset is_memory_at_steps = (is_memory_at-within, is_memory_at-past)
