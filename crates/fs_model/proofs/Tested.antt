-- Tests into Bool of what a litmus test is: they compute on a test that is written out.
use Rattle.std.proofs.Common.{◌≡◌, ℕ, zero, suc, ◌+◌, ◌<◌, ◌≤◌, List, [], ◌∷◌, All, length, Bool, true, ◌&&◌, nat_lt, nat_le, Option, Some, None, option_and_then, slice_get, arith}
use Rattle.std.proofs.lemmas.Bool.Decides.{nat_tests}
use Rattle.fs_instr.specs.Instructions.{target_of}
use Rattle.fs_instr.specs.declared.instr.Instr.{Instr}
use Rattle.fs_model.specs.Test.{GoesForward}

pub All-nil : {X : Type 0} (P : X → Type 0) → All P []
All-nil P k d low = absurd (omega arith)

pub All-cons : {X : Type 0} (P : X → Type 0) (x : X) (xs : List X) → P x → All P xs → All P (x ∷ xs)
All-cons P x xs first rest zero d low = first
All-cons P x xs first rest (suc k) d low = rest k d (omega arith)

abbrev pub reaches : (end at : ℕ) → Option ℕ → Bool
reaches end at None = true
reaches end at (Some target) = nat_lt at target && nat_le target end

abbrev pub all_reach : (end at : ℕ) → List Instr → Bool
all_reach end at [] = true
all_reach end at (i ∷ is) = reaches end at (target_of i) && all_reach end (at + 1) is

reached : (end at : ℕ) (o : Option ℕ) (target : ℕ) → reaches end at o ≡ true → o ≡ Some target → (at < target) × (target ≤ end)
reached end at None target goes same = absurd cc
reached end at (Some to) target goes same =
    let to_is : to ≡ target = cc in
    let low : at < to = grind (arith, nat_tests) in
    let high : to ≤ end = grind (arith, nat_tests) in
    (omega arith, omega arith)

forward_from : (end start : ℕ) (code : List Instr) → all_reach end start code ≡ true → (at target : ℕ) → option_and_then target_of (slice_get code at) ≡ Some target → (start + at < target) × (target ≤ end)
forward_from end start [] all at target same = absurd cc
forward_from end start (i ∷ is) all zero target same =
    let first : reaches end start (target_of i) ≡ true = grind arith in
    let there = reached end start (target_of i) target first same in
    (omega (arith, there.0), there.1)
forward_from end start (i ∷ is) all (suc at) target same =
    let rest : all_reach end (start + 1) is ≡ true = grind arith in
    let there = forward_from end (start + 1) is rest at target same in
    (omega (arith, there.0), there.1)

pub GoesForward-all_reach : (code : List Instr) → all_reach (length code) 0 code ≡ true → GoesForward code
GoesForward-all_reach code all at target same =
    let there = forward_from (length code) 0 code all at target same in
    (omega (arith, there.0), there.1)
