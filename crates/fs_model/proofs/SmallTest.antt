-- The small test of the unit tests is bounded.
use Rattle.std.proofs.Common.{◌≡◌, ℕ, ◌≤◌, List, [], ◌∷◌, true, pos, codes, length, replicate, refl, arith}
use Rattle.std.proofs.lemmas.Bool.Decides.{nat_tests}
use Rattle.fs_instr.specs.Names.{plain}
use Rattle.fs_instr.specs.declared.instr.Instr.{Instr}
use Rattle.fs_instr.specs.declared.instr.Instr.TheVariants.{Lw, Sw, Branch}
use Rattle.fs_instr.specs.declared.names.BranchOp.TheVariants.{Bne}
use Rattle.fs_model.specs.declared.test.Location.{Location}
use Rattle.fs_model.specs.declared.test.Quantifier.TheVariants.{Exists}
use Rattle.fs_model.specs.declared.outcome.Outcome.TheVariants.{Always}
use Rattle.fs_model.specs.Test.{IsBounded, GoesForward}
use Rattle.fs_model.proofs.Tested.{All-nil, All-cons, all_reach, GoesForward-all_reach}

-- lw, a branch, sw
abbrev pub branching_code : ℕ → List Instr
branching_code target = Lw plain 0 0 (pos 0) ∷ Branch Bne 0 0 target ∷ Sw plain 0 0 (pos 0) ∷ []

reaches_later : (target : ℕ) → 2 ≤ target → target ≤ 3 → all_reach 3 0 (branching_code target) ≡ true
reaches_later target low high = grind (arith, nat_tests)

abbrev pub x : Location
x = record { name = codes "x"; word = 1 }

pub small : (target : ℕ) → 2 ≤ target → target ≤ 3 → IsBounded (record { name = codes "T"; codes = branching_code target ∷ []; starts = replicate 32 0 ∷ []; locations = x ∷ []; quantifier = Exists; condition = Always })
small target low high = record {
  starts = refl;
  forward = All-cons GoesForward (branching_code target) [] (GoesForward-all_reach (branching_code target) (reaches_later target low high)) (All-nil GoesForward);
  atoms = tt;
  harts = omega arith;
  lengths = All-cons (λ code. length code ≤ 32) (branching_code target) [] (omega arith) (All-nil (λ code. length code ≤ 32));
  accesses = omega arith;
  locations = omega arith;
  depth = omega arith;
}
