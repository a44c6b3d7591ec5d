-- Runs go forward in code whose branches do.
use Rattle.std.proofs.Common.{◌≡◌, ℕ, ◌+◌, ◌<◌, ◌≤◌, Bool, true, false, if◌then◌else◌, Some, List, [], ◌∷◌, length, refl, ap, ◌∙◌, arith}
use Rattle.std.specs.Prelude.{slice_get, option_and_then}
use Rattle.fs_instr.specs.declared.instr.Instr.{Instr}
use Rattle.fs_instr.specs.declared.instr.Instr.TheVariants.{Register, Immediate, Shift, Lui, Li, Lw, Sw, Lr, Sc, Amo, Branch, Jump, Fence, FenceTso, FenceI}
use Rattle.fs_instr.specs.Instructions.{target_of}
use Rattle.std.proofs.lemmas.Option.{slice_get_within}
use Rattle.std.proofs.lemmas.List.Elements.{All-get_or}
use Rattle.fs_model.specs.declared.test.Test.{Test}
use Rattle.fs_model.specs.Test.{GoesForward, IsBounded}
use Rattle.fs_model.specs.Execution.{IsTrace, code_of, registers_of}
use Rattle.fs_model.specs.declared.hart.Hart.{Hart}
use Rattle.fs_model.specs.declared.step.Step.{Step}
use Rattle.fs_model.specs.Execute.{next_after, does_branch, read}
use Rattle.fs_model.specs.Trace.{AreSteps, Runs, after_step, hart_after, start_with}

-- the next position is later, and not past the end of the code
abbrev pub IsLater : List Instr → ℕ → ℕ → Type 0
IsLater code at next = (at < next) × (next ≤ length code)

branched : (code : List Instr) (at target : ℕ) (b : Bool) → at < length code → IsLater code at target → IsLater code at (if b then target else at + 1)
branched code at target true l p = p
branched code at target false l p = (omega arith, omega arith)

after : (code : List Instr) (at : ℕ) → at < length code → IsLater code at (at + 1)
after code at l = (omega arith, omega arith)

goes : (code : List Instr) (at : ℕ) (x : List ℕ) (i : Instr) → at < length code → ((target : ℕ) → target_of i ≡ Some target → IsLater code at target) → IsLater code at (next_after x at i)
goes code at x (Register op rd first second) l f = after code at l
goes code at x (Immediate op rd first immediate) l f = after code at l
goes code at x (Shift op rd first amount) l f = after code at l
goes code at x (Lui rd upper) l f = after code at l
goes code at x (Li rd word) l f = after code at l
goes code at x (Lw ann rd base offset) l f = after code at l
goes code at x (Sw ann value base offset) l f = after code at l
goes code at x (Lr ann rd base) l f = after code at l
goes code at x (Sc ann rd value base) l f = after code at l
goes code at x (Amo op ann rd value base) l f = after code at l
goes code at x (Branch op first second target) l f = branched code at target (does_branch op (read x first) (read x second)) l (f target refl)
goes code at x (Jump target) l f = f target refl
goes code at x (Fence before after') l f = after code at l
goes code at x FenceTso l f = after code at l
goes code at x FenceI l f = after code at l

pub goes_on : (code : List Instr) (at : ℕ) (x : List ℕ) (i : Instr) → GoesForward code → at < length code → slice_get code at ≡ Some i → IsLater code at (next_after x at i)
goes_on code at x i forward l e =
    goes code at x i l (λ target f. let known : option_and_then target_of (slice_get code at) ≡ Some target = ap (option_and_then target_of) e ∙ f in forward at target known)

-- so many steps take a hart at least as far
goes_far : (n : ℕ) (code : List Instr) (h : Hart) (ss : List Step) → GoesForward code → h.at ≤ length code → AreSteps n code h ss
    → (h.at + length ss ≤ (hart_after h ss).at) × ((hart_after h ss).at ≤ length code)
goes_far n code h [] forward l r = (omega arith, l)
goes_far n code h (s ∷ ss) forward l r =
    let inside = slice_get_within code h.at s.instr r.0.1 in
    let later = goes_on code h.at h.registers s.instr forward inside r.0.1 in
    let rest = goes_far n code (after_step h s) ss forward later.1 r.1 in
    (let far = rest.0 in let next = later.0 in omega arith, rest.1)

-- a run has no more steps than its code has instructions
pub runs_short : (n : ℕ) (code : List Instr) (registers : List ℕ) (ss : List Step) → GoesForward code → Runs n code registers ss → length ss ≤ length code
runs_short n code registers ss forward r =
    let far = goes_far n code (start_with registers) ss forward (omega arith) r.0 in
    omega arith

pub traces_short : (t : Test) (hart : ℕ) (steps : List Step) → IsBounded t → hart < length t.codes → IsTrace t hart steps → length steps ≤ 32
traces_short t hart steps bounded l r =
    let code = code_of t hart in
    let short = runs_short (length t.locations) code (registers_of t hart) steps (All-get_or GoesForward t.codes hart [] l bounded.forward) r in
    let small : length code ≤ 32 = All-get_or (λ code. length code ≤ 32) t.codes hart [] l bounded.lengths in
    omega arith
