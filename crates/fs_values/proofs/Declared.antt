-- A run stores at declared locations only.
use Rattle.std.proofs.Common.{◌≡◌, ℕ, ◌<◌, inl, inr, None, Some, List, [], ◌∷◌, length, refl, sym, ◌∙◌, subst, arith}
use Rattle.fs_model.specs.declared.test.Test.{Test}
use Rattle.fs_model.specs.Test.{address_of}
use Rattle.fs_instr.specs.declared.instr.Instr.{Instr}
use Rattle.fs_instr.specs.declared.instr.Instr.TheVariants.{Lw, Sw, Lr, Sc, Amo}
use Rattle.fs_model.specs.declared.hart.Hart.{Hart}
use Rattle.fs_model.specs.declared.step.Step.{Step}
use Rattle.fs_model.specs.Trace.{IsDeclared, Accesses, AreSteps, after_step, paired_after, start_with}
use Rattle.fs_model.specs.Execution.{IsTrace, code_of, registers_of}
use Rattle.fs_model.specs.Values.{StoresWord}
use Rattle.fs_model.proofs.OptionalNumbers.{not_none}
use Rattle.fs_model.proofs.RunLocations.{HasDeclaredPair}

accessed : (n : ℕ) (h : Hart) (s : Step) (i : Instr) → Accesses n h s i → HasDeclaredPair n h → (a : ℕ) → s.address ≡ Some a → IsDeclared n (Some a)
accessed n h s (Lw ann rd base offset) access pair a e = subst (IsDeclared n) e access.0.1
accessed n h s (Lr ann rd base) access pair a e = subst (IsDeclared n) e access.0.1
accessed n h s (Sw ann value base offset) access pair a e = subst (IsDeclared n) e access.0.1
accessed n h s (Amo op ann rd value base) access pair a e = subst (IsDeclared n) e access.0.1
accessed n h s (Sc ann rd value base) access pair a e = elim access [
  | inl done ↦ pair a (sym done.1 ∙ e)
  | inr failed ↦ absurd (not_none s.address a failed.0 e)
]
accessed n h s _ access pair a e = absurd (not_none s.address a access.0 e)

paired : (n : ℕ) (h : Hart) (s : Step) (i : Instr) → Accesses n h s i → HasDeclaredPair n h → (a : ℕ) → paired_after h s i ≡ Some a → IsDeclared n (Some a)
paired n h s (Lr ann rd base) access pair a e = subst (IsDeclared n) e access.0.1
paired n h s (Sc ann rd value base) access pair a e = absurd (not_none None a refl e)
paired n h s _ access pair a e = pair a e

same : {a b : ℕ} → Some a ≡ Some b → a ≡ b
same h = cc

inside : (n k : ℕ) → IsDeclared n (Some (address_of k)) → k < n
inside n k (j, low, at) = let e : address_of k ≡ address_of j = same at in omega (arith, low, e)

steps_store : (n : ℕ) (code : List Instr) (h : Hart) (steps : List Step) (k word : ℕ) → AreSteps n code h steps → HasDeclaredPair n h
    → StoresWord steps k word → k < n
steps_store n code h [] k word run pair none = absurd none
steps_store n code h (s ∷ ss) k word run pair (inl here) = inside n k (accessed n h s s.instr run.0.2 pair (address_of k) here.0)
steps_store n code h (s ∷ ss) k word run pair (inr later) =
    steps_store n code (after_step h s) ss k word run.1 (paired n h s s.instr run.0.2 pair) later

pub stored_declared : (t : Test) (hart : ℕ) (steps : List Step) (k word : ℕ) → IsTrace t hart steps → StoresWord steps k word → k < length t.locations
stored_declared t hart steps k word run stores =
    steps_store (length t.locations) (code_of t hart) (start_with (registers_of t hart)) steps k word run.0
    (λ a e. absurd (not_none None a refl e)) stores
