-- A store whose loads take words of a set is that of a run over the set.
use Rattle.std.proofs.Common.{◌≡◌, ℕ, zero, suc, ◌<◌, ◌^◌, List, [], ◌∷◌, length, map, All, Some, is_some, refl, sym, ap, inl, inr, arith}
use Rattle.std.specs.Prelude.{slice_get, unwrap_or}
use Rattle.std.proofs.lemmas.List.{append-nil}
use Rattle.std.proofs.lemmas.List.Elements.{All-head, All-tail}
use Rattle.fs_model.specs.declared.test.Test.{Test}
use Rattle.fs_model.specs.declared.test.Location.{Location}
use Rattle.fs_model.specs.Test.{IsBounded}
use Rattle.fs_model.specs.Choices.{choices_of}
use Rattle.fs_model.specs.Execution.{initial_words, code_of, registers_of}
use Rattle.fs_model.specs.Values.{IsValueAfter}
use Rattle.fs_hart.proofs.Along.{code_forward}
use Rattle.fs_values.specs.ThinAir.{BeginsWithWords, KeepsStores}
use Rattle.fs_values.proofs.Finish.{AreInitial}
use Rattle.fs_values.proofs.Kept.{store_kept}

module _ (t : Test) (bounded : IsBounded t) (words : BeginsWithWords t) where
  small : (ls : List Location) → All (λ (l : Location). l.word < 2 ^ 32) ls → (k : ℕ) → unwrap_or (slice_get (map (λ (l : Location). l.word) ls) k) 0 < 2 ^ 32
  small [] all k = omega arith
  small (l ∷ ls) all zero = All-head (λ (l : Location). l.word < 2 ^ 32) l ls all
  small (l ∷ ls) all (suc k) = small ls (All-tail (λ (l : Location). l.word < 2 ^ 32) l ls all) k

  there : (ls : List Location) (k : ℕ) → k < length ls
      → slice_get (map (λ (l : Location). l.word) ls) k ≡ Some (unwrap_or (slice_get (map (λ (l : Location). l.word) ls) k) 0)
  there [] k low = absurd (omega (arith, low))
  there (l ∷ ls) zero low = refl
  there (l ∷ ls) (suc k) low = there ls k (omega (arith, low))

  initial : (V : ℕ → ℕ → Type 0) → ((k word : ℕ) → IsValueAfter t 0 k word → V k word)
      → AreInitial (length t.locations) (initial_words t) V
  initial V has = record {
    small = small t.locations words;
    values = λ k low. has k _ (there t.locations k low);
  }

  -- the altered run
  pub keeps_stores : (V : ℕ → ℕ → Type 0) → KeepsStores t V
  keeps_stores V has hart of_test never steps r j s at loads k w address stored =
      let forward = code_forward t hart bounded.forward of_test in
      let kept = store_kept (length t.locations) (code_of t hart) (initial_words t) V forward (initial V has) steps j s at
      (ap is_some stored) (λ i u low on there. loads i u on there) (registers_of t hart) r.0 in
      let us = kept.0 in
      let end = kept.1 in
      elim end.ends [
        | inl whole ↦ (us, (end.runs, whole), end.loads, kept.2 k w address stored)
        | inr astray ↦ absurd (never (choices_of us) astray.0 (record {
          steps = us;
          astray = (end.runs, ([], sym (append-nil (choices_of us)), astray.1));
          all_taken = refl;
          loads = end.loads;
        }))
      ]
