-- Ends of the runs and harts that were looked at so far.
use Rattle.std.proofs.Common.{◌≡◌, ℕ, ◌+◌, ◌<◌, ◌≤◌, Bool, not, Some, List, [], ◌∷◌, ◌++◌, length, get_or, inl, inr, refl, sym, ◌∙◌, subst, arith, length-append}
use Rattle.std.specs.Prelude.{slice_get}
use Rattle.std.specs.List.{Contains, slice_index_or}
use Rattle.std.proofs.lemmas.Bool.{cases_lt}
use Rattle.std.proofs.lemmas.Option.{slice_get_read}
use Rattle.std.proofs.lemmas.List.{get_or_append_left}
use Rattle.std.proofs.Math.Seq.{get_or-append_seam}
use Rattle.std.proofs.lemmas.List.Elements.{Contains-get_or}
use Rattle.fs_model.specs.Condition.{Condition}
use Rattle.fs_region_refutation.specs.Alone.{RunOf}
use Rattle.fs_judge_outcomes.specs.declared.end.End.{End}
use Rattle.fs_judge_outcomes.specs.inner.Settled.{truth_of}
use Rattle.fs_judge_outcomes.specs.inner.Ends.{with_hart}
use Rattle.fs_judge_outcomes.specs.inner.Runs.{end_of, Adds, AreEnds}

-- the run rules out by itself that the condition is as wanted
abbrev pub IsDead : Bool → Condition → ℕ → RunOf → Type 0
IsDead wanted c hart run = with_hart hart (end_of c run).registers c ≡ truth_of (not wanted)

-- the ends of the first so many runs
pub record SeenEnds (wanted : Bool) (c : Condition) (hart : ℕ) (runs : List RunOf) (n : ℕ) (ends : List End) : Type 0 where
  pub sound : (end : End) → Contains ends end → (run : RunOf) × Contains runs run × (end ≡ end_of c run)
  pub complete : (i : ℕ) (run : RunOf) → i < n → slice_get runs i ≡ Some run → (IsDead wanted c hart run → ⊥) → Contains ends (end_of c run)

module _ (wanted : Bool) (c : Condition) (hart : ℕ) (runs : List RunOf) where
  pub seen_none : SeenEnds wanted c hart runs 0 []
  seen_none = record {
    sound = λ end has. (let low = has.1 in absurd (omega (arith, low)));
    complete = λ i run low at alive. absurd (omega (arith, low));
  }

  pub seen_next : (n : ℕ) (run : RunOf) (before after : List End) → SeenEnds wanted c hart runs n before → n < length runs → run ≡ get_or runs n run
      → Adds wanted c hart run before after → SeenEnds wanted c hart runs (n + 1) after
  seen_next n run before after seen low is adds =
      let at = slice_get_read runs (length runs) n run refl low is in
      record {
        sound = λ end has. elim (adds.sound end has) [
          | inl old ↦ seen.sound end old
          | inr new ↦ (run, subst (Contains runs) (sym is) (Contains-get_or runs n run low), new)
        ];
        complete = λ i other less here alive. elim (cases_lt i n) [
          | inl before_it ↦ adds.kept (end_of c other) (seen.complete i other before_it here alive)
          | inr high ↦ (
              let same : i ≡ n = omega (arith, less, high) in
              let there : slice_get runs n ≡ Some other = subst (λ k. slice_get runs k ≡ Some other) same here in
              let both : Some run ≡ Some other = sym at ∙ there in
              let one : run ≡ other = cc in
              subst (λ r. Contains after (end_of c r)) one (adds.complete (λ dead. alive (subst (IsDead wanted c hart) one dead))))
        ];
      }

  pub seen_all : (n : ℕ) (ends : List End) → length runs ≤ n → SeenEnds wanted c hart runs n ends → AreEnds wanted c hart runs ends
  seen_all n ends high seen = record {
    sound = seen.sound;
    complete = λ run has alive.
        let low = has.1 in
        seen.complete has.0 run (omega (arith, low, high)) (slice_get_read runs (length runs) has.0 run refl low (sym has.2)) alive;
  }

-- of the first so many harts
pub record FirstEnds (wanted : Bool) (c : Condition) (runs : List (List RunOf)) (n : ℕ) (lists : List (List End)) : Type 0 where
  pub harts : length lists ≡ n
  pub each : (hart : ℕ) → hart < n → AreEnds wanted c hart (slice_index_or runs hart []) (slice_index_or lists hart [])

module _ (wanted : Bool) (c : Condition) (runs : List (List RunOf)) where
  pub first_none : FirstEnds wanted c runs 0 []
  first_none = record { harts = refl; each = λ hart low. absurd (omega (arith, low)) }

  pub first_next : (n : ℕ) (lists : List (List End)) (ends : List End) → FirstEnds wanted c runs n lists
      → AreEnds wanted c n (slice_index_or runs n []) ends → FirstEnds wanted c runs (n + 1) (lists ++ ends ∷ [])
  first_next n lists ends before here = record {
    harts = (let one = length-append lists (ends ∷ []) in let old = before.harts in omega (arith, one, old));
    each = λ hart low. elim (cases_lt hart n) [
      | inl less ↦ (
          let old = before.harts in
          let same : get_or (lists ++ ends ∷ []) hart [] ≡ get_or lists hart [] = get_or_append_left lists (ends ∷ []) [] hart (omega (arith, less, old)) in
          subst (AreEnds wanted c hart (slice_index_or runs hart [])) (sym same) (before.each hart less))
      | inr high ↦ (
          let same : n ≡ hart = omega (arith, low, high) in
          let last : get_or (lists ++ ends ∷ []) n [] ≡ ends =
          subst (λ k. get_or (lists ++ ends ∷ []) k [] ≡ ends) before.harts (get_or-append_seam lists ends [] []) in
          subst (λ h. AreEnds wanted c h (slice_index_or runs h []) (slice_index_or (lists ++ ends ∷ []) h [])) same
          (subst (AreEnds wanted c n (slice_index_or runs n [])) (sym last) here))
    ];
  }
