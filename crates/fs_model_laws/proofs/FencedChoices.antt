-- A run and the fenced run have the same choices, and different runs become different.
use Rattle.std.proofs.Common.{◌≡◌, ℕ, suc, ◌<◌, List, [], ◌∷◌, ◌++◌, length, Option, None, Some, refl, ap, sym, ◌∙◌, arith}
use Rattle.std.specs.Option.{option_to_list}
use Rattle.std.specs.List.{slice_index_or}
use Rattle.fs_instr.specs.declared.instr.Instr.{Instr}
use Rattle.fs_instr.specs.declared.instr.Instr.TheVariants.{Register, Immediate, Shift, Lui, Li, Lw, Sw, Lr, Sc, Amo, Branch, Jump, Fence, FenceTso, FenceI}
use Rattle.fs_kinds.specs.declared.kind.Kind.{Kind}
use Rattle.fs_kinds.specs.declared.kind.Kind.TheVariants.{RR, RW, RRw, WR, WW, WRw, RwR, RwW, RwRw, Tso}
use Rattle.fs_kinds.specs.declared.placement.Entry.{Entry}
use Rattle.fs_kinds.specs.Placement.{kind_at}
use Rattle.fs_model.specs.declared.test.Test.{Test}
use Rattle.fs_model.specs.Slots.{slot_at}
use Rattle.fs_model.specs.Fenced.{fence_of, moved}
use Rattle.fs_model.specs.declared.step.Step.{Step}
use Rattle.fs_model.specs.Choices.{choice_by, choices_of}
use Rattle.fs_model.specs.Operations.{steps_of}
use Rattle.fs_model.specs.Execution.{Execution, IsTrace, code_of, registers_of}
use Rattle.fs_model.proofs.Runs.{run_once}
use Rattle.fs_model_laws.specs.Fenced.{fence_step, fence_steps, moved_step, fenced_steps, fenced_execution, KeepsApart, KeepsChoices}
use Rattle.fs_model_laws.proofs.FencedInstr.{same_of_moved}
use Rattle.fs_model_laws.proofs.FencedOperations.{trace_fenced}
use Rattle.fs_model_laws.proofs.FencedExecutions.{trace_there}

module _ (p : List Entry) (hart : ℕ) where
  choice_there : (s : Step) (i : Instr) → choice_by i (moved_step p hart s) ≡ choice_by i s
  choice_there s (Register op rd first second) = refl
  choice_there s (Immediate op rd first immediate) = refl
  choice_there s (Shift op rd first amount) = refl
  choice_there s (Lui rd upper) = refl
  choice_there s (Li rd word) = refl
  choice_there s (Lw ann rd base offset) = refl
  choice_there s (Sw ann value base offset) = refl
  choice_there s (Lr ann rd base) = refl
  choice_there s (Sc ann rd value base) = refl
  choice_there s (Amo op ann rd value base) = refl
  choice_there s (Branch op first second target) = refl
  choice_there s (Jump target) = refl
  choice_there s (Fence before after) = refl
  choice_there s FenceTso = refl
  choice_there s FenceI = refl

  choice_moved : (s : Step) → choice_by (moved p hart s.instr) (moved_step p hart s) ≡ choice_by s.instr s
  choice_moved s =
      same_of_moved (λ i. choice_by i (moved_step p hart s)) p hart (λ op first second target to. refl)
      (λ target to. refl) s.instr ∙ choice_there s s.instr

  no_choice : (s : Step) (kind : Kind) → choice_by (fence_of kind) s ≡ None
  no_choice s RR = refl
  no_choice s RW = refl
  no_choice s RRw = refl
  no_choice s WR = refl
  no_choice s WW = refl
  no_choice s WRw = refl
  no_choice s RwR = refl
  no_choice s RwW = refl
  no_choice s RwRw = refl
  no_choice s Tso = refl

  choices_here : (s : Step) (o : Option Kind) (rest ss : List Step) → choices_of rest ≡ choices_of ss
      → choices_of ((fence_steps p hart s.at o ++ moved_step p hart s ∷ []) ++ rest) ≡ choices_of (s ∷ ss)
  choices_here s None rest ss more =
      ap (λ c. option_to_list c ++ choices_of rest) (choice_moved s) ∙ ap (λ cs. option_to_list (choice_by s.instr s) ++ cs) more
  choices_here s (Some kind) rest ss more =
      ap (λ c. option_to_list c ++ choices_of (moved_step p hart s ∷ rest)) (no_choice (fence_step p hart s.at kind) kind)
      ∙ ap (λ c. option_to_list c ++ choices_of rest) (choice_moved s)
      ∙ ap (λ cs. option_to_list (choice_by s.instr s) ++ cs) more

  choices_same : (ss : List Step) → choices_of (fenced_steps p (hart, ss)) ≡ choices_of ss
  choices_same [] = refl
  choices_same (s ∷ ss) = choices_here s (kind_at (slot_at hart s.at) p) (fenced_steps p (hart, ss)) ss (choices_same ss)

  same_run : (t : Test) (ss us : List Step) → IsTrace t hart ss → IsTrace t hart us
      → fenced_steps p (hart, ss) ≡ fenced_steps p (hart, us) → ss ≡ us
  same_run t ss us r q e =
      run_once (length t.locations) (code_of t hart) (registers_of t hart) (choices_of ss) ss us (r, refl)
      (q, sym (choices_same ss) ∙ ap choices_of e ∙ choices_same us)

pub keeps_choices : (t : Test) (p : List Entry) → KeepsChoices t p
keeps_choices t p hart choices steps h = (trace_there t p hart steps h.0, h.1 ∙ sym (choices_same p hart steps))

same_lists : {X : Type 0} (d : X) (xs ys : List X) → length xs ≡ length ys
    → ((k : ℕ) → k < length xs → slice_index_or xs k d ≡ slice_index_or ys k d) → xs ≡ ys
same_lists d [] [] e h = refl
same_lists d [] (y ∷ ys) e h = absurd (omega (arith, e))
same_lists d (x ∷ xs) [] e h = absurd (omega (arith, e))
same_lists d (x ∷ xs) (y ∷ ys) e h =
    let first = h 0 (omega arith) in
    let rest = same_lists d xs ys (omega (arith, e)) (λ k low. h (suc k) (omega (arith, low))) in
    ap (λ z. z ∷ xs) first ∙ ap (λ zs. y ∷ zs) rest

same_trace : (t : Test) (p : List Entry) (e f : Execution) (hart : ℕ) → IsTrace t hart (steps_of e.traces hart)
    → IsTrace t hart (steps_of f.traces hart) → fenced_execution p e ≡ fenced_execution p f
    → steps_of e.traces hart ≡ steps_of f.traces hart
same_trace t p e f hart r q same =
    same_run p hart t (steps_of e.traces hart) (steps_of f.traces hart) r q
    (sym (trace_fenced p e.traces hart) ∙ ap (λ x. steps_of x.traces hart) same ∙ trace_fenced p f.traces hart)

pub keeps_apart : (t : Test) (p : List Entry) → KeepsApart t p
keeps_apart t p e f is other same =
    let first = is.harts in
    let second = other.harts in
    let runs : (hart : ℕ) → hart < length e.traces → steps_of e.traces hart ≡ steps_of f.traces hart =
    λ hart low. let there : hart < length t.codes = omega (arith, low, first) in
    same_trace t p e f hart (is.runs hart there) (other.runs hart there) same in
    let traces = same_lists [] e.traces f.traces (first ∙ sym second) runs in
    let order = ap (λ x. x.order) same in
    ap (λ ts. record { traces = ts; order = e.order }) traces ∙ ap (λ o. record { traces = f.traces; order = o }) order
