-- The choice decides the step that an instruction makes.
use Rattle.std.proofs.Common.{◌≡◌, ℕ, Option, None, Some, is_some, option_map, if◌then◌else◌, refl, sym, ◌∙◌, ap, inl, inr}
use Rattle.fs_instr.specs.declared.instr.Instr.{Instr}
use Rattle.fs_instr.specs.declared.instr.Instr.TheVariants.{Register, Immediate, Shift, Lui, Li, Lw, Sw, Lr, Sc, Amo, Branch, Jump, Fence, FenceTso, FenceI}
use Rattle.fs_model.specs.declared.hart.Hart.{Hart}
use Rattle.fs_model.specs.declared.step.Step.{Step}
use Rattle.fs_model.specs.declared.step.Choice.{Choice}
use Rattle.fs_model.specs.declared.step.Choice.TheVariants.{Word, Success, Failure}
use Rattle.fs_model.specs.Execute.{address_in, stored_in}
use Rattle.fs_model.specs.Trace.{IsAtLocation, StoresItsWord, AccessesNothing, Succeeds}
use Rattle.fs_model.specs.Choices.{Makes}

same_step : (s u : Step) → s.at ≡ u.at → s.instr ≡ u.instr → s.address ≡ u.address → s.loaded ≡ u.loaded → s.stored ≡ u.stored → s ≡ u
same_step s u e f g k l =
    let whole : record { at = s.at; instr = s.instr; address = s.address; loaded = s.loaded; stored = s.stored } ≡ record { at = u.at; instr = u.instr; address = u.address; loaded = u.loaded; stored = u.stored } = cc in whole

same_word : (a b : Option ℕ) → option_map Word a ≡ option_map Word b → a ≡ b
same_word None None e = refl
same_word None (Some b) e = absurd (cc)
same_word (Some a) None e = absurd (cc)
same_word (Some a) (Some b) e = cc

-- two steps of one instruction in one state
record Twins (h : Hart) (s u : Step) : Type 0 where
  pub at : s.at ≡ u.at
  pub instr : s.instr ≡ u.instr

twins : (n : ℕ) (h : Hart) (i : Instr) (choice : Option Choice) (s u : Step) → Makes n h i choice s → Makes n h i choice u → Twins h s u
twins n h i choice s u m v = record { at = m.at ∙ sym v.at; instr = m.instr ∙ sym v.instr }

same_place : (n : ℕ) (h : Hart) (s u : Step) → Twins h s u → IsAtLocation n h s → IsAtLocation n h u → s.address ≡ u.address
same_place n h s u t a b = a.0 ∙ ap (λ i. address_in h.registers i) t.instr ∙ sym b.0

stored_of : (h : Hart) (s u : Step) → Twins h s u → s.loaded ≡ u.loaded → StoresItsWord h s → StoresItsWord h u → s.stored ≡ u.stored
stored_of h s u t e a b = let f : stored_in h.registers s.loaded s.instr ≡ stored_in h.registers u.loaded u.instr = (let g = t.instr in cc) in a ∙ f ∙ sym b

quiet : (h : Hart) (s u : Step) → Twins h s u → AccessesNothing s → AccessesNothing u → s ≡ u
quiet h s u t a b = same_step s u t.at t.instr (a.0 ∙ sym b.0) (a.1 ∙ sym b.1) (a.2 ∙ sym b.2)

loads : (n : ℕ) (h : Hart) (s u : Step) → Twins h s u → IsAtLocation n h s → IsAtLocation n h u → option_map Word s.loaded ≡ option_map Word u.loaded → s.stored ≡ None → u.stored ≡ None → s ≡ u
loads n h s u t a b w e f = same_step s u t.at t.instr (same_place n h s u t a b) (same_word _ _ w) (e ∙ sym f)

-- a step that stores makes the other choice than one that accesses nothing
abbrev outcome_of : Option ℕ → Option Choice
outcome_of stored = Some (if is_some stored then Success else Failure)

apart : (o : Option ℕ) (w : ℕ) → o ≡ Some w → outcome_of o ≡ outcome_of None → ⊥
apart None w e f = cc
apart (Some v) w e f = let g : Some Success ≡ Some Failure = f in cc

succeeds_word : (h : Hart) (s : Step) (ann : _) (rd value base : ℕ) → s.instr ≡ Sc ann rd value base → Succeeds h s → s.stored ≡ stored_in h.registers s.loaded (Sc ann rd value base)
succeeds_word h s ann rd value base e a = a.3 ∙ ap (λ i. stored_in h.registers s.loaded i) e

pub made_once : (n : ℕ) (h : Hart) (i : Instr) (choice : Option Choice) (s u : Step) → Makes n h i choice s → Makes n h i choice u → s ≡ u
made_once n h (Register op rd first second) c s u m v = quiet h s u (twins n h _ c s u m v) m.access v.access
made_once n h (Immediate op rd first immediate) c s u m v = quiet h s u (twins n h _ c s u m v) m.access v.access
made_once n h (Shift op rd first amount) c s u m v = quiet h s u (twins n h _ c s u m v) m.access v.access
made_once n h (Lui rd upper) c s u m v = quiet h s u (twins n h _ c s u m v) m.access v.access
made_once n h (Li rd word) c s u m v = quiet h s u (twins n h _ c s u m v) m.access v.access
made_once n h (Branch op first second target) c s u m v = quiet h s u (twins n h _ c s u m v) m.access v.access
made_once n h (Jump target) c s u m v = quiet h s u (twins n h _ c s u m v) m.access v.access
made_once n h (Fence before after) c s u m v = quiet h s u (twins n h _ c s u m v) m.access v.access
made_once n h FenceTso c s u m v = quiet h s u (twins n h _ c s u m v) m.access v.access
made_once n h FenceI c s u m v = quiet h s u (twins n h _ c s u m v) m.access v.access
made_once n h (Lw ann rd base offset) c s u m v = loads n h s u (twins n h _ c s u m v) m.access.0 v.access.0 (m.chosen ∙ sym v.chosen) m.access.2 v.access.2
made_once n h (Lr ann rd base) c s u m v = loads n h s u (twins n h _ c s u m v) m.access.0 v.access.0 (m.chosen ∙ sym v.chosen) m.access.2 v.access.2
made_once n h (Sw ann value base offset) c s u m v =
    let t = twins n h _ c s u m v in
    let e = m.access.1 ∙ sym v.access.1 in
    same_step s u t.at t.instr (same_place n h s u t m.access.0 v.access.0) e (stored_of h s u t e m.access.2 v.access.2)
made_once n h (Amo op ann rd value base) c s u m v =
    let t = twins n h _ c s u m v in
    let e = same_word _ _ (m.chosen ∙ sym v.chosen) in
    same_step s u t.at t.instr (same_place n h s u t m.access.0 v.access.0) e (stored_of h s u t e m.access.2 v.access.2)
made_once n h (Sc ann rd value base) c s u m v =
    let t = twins n h _ c s u m v in
    let chosen = m.chosen ∙ sym v.chosen in
    elim m.access [
      | inl a ↦ (elim v.access [
        | inl b ↦ (let e = a.2 ∙ sym b.2 in same_step s u t.at t.instr (a.1 ∙ sym b.1) e (stored_of h s u t e a.3 b.3))
        | inr b ↦ absurd (apart s.stored _ (succeeds_word h s ann rd value base m.instr a) (chosen ∙ ap outcome_of b.2))
      ])
      | inr a ↦ (elim v.access [
        | inl b ↦ absurd (apart u.stored _ (succeeds_word h u ann rd value base v.instr b) (sym chosen ∙ ap outcome_of a.2))
        | inr b ↦ quiet h s u t a b
      ])
    ]
