-- Steps that are exact, by their instructions.
use Rattle.std.proofs.Common.{◌≡◌, ◌≢◌, ℕ, ℤ, List, map, Option, None, Some, is_some, option_map, unwrap_or, FitsSigned, if◌then◌else◌, refl, sym, ap, subst, ◌∙◌}
use Rattle.std.specs.Int.{w32, cast_signed, cast_unsigned}
use Rattle.std.proofs.lemmas.Int.{to_z-of_z}
use Rattle.fs_instr.specs.declared.names.RegOp.{RegOp}
use Rattle.fs_instr.specs.declared.names.ImmOp.{ImmOp}
use Rattle.fs_instr.specs.declared.names.ShiftOp.{ShiftOp}
use Rattle.fs_instr.specs.declared.names.AmoOp.{AmoOp}
use Rattle.fs_instr.specs.declared.names.Ann.{Ann}
use Rattle.fs_instr.specs.declared.instr.Instr.{Instr}
use Rattle.fs_instr.specs.declared.instr.Instr.TheVariants.{Register, Immediate, Shift, Lui, Li, Lw, Sw, Lr, Sc, Amo, Branch, Jump, Fence, FenceTso, FenceI}
use Rattle.fs_model.specs.declared.hart.Hart.{Hart}
use Rattle.fs_model.specs.declared.step.Step.{Step}
use Rattle.fs_model.specs.Instructions as words
use Rattle.fs_model.specs.Instructions.{read}
use Rattle.fs_app_plain.specs.Instructions64.{extended, computed, computed_with, shifted, combined, doubleword_of, result_in, stored_in}
use Rattle.fs_app_plain.specs.Wide.{IsExact}
use Rattle.fs_app_plain.proofs.WordsLaws.{read_extended}
use Rattle.fs_app_plain.specs.Exact.{IsExactComputed, IsExactImmediate, IsExactShifted, IsExactCombined}

-- as `IsExact`, of registers x, the words that are loaded and stored, and an instruction
record IsExactOf (x : List ℕ) (loaded stored : Option ℕ) (i : Instr) : Type 0 where
  result :
      extended (words.result_in x loaded stored i)
      ≡ result_in (map extended x) (option_map extended loaded) (option_map extended stored) i
  stored_word :
      option_map extended (words.stored_in x loaded i) ≡ stored_in (map extended x) (option_map extended loaded) i

by_instr : (h : Hart) (s : Step) (i : Instr) → s.instr ≡ i → IsExactOf h.registers s.loaded s.stored i → IsExact h s
by_instr h s i e exact =
    let of = subst (IsExactOf h.registers s.loaded s.stored) (sym e) exact in
    record { result = of.result; stored = of.stored_word }

-- the word that is loaded, or 0
loaded_exact : (loaded : Option ℕ) → extended (unwrap_or loaded 0) ≡ unwrap_or (option_map extended loaded) 0
loaded_exact None = refl
loaded_exact (Some w) = refl

success_exact : (stored : Option ℕ)
    → extended (if is_some stored then 0 else 1) ≡ (if is_some (option_map extended stored) then 0 else 1)
success_exact None = refl
success_exact (Some w) = refl

stored_exact : (x : List ℕ) (r : ℕ) → Some (extended (read x r)) ≡ Some (read (map extended x) r)
stored_exact x r = ap Some (sym (read_extended x r))

-- ---- where what they make of the words that they read is exact

pub register_exact : (h : Hart) (s : Step) (op : RegOp) (rd first second a b : ℕ)
    → s.instr ≡ Register op rd first second → a ≡ read h.registers first → b ≡ read h.registers second
    → IsExactComputed op a b → IsExact h s
register_exact h s op rd first second a b e one other exact =
    let x = h.registers in
    let of_read : IsExactComputed op (read x first) (read x second) =
    subst (IsExactComputed op (read x first)) other (subst (λ w. IsExactComputed op w b) one exact)
    in
    by_instr h s (Register op rd first second) e (record {
      result = of_read ∙ (λ i. computed op (sym (read_extended x first) i) (sym (read_extended x second) i));
      stored_word = refl;
    })

pub immediate_exact : (h : Hart) (s : Step) (op : ImmOp) (rd first : ℕ) (n : ℤ) (a : ℕ)
    → s.instr ≡ Immediate op rd first n → FitsSigned w32 n → a ≡ read h.registers first
    → IsExactImmediate op a (cast_signed w32 (cast_unsigned w32 n)) → IsExact h s
immediate_exact h s op rd first n a e fits one exact =
    let of_number = subst (IsExactImmediate op a) (to_z-of_z w32 n fits) exact in
    let of_read = subst (λ w. IsExactImmediate op w n) one of_number in
    by_instr h s (Immediate op rd first n) e (record {
      result = of_read ∙ ap (λ w. computed_with op w (doubleword_of n)) (sym (read_extended h.registers first));
      stored_word = refl;
    })

pub shift_exact : (h : Hart) (s : Step) (op : ShiftOp) (rd first amount a : ℕ) → s.instr ≡ Shift op rd first amount
    → a ≡ read h.registers first → IsExactShifted op a amount → IsExact h s
shift_exact h s op rd first amount a e one exact =
    let of_read = subst (λ w. IsExactShifted op w amount) one exact in
    by_instr h s (Shift op rd first amount) e (record {
      result = of_read ∙ ap (λ w. shifted op w amount) (sym (read_extended h.registers first));
      stored_word = refl;
    })

pub amo_exact : (h : Hart) (s : Step) (op : AmoOp) (ann : Ann) (rd value base a b : ℕ)
    → s.instr ≡ Amo op ann rd value base → a ≡ unwrap_or s.loaded 0 → b ≡ read h.registers value
    → IsExactCombined op a b → IsExact h s
amo_exact h s op ann rd value base a b e one other exact =
    let x = h.registers in
    let of_read : IsExactCombined op (unwrap_or s.loaded 0) (read x value) =
    subst (IsExactCombined op (unwrap_or s.loaded 0)) other (subst (λ w. IsExactCombined op w b) one exact)
    in
    by_instr h s (Amo op ann rd value base) e (record {
      result = loaded_exact s.loaded;
      stored_word = ap Some (of_read ∙ (λ i. combined op (loaded_exact s.loaded i) (sym (read_extended x value) i)));
    })

-- an instruction that computes nothing of what it reads
other_exact : (x : List ℕ) (loaded stored : Option ℕ) (i : Instr)
    → ((op : RegOp) (rd first second : ℕ) → i ≢ Register op rd first second)
    → ((op : ImmOp) (rd first : ℕ) (n : ℤ) → i ≢ Immediate op rd first n)
    → ((op : ShiftOp) (rd first amount : ℕ) → i ≢ Shift op rd first amount)
    → ((op : AmoOp) (ann : Ann) (rd value base : ℕ) → i ≢ Amo op ann rd value base)
    → IsExactOf x loaded stored i
other_exact x loaded stored (Register op rd first second) p q r t = absurd (p op rd first second refl)
other_exact x loaded stored (Immediate op rd first n) p q r t = absurd (q op rd first n refl)
other_exact x loaded stored (Shift op rd first amount) p q r t = absurd (r op rd first amount refl)
other_exact x loaded stored (Lui rd upper) p q r t = record { result = refl; stored_word = refl }
other_exact x loaded stored (Li rd word) p q r t = record { result = refl; stored_word = refl }
other_exact x loaded stored (Lw ann rd base offset) p q r t = record { result = loaded_exact loaded; stored_word = refl }
other_exact x loaded stored (Sw ann value base offset) p q r t =
    record { result = refl; stored_word = stored_exact x value }
other_exact x loaded stored (Lr ann rd base) p q r t = record { result = loaded_exact loaded; stored_word = refl }
other_exact x loaded stored (Sc ann rd value base) p q r t =
    record { result = success_exact stored; stored_word = stored_exact x value }
other_exact x loaded stored (Amo op ann rd value base) p q r t = absurd (t op ann rd value base refl)
other_exact x loaded stored (Branch op first second target) p q r t = record { result = refl; stored_word = refl }
other_exact x loaded stored (Jump target) p q r t = record { result = refl; stored_word = refl }
other_exact x loaded stored (Fence before after) p q r t = record { result = refl; stored_word = refl }
other_exact x loaded stored FenceTso p q r t = record { result = refl; stored_word = refl }
other_exact x loaded stored FenceI p q r t = record { result = refl; stored_word = refl }

pub quiet_exact : (h : Hart) (s : Step)
    → ((op : RegOp) (rd first second : ℕ) → s.instr ≢ Register op rd first second)
    → ((op : ImmOp) (rd first : ℕ) (n : ℤ) → s.instr ≢ Immediate op rd first n)
    → ((op : ShiftOp) (rd first amount : ℕ) → s.instr ≢ Shift op rd first amount)
    → ((op : AmoOp) (ann : Ann) (rd value base : ℕ) → s.instr ≢ Amo op ann rd value base)
    → IsExact h s
quiet_exact h s p q r t = by_instr h s s.instr refl (other_exact h.registers s.loaded s.stored s.instr p q r t)
