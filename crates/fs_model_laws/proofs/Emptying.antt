-- What an instruction and a step keep where FENCEs order no memory.
use Rattle.std.proofs.Common.{◌≡◌, ℕ, Bool, true, false, List, Option, None, Some, refl, ap, sym, ◌∙◌, inl, inr}
use Rattle.std.specs.Prelude.{is_some, if◌then◌else◌}
use Rattle.fs_instr.specs.declared.instr.Instr.{Instr}
use Rattle.fs_instr.specs.declared.instr.Instr.TheVariants.{Register, Immediate, Shift, Lui, Li, Lw, Sw, Lr, Sc, Amo, Branch, Jump, Fence, FenceTso, FenceI}
use Rattle.fs_instr.specs.declared.letters.Letters.{Letters}
use Rattle.fs_kinds.specs.declared.kind.Kind.{Kind}
use Rattle.fs_kinds.specs.declared.kind.Classes.{Classes}
use Rattle.fs_kinds.specs.Kind.{pairs_order, product}
use Rattle.fs_model.specs.declared.hart.Hart.{Hart}
use Rattle.fs_model.specs.declared.step.Step.{Step}
use Rattle.fs_model.specs.Execute.{address_in, stored_in, next_after, executed}
use Rattle.fs_model.specs.Trace.{IsAtLocation, StoresItsWord, Succeeds, Accesses, AccessesNothing, paired_after, after_step}
use Rattle.fs_model.specs.Fences.{instr_orders, kind_orders}
use Rattle.fs_model_laws.specs.InPlace.{kind_of_sides, memory_kind, is_fence, devices, emptied_instr}

-- the step of the emptied code
abbrev pub emptied_step : Step → Step
emptied_step s = record { at = s.at; instr = emptied_instr s.instr; address = s.address; loaded = s.loaded; stored = s.stored }

either : {X : Type 0} (f : Instr → X) (c : Bool) (x y : Instr) → f x ≡ f y → f (if c then x else y) ≡ f y
either f true x y e = e
either f false x y e = refl

-- what doesn't tell one FENCE from another stays
pub same_of_emptied : {X : Type 0} (f : Instr → X) → ((b a : Letters) → f (Fence devices devices) ≡ f (Fence b a))
    → f (Fence devices devices) ≡ f FenceTso → (i : Instr) → f (emptied_instr i) ≡ f i
same_of_emptied f fence tso (Register op rd first second) = refl
same_of_emptied f fence tso (Immediate op rd first immediate) = refl
same_of_emptied f fence tso (Shift op rd first amount) = refl
same_of_emptied f fence tso (Lui rd upper) = refl
same_of_emptied f fence tso (Li rd word) = refl
same_of_emptied f fence tso (Lw ann rd base offset) = refl
same_of_emptied f fence tso (Sw ann value base offset) = refl
same_of_emptied f fence tso (Lr ann rd base) = refl
same_of_emptied f fence tso (Sc ann rd value base) = refl
same_of_emptied f fence tso (Amo op ann rd value base) = refl
same_of_emptied f fence tso (Branch op first second target) = refl
same_of_emptied f fence tso (Jump target) = refl
same_of_emptied f fence tso (Fence before after) =
    either f (is_fence (Fence before after)) (Fence devices devices) (Fence before after) (fence before after)
same_of_emptied f fence tso FenceTso = tso
same_of_emptied f fence tso FenceI = refl

same_address : (i : Instr) (x : List ℕ) → address_in x (emptied_instr i) ≡ address_in x i
same_address i x = same_of_emptied (address_in x) (λ b a. refl) refl i

same_stored : (i : Instr) (x : List ℕ) (loaded : Option ℕ) → stored_in x loaded (emptied_instr i) ≡ stored_in x loaded i
same_stored i x loaded = same_of_emptied (stored_in x loaded) (λ b a. refl) refl i

same_executed : (i : Instr) (x : List ℕ) (loaded stored : Option ℕ)
    → executed x loaded stored (emptied_instr i) ≡ executed x loaded stored i
same_executed i x loaded stored = same_of_emptied (executed x loaded stored) (λ b a. refl) refl i

same_next : (i : Instr) (x : List ℕ) (at : ℕ) → next_after x at (emptied_instr i) ≡ next_after x at i
same_next i x at = same_of_emptied (next_after x at) (λ b a. refl) refl i

-- ---- states

paired_by : (h : Hart) (s : Step) (i : Instr) → paired_after h (emptied_step s) i ≡ paired_after h s i
paired_by h s (Register op rd first second) = refl
paired_by h s (Immediate op rd first immediate) = refl
paired_by h s (Shift op rd first amount) = refl
paired_by h s (Lui rd upper) = refl
paired_by h s (Li rd word) = refl
paired_by h s (Lw ann rd base offset) = refl
paired_by h s (Sw ann value base offset) = refl
paired_by h s (Lr ann rd base) = refl
paired_by h s (Sc ann rd value base) = refl
paired_by h s (Amo op ann rd value base) = refl
paired_by h s (Branch op first second target) = refl
paired_by h s (Jump target) = refl
paired_by h s (Fence before after) = refl
paired_by h s FenceTso = refl
paired_by h s FenceI = refl

same_paired : (h : Hart) (s : Step) (i : Instr) → paired_after h (emptied_step s) (emptied_instr i) ≡ paired_after h s i
same_paired h s i = same_of_emptied (paired_after h (emptied_step s)) (λ b a. refl) refl i ∙ paired_by h s i

pub step_passed : (h : Hart) (s : Step) → after_step h (emptied_step s) ≡ after_step h s
step_passed h s =
    let at = same_next s.instr h.registers h.at in
    let registers = same_executed s.instr h.registers s.loaded s.stored in
    let paired = same_paired h s s.instr in
    ap (λ k. record {
      at = k;
      registers = executed h.registers s.loaded s.stored (emptied_instr s.instr);
      paired = paired_after h (emptied_step s) (emptied_instr s.instr);
    }) at
    ∙ ap (λ k. record {
      at = next_after h.registers h.at s.instr;
      registers = k;
      paired = paired_after h (emptied_step s) (emptied_instr s.instr);
    }) registers
    ∙ ap (λ k. record {
      at = next_after h.registers h.at s.instr;
      registers = executed h.registers s.loaded s.stored s.instr;
      paired = k;
    }) paired

-- ---- accesses

location_there : (n : ℕ) (h : Hart) (s : Step) → IsAtLocation n h s → IsAtLocation n h (emptied_step s)
location_there n h s a = (a.0 ∙ sym (same_address s.instr h.registers), a.1)

location_back : (n : ℕ) (h : Hart) (s : Step) → IsAtLocation n h (emptied_step s) → IsAtLocation n h s
location_back n h s a = (a.0 ∙ same_address s.instr h.registers, a.1)

stores_there : (h : Hart) (s : Step) → StoresItsWord h s → StoresItsWord h (emptied_step s)
stores_there h s e = e ∙ sym (same_stored s.instr h.registers s.loaded)

stores_back : (h : Hart) (s : Step) → StoresItsWord h (emptied_step s) → StoresItsWord h s
stores_back h s e = e ∙ same_stored s.instr h.registers s.loaded

succeeds_there : (h : Hart) (s : Step) → Succeeds h s → Succeeds h (emptied_step s)
succeeds_there h s a = (a.0 ∙ sym (same_address s.instr h.registers), a.1, a.2, stores_there h s a.3)

succeeds_back : (h : Hart) (s : Step) → Succeeds h (emptied_step s) → Succeeds h s
succeeds_back h s a = (a.0 ∙ same_address s.instr h.registers, a.1, a.2, stores_back h s a.3)

nothing_there : (n : ℕ) (h : Hart) (s : Step) (c : Bool) (b a : Letters) → AccessesNothing s
    → Accesses n h (emptied_step s) (if c then Fence devices devices else Fence b a)
nothing_there n h s true b a x = x
nothing_there n h s false b a x = x

nothing_back : (n : ℕ) (h : Hart) (s : Step) (c : Bool) (b a : Letters)
    → Accesses n h (emptied_step s) (if c then Fence devices devices else Fence b a) → AccessesNothing s
nothing_back n h s true b a x = x
nothing_back n h s false b a x = x

pub accesses_there : (n : ℕ) (h : Hart) (s : Step) (i : Instr) → Accesses n h s i
    → Accesses n h (emptied_step s) (emptied_instr i)
accesses_there n h s (Register op rd first second) a = a
accesses_there n h s (Immediate op rd first immediate) a = a
accesses_there n h s (Shift op rd first amount) a = a
accesses_there n h s (Lui rd upper) a = a
accesses_there n h s (Li rd word) a = a
accesses_there n h s (Lw ann rd base offset) a = (location_there n h s a.0, a.1, a.2)
accesses_there n h s (Sw ann value base offset) a = (location_there n h s a.0, a.1, stores_there h s a.2)
accesses_there n h s (Lr ann rd base) a = (location_there n h s a.0, a.1, a.2)
accesses_there n h s (Sc ann rd value base) a = elim a [
  | inl x ↦ inl (succeeds_there h s x)
  | inr x ↦ inr x
]
accesses_there n h s (Amo op ann rd value base) a = (location_there n h s a.0, a.1, stores_there h s a.2)
accesses_there n h s (Branch op first second target) a = a
accesses_there n h s (Jump target) a = a
accesses_there n h s (Fence before after) a = nothing_there n h s (is_fence (Fence before after)) before after a
accesses_there n h s FenceTso a = a
accesses_there n h s FenceI a = a

pub accesses_back : (n : ℕ) (h : Hart) (s : Step) (i : Instr) → Accesses n h (emptied_step s) (emptied_instr i)
    → Accesses n h s i
accesses_back n h s (Register op rd first second) a = a
accesses_back n h s (Immediate op rd first immediate) a = a
accesses_back n h s (Shift op rd first amount) a = a
accesses_back n h s (Lui rd upper) a = a
accesses_back n h s (Li rd word) a = a
accesses_back n h s (Lw ann rd base offset) a = (location_back n h s a.0, a.1, a.2)
accesses_back n h s (Sw ann value base offset) a = (location_back n h s a.0, a.1, stores_back h s a.2)
accesses_back n h s (Lr ann rd base) a = (location_back n h s a.0, a.1, a.2)
accesses_back n h s (Sc ann rd value base) a = elim a [
  | inl x ↦ inl (succeeds_back h s x)
  | inr x ↦ inr x
]
accesses_back n h s (Amo op ann rd value base) a = (location_back n h s a.0, a.1, stores_back h s a.2)
accesses_back n h s (Branch op first second target) a = a
accesses_back n h s (Jump target) a = a
accesses_back n h s (Fence before after) a = nothing_back n h s (is_fence (Fence before after)) before after a
accesses_back n h s FenceTso a = a
accesses_back n h s FenceI a = a

-- ---- what a FENCE orders

sides_order : (first second : Classes) (r w r' w' : Bool)
    → kind_orders first second (kind_of_sides r w r' w') ≡ pairs_order (product r w r' w') first second
sides_order first second true true true true = refl
sides_order first second true true true false = refl
sides_order first second true true false true = refl
sides_order first second true true false false = refl
sides_order first second true false true true = refl
sides_order first second true false true false = refl
sides_order first second true false false true = refl
sides_order first second true false false false = refl
sides_order first second false true true true = refl
sides_order first second false true true false = refl
sides_order first second false true false true = refl
sides_order first second false true false false = refl
sides_order first second false false true true = refl
sides_order first second false false true false = refl
sides_order first second false false false true = refl
sides_order first second false false false false = refl

pub by_kind : (first second : Classes) (i : Instr) → kind_orders first second (memory_kind i) ≡ instr_orders first second i
by_kind first second (Register op rd a b) = refl
by_kind first second (Immediate op rd a immediate) = refl
by_kind first second (Shift op rd a amount) = refl
by_kind first second (Lui rd upper) = refl
by_kind first second (Li rd word) = refl
by_kind first second (Lw ann rd base offset) = refl
by_kind first second (Sw ann value base offset) = refl
by_kind first second (Lr ann rd base) = refl
by_kind first second (Sc ann rd value base) = refl
by_kind first second (Amo op ann rd value base) = refl
by_kind first second (Branch op a b target) = refl
by_kind first second (Jump target) = refl
by_kind first second (Fence before after) = sides_order first second before.reads before.writes after.reads after.writes
by_kind first second FenceTso = refl
by_kind first second FenceI = refl

none_by : (o : Option Kind) (i : Instr) → memory_kind i ≡ o
    → memory_kind (if is_some o then Fence devices devices else i) ≡ None
none_by None i e = e
none_by (Some kind) i e = refl

pub emptied_none : (i : Instr) → memory_kind (emptied_instr i) ≡ None
emptied_none i = none_by (memory_kind i) i refl

pub emptied_orders : (first second : Classes) (i : Instr) → instr_orders first second (emptied_instr i) ≡ false
emptied_orders first second i =
    sym (by_kind first second (emptied_instr i)) ∙ ap (kind_orders first second) (emptied_none i)
