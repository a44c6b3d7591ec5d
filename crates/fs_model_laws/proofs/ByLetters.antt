-- Rule 4 by letters.
use Rattle.std.proofs.Common.{rules, ◌≡◌, ℕ, Bool, false, true, ◌&&◌, ◌||◌, List, [], ◌∷◌, refl}
use Rattle.std.specs.List.{list_any}
use Rattle.fs_kinds.specs.declared.kind.Classes.{Classes}
use Rattle.fs_kinds.specs.Kind.{pairs_order, product, tso_pairs}
use Rattle.fs_instr.specs.declared.instr.Instr.{Instr}
use Rattle.fs_instr.specs.declared.instr.Instr.TheVariants.{Register, Immediate, Shift, Lui, Li, Lw, Sw, Lr, Sc, Amo, Branch, Jump, Fence, FenceTso, FenceI}
use Rattle.fs_model.specs.Operations.{PreExecution, between, classes, place, trace_of, instr_at}
use Rattle.fs_model.specs.Rules as page
use Rattle.fs_model_laws.specs.Letters.{orders, fence_between}

sides : (r w r' w' a b c d : Bool)
    → ((r && a || w && b) && (r' && c || w' && d)) ≡ pairs_order (product r w r' w') (record { reads = a; writes = b }) (record { reads = c; writes = d })
sides true true r' w' a b c d = grind rules
sides true false r' w' a b c d = grind rules
sides false true r' w' a b c d = grind rules
sides false false r' w' a b c d = refl

tso : (a b c d : Bool) → (a && (c || d) || b && d) ≡ pairs_order tso_pairs (record { reads = a; writes = b }) (record { reads = c; writes = d })
tso a b c d = grind rules

pub orders-alike : (first second : Classes) (i : Instr) → orders first second i ≡ page.instr_orders first second i
orders-alike first second (Fence before after) =
    sides before.reads before.writes after.reads after.writes first.reads first.writes second.reads second.writes
orders-alike first second FenceTso = tso first.reads first.writes second.reads second.writes
orders-alike first second FenceI = refl
orders-alike first second (Register o rd a b) = refl
orders-alike first second (Immediate o rd a z) = refl
orders-alike first second (Shift o rd a n) = refl
orders-alike first second (Lui rd n) = refl
orders-alike first second (Li rd n) = refl
orders-alike first second (Lw ann rd a z) = refl
orders-alike first second (Sw ann v a z) = refl
orders-alike first second (Lr ann rd a) = refl
orders-alike first second (Sc ann rd v a) = refl
orders-alike first second (Amo o ann rd v a) = refl
orders-alike first second (Branch o a b t) = refl
orders-alike first second (Jump t) = refl

any-alike : {X : Type 0} (f g : X → Bool) → ((x : X) → f x ≡ g x) → (xs : List X) → list_any f xs ≡ list_any g xs
any-alike f g each [] = refl
any-alike f g each (x ∷ xs) = rw (← each x, ← any-alike f g each xs) refl

pub between-alike : (x : PreExecution) (a b : ℕ) → fence_between x a b ≡ page.fence_between x a b
between-alike x a b = any-alike
    (λ k. orders (classes x a) (classes x b) (instr_at (trace_of x a) k))
    (λ k. page.instr_orders (classes x a) (classes x b) (instr_at (trace_of x a) k))
    (λ k. orders-alike (classes x a) (classes x b) (instr_at (trace_of x a) k))
    (between (place x a) (place x b))
