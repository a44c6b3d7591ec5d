-- The FENCEs that name devices stay, without the others and beside those that are placed.
use Rattle.std.proofs.Common.{◌≡◌, ◌∙◌, ℕ, ◌+◌, List, [], ◌∷◌, ◌++◌, map, filter, flat_map, cond, Bool, true, false, not, ◌||◌, Option, None, Some, refl, ap, ap₂, sym}
use Rattle.std.specs.List.{enumerate_from}
use Rattle.fs_instr.specs.declared.instr.Instr.{Instr}
use Rattle.fs_instr.specs.declared.instr.Instr.TheVariants as instr
use Rattle.fs_kinds.specs.declared.kind.Kind.{Kind}
use Rattle.fs_kinds.specs.declared.kind.Kind.TheVariants as kind
use Rattle.fs_kinds.specs.declared.placement.Entry.{Entry}
use Rattle.fs_kinds.specs.Placement.{kind_at}
use Rattle.fs_model.specs.Fenced.{fences, fenced_code, fenced_codes, moved as moved_on, with_fence}
use Rattle.fs_model.specs.Slots.{slot_at}
use Rattle.fs_app_audit.specs.Unfenced.{is_fence, is_kept, moved, names_devices, unfenced_code}

-- ---- what is moved

named : (code : List Instr) (i : Instr) → names_devices (moved code i) ≡ names_devices i
named code (instr.Branch o a b t) = refl
named code (instr.Jump t) = refl
named code (instr.Register o rd a b) = refl
named code (instr.Immediate o rd a z) = refl
named code (instr.Shift o rd a n) = refl
named code (instr.Lui rd n) = refl
named code (instr.Li rd n) = refl
named code (instr.Lw ann rd a z) = refl
named code (instr.Sw ann v a z) = refl
named code (instr.Lr ann rd a) = refl
named code (instr.Sc ann rd v a) = refl
named code (instr.Amo o ann rd v a) = refl
named code (instr.Fence b a) = refl
named code instr.FenceTso = refl
named code instr.FenceI = refl

same : (code : List Instr) (i : Instr) → names_devices i ≡ true → moved code i ≡ i
same code (instr.Branch o a b t) e = absurd (cc)
same code (instr.Jump t) e = absurd (cc)
same code (instr.Register o rd a b) e = refl
same code (instr.Immediate o rd a z) e = refl
same code (instr.Shift o rd a n) e = refl
same code (instr.Lui rd n) e = refl
same code (instr.Li rd n) e = refl
same code (instr.Lw ann rd a z) e = refl
same code (instr.Sw ann v a z) e = refl
same code (instr.Lr ann rd a) e = refl
same code (instr.Sc ann rd v a) e = refl
same code (instr.Amo o ann rd v a) e = refl
same code (instr.Fence b a) e = refl
same code instr.FenceTso e = refl
same code instr.FenceI e = refl

named_on : (p : List Entry) (hart : ℕ) (i : Instr) → names_devices (moved_on p hart i) ≡ names_devices i
named_on p hart (instr.Branch o a b t) = refl
named_on p hart (instr.Jump t) = refl
named_on p hart (instr.Register o rd a b) = refl
named_on p hart (instr.Immediate o rd a z) = refl
named_on p hart (instr.Shift o rd a n) = refl
named_on p hart (instr.Lui rd n) = refl
named_on p hart (instr.Li rd n) = refl
named_on p hart (instr.Lw ann rd a z) = refl
named_on p hart (instr.Sw ann v a z) = refl
named_on p hart (instr.Lr ann rd a) = refl
named_on p hart (instr.Sc ann rd v a) = refl
named_on p hart (instr.Amo o ann rd v a) = refl
named_on p hart (instr.Fence b a) = refl
named_on p hart instr.FenceTso = refl
named_on p hart instr.FenceI = refl

same_on : (p : List Entry) (hart : ℕ) (i : Instr) → names_devices i ≡ true → moved_on p hart i ≡ i
same_on p hart (instr.Branch o a b t) e = absurd (cc)
same_on p hart (instr.Jump t) e = absurd (cc)
same_on p hart (instr.Register o rd a b) e = refl
same_on p hart (instr.Immediate o rd a z) e = refl
same_on p hart (instr.Shift o rd a n) e = refl
same_on p hart (instr.Lui rd n) e = refl
same_on p hart (instr.Li rd n) e = refl
same_on p hart (instr.Lw ann rd a z) e = refl
same_on p hart (instr.Sw ann v a z) e = refl
same_on p hart (instr.Lr ann rd a) e = refl
same_on p hart (instr.Sc ann rd v a) e = refl
same_on p hart (instr.Amo o ann rd v a) e = refl
same_on p hart (instr.Fence b a) e = refl
same_on p hart instr.FenceTso e = refl
same_on p hart instr.FenceI e = refl

-- ---- one more instruction

-- one that stands for x, and is x where x names devices
one : (c b : Bool) (x y : Instr) (r s : List Instr) → b ≡ c → (c ≡ true → y ≡ x) → r ≡ s → cond b (y ∷ r) r ≡ cond c (x ∷ s) s
one true b x y r s e is rest = ap (λ d. cond d (y ∷ r) r) e ∙ ap₂ (λ h t. h ∷ t) (is refl) rest
one false b x y r s e is rest = ap (λ d. cond d (y ∷ r) r) e ∙ rest

or_true : (b : Bool) → b || true ≡ true
or_true true = refl
or_true false = refl

kept : (x : Instr) → names_devices x ≡ true → is_kept x ≡ true
kept x e = ap (λ b. not (is_fence x) || b) e ∙ or_true (not (is_fence x))

unnamed : (x : Instr) → is_kept x ≡ false → names_devices x ≡ false
unnamed x out = by (names_devices x) refl where
  by : (b : Bool) → names_devices x ≡ b → names_devices x ≡ false
  by true e = (let stays = kept x e in absurd (cc))
  by false e = e

filtered : (k : Bool) (x : Instr) (ys s : List Instr) → is_kept x ≡ k → filter names_devices ys ≡ s
    → filter names_devices (cond k (x ∷ ys) ys) ≡ cond (names_devices x) (x ∷ s) s
filtered true x ys s e rest = ap (λ r. cond (names_devices x) (x ∷ r) r) rest
filtered false x ys s e rest = rest ∙ sym (ap (λ b. cond b (x ∷ s) s) (unnamed x e))

-- a fence that is placed names none
placed : (k : Option Kind) (y : Instr) (rest : List Instr) → filter names_devices ((fences k ++ y ∷ []) ++ rest) ≡ filter names_devices (y ∷ rest)
placed None y rest = refl
placed (Some kind.RR) y rest = refl
placed (Some kind.RW) y rest = refl
placed (Some kind.RRw) y rest = refl
placed (Some kind.WR) y rest = refl
placed (Some kind.WW) y rest = refl
placed (Some kind.WRw) y rest = refl
placed (Some kind.RwR) y rest = refl
placed (Some kind.RwW) y rest = refl
placed (Some kind.RwRw) y rest = refl
placed (Some kind.Tso) y rest = refl

-- ---- a code

module _ (code : List Instr) where
  moving : (xs : List Instr) → filter names_devices (map (moved code) xs) ≡ filter names_devices xs
  moving [] = refl
  moving (x ∷ xs) = one (names_devices x) (names_devices (moved code x)) x (moved code x) _ _ (named code x) (same code x) (moving xs)

keeping : (xs : List Instr) → filter names_devices (filter is_kept xs) ≡ filter names_devices xs
keeping [] = refl
keeping (x ∷ xs) = filtered (is_kept x) x (filter is_kept xs) (filter names_devices xs) refl (keeping xs)

left : (code : List Instr) → filter names_devices (unfenced_code code) ≡ filter names_devices code
left code = moving code (filter is_kept code) ∙ keeping code

module _ (p : List Entry) (hart : ℕ) where
  fencing : (n : ℕ) (xs : List Instr) → filter names_devices (flat_map (with_fence p hart) (enumerate_from n xs)) ≡ filter names_devices xs
  fencing n [] = refl
  fencing n (x ∷ xs) =
      placed (kind_at (slot_at hart n) p) (moved_on p hart x) (flat_map (with_fence p hart) (enumerate_from (n + 1) xs))
      ∙ one (names_devices x) (names_devices (moved_on p hart x)) x (moved_on p hart x) _ _ (named_on p hart x) (same_on p hart x) (fencing (n + 1) xs)

-- ---- all harts

module _ (p : List Entry) where
  harts : (n : ℕ) (codes : List (List Instr))
      → map (filter names_devices) (map (fenced_code p) (enumerate_from n (map unfenced_code codes))) ≡ map (filter names_devices) codes
  harts n [] = refl
  harts n (c ∷ cs) = ap₂ (λ x xs. x ∷ xs) (fencing p n 0 (unfenced_code c) ∙ left c) (harts (n + 1) cs)

  pub devices_stay : (codes : List (List Instr))
      → map (filter names_devices) (fenced_codes p (map unfenced_code codes)) ≡ map (filter names_devices) codes
  devices_stay codes = harts 0 codes
