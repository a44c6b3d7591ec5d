-- What an instruction keeps where its branch target is moved, and what a FENCE of a kind is.
use Rattle.std.proofs.Common.{◌≡◌, ℕ, false, List, Some, refl}
use Rattle.fs_instr.specs.declared.instr.Instr.{Instr}
use Rattle.fs_instr.specs.declared.instr.Instr.TheVariants.{Register, Immediate, Shift, Lui, Li, Lw, Sw, Lr, Sc, Amo, Branch, Jump, Fence, FenceTso, FenceI}
use Rattle.fs_instr.specs.Instructions.{roles_of, is_conditional}
use Rattle.fs_kinds.specs.declared.kind.Kind.{Kind}
use Rattle.fs_kinds.specs.declared.kind.Kind.TheVariants.{RR, RW, RRw, WR, WW, WRw, RwR, RwW, RwRw, Tso}
use Rattle.fs_kinds.specs.declared.kind.Classes.{Classes}
use Rattle.fs_kinds.specs.declared.placement.Entry.{Entry}
use Rattle.fs_model.specs.Fenced.{moved, fence_of}
use Rattle.fs_model.specs.Moved.{IsMoved}
use Rattle.fs_model.specs.Forms.{is_lr, is_sc, is_amo, is_storing, annotation}
use Rattle.fs_model.specs.Fences.{instr_orders, kind_orders}
use Rattle.fs_model.specs.Execute.{address_in, stored_in, executed}

module _ {X : Type 0} (f : Instr → X) (p : List Entry) (hart : ℕ)
    (branch : (op : _) (first second target to : ℕ) → f (Branch op first second to) ≡ f (Branch op first second target))
    (jump : (target to : ℕ) → f (Jump to) ≡ f (Jump target)) where
  -- what doesn't depend on the target stays
  pub same_of_moved : (i : Instr) → f (moved p hart i) ≡ f i
  same_of_moved (Register op rd first second) = refl
  same_of_moved (Immediate op rd first immediate) = refl
  same_of_moved (Shift op rd first amount) = refl
  same_of_moved (Lui rd upper) = refl
  same_of_moved (Li rd word) = refl
  same_of_moved (Lw ann rd base offset) = refl
  same_of_moved (Sw ann value base offset) = refl
  same_of_moved (Lr ann rd base) = refl
  same_of_moved (Sc ann rd value base) = refl
  same_of_moved (Amo op ann rd value base) = refl
  same_of_moved (Branch op first second target) = branch op first second target _
  same_of_moved (Jump target) = jump target _
  same_of_moved (Fence before after) = refl
  same_of_moved FenceTso = refl
  same_of_moved FenceI = refl

module _ (p : List Entry) (hart : ℕ) (i : Instr) where
  pub same_roles : roles_of (moved p hart i) ≡ roles_of i
  same_roles = same_of_moved roles_of p hart (λ op first second target to. refl) (λ target to. refl) i

  pub same_conditional : is_conditional (moved p hart i) ≡ is_conditional i
  same_conditional = same_of_moved is_conditional p hart (λ op first second target to. refl) (λ target to. refl) i

  pub same_lr : is_lr (moved p hart i) ≡ is_lr i
  same_lr = same_of_moved is_lr p hart (λ op first second target to. refl) (λ target to. refl) i

  pub same_sc : is_sc (moved p hart i) ≡ is_sc i
  same_sc = same_of_moved is_sc p hart (λ op first second target to. refl) (λ target to. refl) i

  pub same_amo : is_amo (moved p hart i) ≡ is_amo i
  same_amo = same_of_moved is_amo p hart (λ op first second target to. refl) (λ target to. refl) i

  pub same_storing : is_storing (moved p hart i) ≡ is_storing i
  same_storing = same_of_moved is_storing p hart (λ op first second target to. refl) (λ target to. refl) i

  pub same_annotation : annotation (moved p hart i) ≡ annotation i
  same_annotation = same_of_moved annotation p hart (λ op first second target to. refl) (λ target to. refl) i

  pub same_orders : (first second : Classes) → instr_orders first second (moved p hart i) ≡ instr_orders first second i
  same_orders first second = same_of_moved (instr_orders first second) p hart (λ op a b target to. refl) (λ target to. refl) i

  pub same_address : (x : List ℕ) → address_in x (moved p hart i) ≡ address_in x i
  same_address x = same_of_moved (address_in x) p hart (λ op a b target to. refl) (λ target to. refl) i

  pub same_stored : (x : List ℕ) (loaded : _) → stored_in x loaded (moved p hart i) ≡ stored_in x loaded i
  same_stored x loaded = same_of_moved (stored_in x loaded) p hart (λ op a b target to. refl) (λ target to. refl) i

  pub same_executed : (x : List ℕ) (loaded stored : _) → executed x loaded stored (moved p hart i) ≡ executed x loaded stored i
  same_executed x loaded stored = same_of_moved (executed x loaded stored) p hart (λ op a b target to. refl) (λ target to. refl) i

-- there is one way to move an instruction
pub moved_alone : (p : List Entry) (hart : ℕ) (i j : Instr) → IsMoved p hart i j → j ≡ moved p hart i
moved_alone p hart (Register op rd first second) j h = h.other refl
moved_alone p hart (Immediate op rd first immediate) j h = h.other refl
moved_alone p hart (Shift op rd first amount) j h = h.other refl
moved_alone p hart (Lui rd upper) j h = h.other refl
moved_alone p hart (Li rd word) j h = h.other refl
moved_alone p hart (Lw ann rd base offset) j h = h.other refl
moved_alone p hart (Sw ann value base offset) j h = h.other refl
moved_alone p hart (Lr ann rd base) j h = h.other refl
moved_alone p hart (Sc ann rd value base) j h = h.other refl
moved_alone p hart (Amo op ann rd value base) j h = h.other refl
moved_alone p hart (Branch op first second target) j h = h.branch target refl
moved_alone p hart (Jump target) j h = h.branch target refl
moved_alone p hart (Fence before after) j h = h.other refl
moved_alone p hart FenceTso j h = h.other refl
moved_alone p hart FenceI j h = h.other refl

-- ---- the FENCE of a kind

-- it has no role, and is no access and no branch
pub record IsQuiet (i : Instr) : Type 0 where
  pub roles : roles_of i ≡ roles_of FenceTso
  pub conditional : is_conditional i ≡ false
  pub lr : is_lr i ≡ false
  pub sc : is_sc i ≡ false
  pub storing : is_storing i ≡ false
  pub executed : (x : List ℕ) (loaded stored : _) → executed x loaded stored i ≡ x

quiet_fence : (before after : _) → IsQuiet (Fence before after)
quiet_fence before after =
    record {
      roles = refl;
      conditional = refl;
      lr = refl;
      sc = refl;
      storing = refl;
      executed = λ x loaded stored. refl;
    }

pub fence_is_quiet : (kind : Kind) → IsQuiet (fence_of kind)
fence_is_quiet RR = quiet_fence _ _
fence_is_quiet RW = quiet_fence _ _
fence_is_quiet RRw = quiet_fence _ _
fence_is_quiet WR = quiet_fence _ _
fence_is_quiet WW = quiet_fence _ _
fence_is_quiet WRw = quiet_fence _ _
fence_is_quiet RwR = quiet_fence _ _
fence_is_quiet RwW = quiet_fence _ _
fence_is_quiet RwRw = quiet_fence _ _
fence_is_quiet Tso =
    record {
      roles = refl;
      conditional = refl;
      lr = refl;
      sc = refl;
      storing = refl;
      executed = λ x loaded stored. refl;
    }

pub fence_orders : (first second : Classes) (kind : Kind)
    → instr_orders first second (fence_of kind) ≡ kind_orders first second (Some kind)
fence_orders first second RR = refl
fence_orders first second RW = refl
fence_orders first second RRw = refl
fence_orders first second WR = refl
fence_orders first second WW = refl
fence_orders first second WRw = refl
fence_orders first second RwR = refl
fence_orders first second RwW = refl
fence_orders first second RwRw = refl
fence_orders first second Tso = refl
