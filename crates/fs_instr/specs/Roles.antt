-- 2. What instructions are to the memory model: the roles of their registers (RISC-V Unprivileged ISA 20191213, chapter
-- "RVWMO Memory Consistency Model", section "Source and Destination Register Listings"), and annotations.
use Rattle.std.specs.Prelude.{ℕ, List, [], ◌∷◌, Option, Some, None, Bool, true, false, pos, ◌==◌, if◌then◌else◌}
use Rattle.fs_instr.specs.declared.names.Ann.{Ann}
use Rattle.fs_instr.specs.declared.names.ImmOp.TheVariants.{Addi}
use Rattle.fs_instr.specs.declared.instr.Instr.{Instr}
use Rattle.fs_instr.specs.declared.instr.Instr.TheVariants as instr
use Rattle.fs_instr.specs.declared.instr.Roles.{Roles}

-- ---- roles

-- x0 is never a destination or a source
abbrev pub named : ℕ → Option ℕ
named r = if r == 0 then None else Some r

-- the destination, two sources (either of which may be none), which of them gives the address, and which the data, of a
-- memory instruction, and whether the instruction carries dependencies from sources to destination. Below a and b are
-- the first and the second register or the base, v the register that is stored, z, n and t numbers, o the operator.
abbrev pub roles : Option ℕ → Option ℕ → Option ℕ → Option ℕ → Option ℕ → Bool → Roles
roles dest first second address value carries = record { dest = dest; sources = first ∷ second ∷ []; address = address; «data» = value; carries = carries }

-- rd of an sc.w is a destination also where it fails; the manual's table has it where it succeeds. lui and li have no
-- source to carry from.
abbrev pub roles_of : Instr → Roles
roles_of (instr.Register o rd a b) = roles (named rd) (named a) (named b) None None true
roles_of (instr.Immediate o rd a z) = roles (named rd) (named a) None None None true
roles_of (instr.Shift o rd a n) = roles (named rd) (named a) None None None true
roles_of (instr.Lui rd n) = roles (named rd) None None None None false
roles_of (instr.Li rd n) = roles (named rd) None None None None false
roles_of (instr.Lw ann rd a z) = roles (named rd) (named a) None (named a) None false
roles_of (instr.Sw ann v a z) = roles None (named a) (named v) (named a) (named v) false
roles_of (instr.Lr ann rd a) = roles (named rd) (named a) None (named a) None false
roles_of (instr.Sc ann rd v a) = roles (named rd) (named a) (named v) (named a) (named v) false
roles_of (instr.Amo o ann rd v a) = roles (named rd) (named a) (named v) (named a) (named v) false
roles_of (instr.Branch o a b t) = roles None (named a) (named b) None None false
roles_of _ = roles None None None None None false

abbrev pub dest_of : Instr → Option ℕ
dest_of i = (roles_of i).dest

abbrev pub sources_of : Instr → List (Option ℕ)
sources_of i = (roles_of i).sources

abbrev pub address_of : Instr → Option ℕ
address_of i = (roles_of i).address

abbrev pub data_of : Instr → Option ℕ
data_of i = (roles_of i).«data»

abbrev pub carries_of : Instr → Bool
carries_of i = (roles_of i).carries

-- ---- which instruction it is

-- lw, sw, lr.w, sc.w or an AMO
abbrev pub is_memory : Instr → Bool
is_memory (instr.Lw ann rd a z) = true
is_memory (instr.Sw ann v a z) = true
is_memory (instr.Lr ann rd a) = true
is_memory (instr.Sc ann rd v a) = true
is_memory (instr.Amo o ann rd v a) = true
is_memory _ = false

-- a branch with a condition
abbrev pub is_conditional : Instr → Bool
is_conditional (instr.Branch o a b t) = true
is_conditional _ = false

abbrev pub is_lr : Instr → Bool
is_lr (instr.Lr ann rd a) = true
is_lr _ = false

abbrev pub is_sc : Instr → Bool
is_sc (instr.Sc ann rd v a) = true
is_sc _ = false

abbrev pub is_amo : Instr → Bool
is_amo (instr.Amo o ann rd v a) = true
is_amo _ = false

-- its bits aq and rl
abbrev pub annotation : Instr → Ann
annotation (instr.Lw ann rd a z) = ann
annotation (instr.Sw ann v a z) = ann
annotation (instr.Lr ann rd a) = ann
annotation (instr.Sc ann rd v a) = ann
annotation (instr.Amo o ann rd v a) = ann
annotation _ = record { acquire = false; release = false }

-- the instruction that does nothing
abbrev pub nop : Instr
nop = instr.Immediate Addi 0 0 (pos 0)
