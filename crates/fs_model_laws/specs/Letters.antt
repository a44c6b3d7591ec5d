-- Rule 4 by the letters of FENCEs.
use Rattle.std.specs.Prelude.{ℕ, Bool, false, ◌&&◌, ◌||◌}
use Rattle.std.specs.List.{list_any}
use Rattle.fs_kinds.specs.declared.kind.Classes.{Classes}
use Rattle.fs_instr.specs.declared.instr.Instr.{Instr}
use Rattle.fs_instr.specs.declared.instr.Instr.TheVariants.{Fence, FenceTso}
use Rattle.fs_instr.specs.declared.letters.Letters.{Letters}
use Rattle.fs_model.specs.Operations.{PreExecution, between, classes, place, trace_of, instr_at}

-- the letters of one side of a FENCE name an operation that reads and writes so
abbrev pub names : Letters → Classes → Bool
names side o = side.reads && o.reads || side.writes && o.writes

-- the instruction is a FENCE that orders the first operation before the second
abbrev pub orders : (first second : Classes) → Instr → Bool
orders first second (Fence before after) = names before first && names after second
orders first second FenceTso = first.reads && (second.reads || second.writes) || first.writes && second.writes
orders first second _ = false

-- there is one between a and b in program order that orders them
abbrev pub fence_between : PreExecution → ℕ → ℕ → Bool
fence_between x a b = list_any (λ k. orders (classes x a) (classes x b) (instr_at (trace_of x a) k)) (between (place x a) (place x b))
