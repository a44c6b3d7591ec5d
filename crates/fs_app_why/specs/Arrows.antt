-- What leads from an operation of a chain to the next one, in words.
use Rattle.std.specs.Prelude.{ℕ, ◌==◌, Bool, true, false, Option, None, Some, List, [], ◌++◌, codes, length, if◌then◌else◌}
use Rattle.std.specs.Fmt.{decimal}
use Rattle.fs_instr.specs.declared.instr.Instr.{Instr}
use Rattle.fs_instr.specs.Roles.{is_amo}
use Rattle.fs_kinds.specs.declared.kind.Classes.{Classes}
use Rattle.fs_kinds.specs.declared.reason.OperationName.{OperationName as Name}
use Rattle.fs_kinds.specs.Kind.{word}
use Rattle.fs_kinds.specs.ReasonText.{operation_name}
use Rattle.fs_model.specs.declared.test.Test.{Test}
use Rattle.fs_cert_evidence.specs.declared.evidence.Cause.{Cause}
use Rattle.fs_cert_evidence.specs.declared.evidence.Cause.TheVariants.{Rule1, Rule2, Rule3, Rule4, Rule5, Rule6, Rule7, Rule8, Rule9, Rule10, Rule11, Rule12, Rule13, ReadsFrom, Coherence, FromReads}
use Rattle.fs_app_why.specs.declared.chain.Arrow.{Arrow}
use Rattle.fs_app_why.specs.declared.chain.Arrow.TheVariants.{Because, Forgotten, Pair, End}
use Rattle.fs_app_why.specs.declared.fences.Fence.{Fence}
use Rattle.fs_app_why.specs.declared.fences.Fence.TheVariants.{Placed, Written}
use Rattle.fs_app_why.specs.Fences.{fence_orders}
use Rattle.fs_app_why.specs.InstructionWords.{instr_named, line_of, text_of_instr}

-- ---- causes but for rule 4; a comes before b

abbrev pub cause_text : Cause → (a b : Name) → List ℕ
cause_text Rule1 a b = operation_name b ++ codes " is a store to the same word, behind it in the code (rule 1)"
cause_text Rule2 a b = operation_name b ++ codes " loads the same word behind it, from another store (rule 2)"
cause_text Rule3 a b =
    operation_name b ++ (codes " reads what " ++ (operation_name a ++ codes ", an AMO or sc.w of its own hart, stored (rule 3)"))
cause_text Rule4 a b = codes "fences (rule 4)"
cause_text Rule5 a b = operation_name a ++ codes " is an acquire (rule 5)"
cause_text Rule6 a b = operation_name b ++ codes " is a release (rule 6)"
cause_text Rule7 a b = operation_name a ++ (codes " and " ++ (operation_name b ++ codes " both have .aq or .rl (rule 7)"))
cause_text Rule8 a b =
    operation_name a ++ (codes " and " ++ (operation_name b ++ codes " are a pair of lr.w and sc.w (rule 8)"))
cause_text Rule9 a b =
    codes "the address of " ++ (operation_name b ++ (codes " comes from " ++ (operation_name a ++ codes " (rule 9)")))
cause_text Rule10 a b =
    codes "the value of " ++ (operation_name b ++ (codes " comes from " ++ (operation_name a ++ codes " (rule 10)")))
cause_text Rule11 a b =
    operation_name b ++ (codes " is a store behind a branch on " ++ (operation_name a ++ codes " (rule 11)"))
cause_text Rule12 a b =
    operation_name b
    ++ (codes " reads a store of its hart whose address or value comes from " ++ (operation_name a ++ codes " (rule 12)"))
cause_text Rule13 a b =
    operation_name b
    ++ (codes " is a store behind an access whose address comes from " ++ (operation_name a ++ codes " (rule 13)"))
cause_text ReadsFrom a b = operation_name b ++ codes " reads from it (rf)"
cause_text Coherence a b = operation_name b ++ codes " overwrites it (co)"
cause_text FromReads a b = operation_name b ++ codes " overwrites what it reads (fr)"

-- ---- rule 4

-- a fence, and where it stands
abbrev pub fence_text : Test → (lines : List (List ℕ)) → Fence → List ℕ
fence_text t lines (Placed slot kind) =
    codes "fence "
    ++ (word kind ++ (codes " before line " ++ decimal (line_of lines (record { hart = slot.hart; at = slot.at }))))
fence_text t lines (Written hart at) =
    text_of_instr (instr_named t (record { hart = hart; at = at })) ++ (codes " in line " ++ decimal (line_of lines (record { hart = hart; at = at })))

abbrev pub loads_alone : Classes
loads_alone = record { reads = true; writes = false }

abbrev pub stores_alone : Classes
stores_alone = record { reads = false; writes = true }

abbrev pub loads_and_stores : Classes
loads_and_stores = record { reads = true; writes = true }

-- as what an operation counts that does both, where one of these is enough and the other isn't
abbrev pub counts_as : (by_load by_store : Bool) → List ℕ
counts_as true false = codes " counts as a load"
counts_as false true = codes " counts as a store"
counts_as true true = []
counts_as false false = []

-- as what an AMO counts before the fence, and behind it
abbrev pub counts_before : Test → Fence → List ℕ
counts_before t fence =
    counts_as (fence_orders t fence loads_alone loads_and_stores) (fence_orders t fence stores_alone loads_and_stores)

abbrev pub counts_behind : Test → Fence → List ℕ
counts_behind t fence =
    counts_as (fence_orders t fence loads_and_stores loads_alone) (fence_orders t fence loads_and_stores stores_alone)

abbrev pub if_amo : Option Instr → List ℕ → List ℕ
if_amo None text = []
if_amo (Some instr) text = if is_amo instr then text else []

abbrev pub named_counts : Name → List ℕ → List ℕ
named_counts name counts = if length counts == 0 then [] else codes "; " ++ (operation_name name ++ counts)

abbrev pub amo_counts : Test → Name → List ℕ → List ℕ
amo_counts t name counts = named_counts name (if_amo (instr_named t name) counts)

abbrev pub rule_4_text : Test → (lines : List (List ℕ)) → Option Fence → (a b : Name) → List ℕ
rule_4_text t lines None a b = codes "fences (rule 4)"
rule_4_text t lines (Some fence) a b =
    fence_text t lines fence
    ++ (codes " (rule 4" ++ (amo_counts t a (counts_before t fence) ++ (amo_counts t b (counts_behind t fence) ++ codes ")")))

-- ---- all arrows

abbrev pub because_text : Test → (lines : List (List ℕ)) → Cause → Option Fence → (a b : Name) → List ℕ
because_text t lines Rule4 fence a b = rule_4_text t lines fence a b
because_text t lines cause fence a b = cause_text cause a b

abbrev pub arrow_text : Test → (lines : List (List ℕ)) → Arrow → Option Fence → (a b : Name) → List ℕ
arrow_text t lines (Because cause) fence a b = because_text t lines cause fence a b
arrow_text t lines Forgotten fence a b =
    operation_name b ++ codes " comes after it in the code, and yet reads an older store (load values)"
arrow_text t lines (Pair load) fence a b =
    codes "but no store of another hart may come between it and what " ++ (operation_name load ++ codes " reads (atomicity)")
arrow_text t lines End fence a b = []
