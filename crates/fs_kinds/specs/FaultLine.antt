-- The line that names a fault: its number, its name, and its place where it has one.
use Rattle.std.specs.Prelude.{ℕ, List, [], ◌++◌, codes}
use Rattle.std.specs.Fmt.{decimal}
use Rattle.fs_kinds.specs.Slot.{place_name}
use Rattle.fs_kinds.specs.declared.fault.Fault.{Fault}
use Rattle.fs_kinds.specs.declared.fault.Fault.TheVariants.{BadUtf8, NotRiscv, Syntax, UnknownInstr, BadAnnotation, BadLabel, BadInit, BadCondition, TooBig, BadPrices, NoTop, BadFence, TooManyTraces, Astray, TooManyCandidates, NodeLimit, BadWitness, BadCertificate, Memory, ReadFault, WriteFault, Unmatched, StrangePass, BothWidths, WideWord}
use Rattle.fs_kinds.specs.declared.fault.Limit.{Limit}
use Rattle.fs_kinds.specs.declared.fault.Limit.TheVariants.{Harts, Instructions, Accesses, Locations, Depth}

abbrev pub number : Fault → ℕ
number BadUtf8 = 1
number NotRiscv = 2
number (Syntax line) = 3
number (UnknownInstr line) = 4
number (BadAnnotation line) = 5
number (BadLabel line) = 6
number (BadInit line) = 7
number BadCondition = 8
number (TooBig what) = 9
number BadPrices = 10
number NoTop = 11
number BadFence = 12
number TooManyTraces = 13
number (Astray hart at) = 14
number TooManyCandidates = 15
number NodeLimit = 16
number BadWitness = 17
number BadCertificate = 18
number Memory = 19
number ReadFault = 20
number WriteFault = 21
number Unmatched = 22
number StrangePass = 23
number (BothWidths line) = 24
number (WideWord hart at) = 25

abbrev pub name : Fault → List ℕ
name BadUtf8 = codes "BadUtf8"
name NotRiscv = codes "NotRiscv"
name (Syntax line) = codes "Syntax"
name (UnknownInstr line) = codes "UnknownInstr"
name (BadAnnotation line) = codes "BadAnnotation"
name (BadLabel line) = codes "BadLabel"
name (BadInit line) = codes "BadInit"
name BadCondition = codes "BadCondition"
name (TooBig what) = codes "TooBig"
name BadPrices = codes "BadPrices"
name NoTop = codes "NoTop"
name BadFence = codes "BadFence"
name TooManyTraces = codes "TooManyTraces"
name (Astray hart at) = codes "Astray"
name TooManyCandidates = codes "TooManyCandidates"
name NodeLimit = codes "NodeLimit"
name BadWitness = codes "BadWitness"
name BadCertificate = codes "BadCertificate"
name Memory = codes "Memory"
name ReadFault = codes "ReadFault"
name WriteFault = codes "WriteFault"
name Unmatched = codes "Unmatched"
name StrangePass = codes "StrangePass"
name (BothWidths line) = codes "BothWidths"
name (WideWord hart at) = codes "WideWord"

-- what the test has too much of
abbrev pub limit_word : Limit → List ℕ
limit_word Harts = codes "harts"
limit_word Instructions = codes "instructions"
limit_word Accesses = codes "accesses"
limit_word Locations = codes "locations"
limit_word Depth = codes "depth"

abbrev at_line : ℕ → List ℕ
at_line line = codes " line " ++ decimal line

-- where the fault is, or what is too much
abbrev pub place : Fault → List ℕ
place (Syntax line) = at_line line
place (UnknownInstr line) = at_line line
place (BadAnnotation line) = at_line line
place (BadLabel line) = at_line line
place (BadInit line) = at_line line
place (BothWidths line) = at_line line
place (TooBig what) = codes " " ++ limit_word what
place (Astray hart at) = codes " " ++ place_name hart at
place (WideWord hart at) = codes " " ++ place_name hart at
place _ = []

-- such as `fault F6 BadLabel line 5`
abbrev pub fault_line : Fault → List ℕ
fault_line fault = codes "fault F" ++ decimal (number fault) ++ codes " " ++ name fault ++ place fault
