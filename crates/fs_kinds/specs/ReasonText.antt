-- What the program prints of a reason.
use Rattle.std.specs.Prelude.{ℕ, List, ◌++◌, codes}
use Rattle.std.specs.Fmt.{decimal}
use Rattle.fs_kinds.specs.Slot.{place_name}
use Rattle.fs_kinds.specs.declared.reason.OperationName.{OperationName}
use Rattle.fs_kinds.specs.declared.reason.Reason.{Reason}
use Rattle.fs_kinds.specs.declared.reason.Reason.TheVariants.{Choices, Astray, Order, Load, Rule, Atomic, Outcome, Answer, Cycles, Cycle, Tree, Node, Witness}

abbrev pub operation_name : OperationName → List ℕ
operation_name o = place_name o.hart o.at

abbrev pub reason_text : Reason → List ℕ
reason_text (Choices hart) = codes "choices P" ++ decimal hart
reason_text (Astray hart at) = codes "astray " ++ place_name hart at
reason_text Order = codes "order"
reason_text (Load load) = codes "load " ++ operation_name load
reason_text (Rule rule first second) = codes "rule " ++ decimal rule ++ codes " " ++ operation_name first ++ codes " " ++ operation_name second
reason_text (Atomic load store) = codes "atomic " ++ operation_name load ++ codes " " ++ operation_name store
reason_text Outcome = codes "outcome"
reason_text Answer = codes "answer"
reason_text Cycles = codes "cycles"
reason_text (Cycle index) = codes "cycle " ++ decimal index
reason_text Tree = codes "tree"
reason_text (Node index) = codes "node " ++ decimal index
reason_text (Witness index) = codes "witness " ++ decimal index
