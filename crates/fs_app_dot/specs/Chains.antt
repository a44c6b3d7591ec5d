-- The arrows of a contradiction: a chain of fs_app_why, link by link.
use Rattle.std.specs.Prelude.{ℕ, Option, None, Some, List, [], ◌∷◌, ◌++◌, codes, slice_get}
use Rattle.std.specs.List.{flat_map}
use Rattle.fs_instr.specs.declared.instr.Instr.{Instr}
use Rattle.fs_instr.specs.Writing.{instr_text}
use Rattle.fs_kinds.specs.Kind.{word}
use Rattle.fs_model.specs.declared.test.Test.{Test}
use Rattle.fs_model.specs.Execution.{code_of}
use Rattle.fs_cert_evidence.specs.declared.evidence.Cause.{Cause}
use Rattle.fs_cert_evidence.specs.declared.evidence.Cause.TheVariants.{Rule1, Rule2, Rule3, Rule4, Rule5, Rule6, Rule7}
use Rattle.fs_cert_evidence.specs.declared.evidence.Cause.TheVariants.{Rule8, Rule9, Rule10, Rule11, Rule12, Rule13}
use Rattle.fs_cert_evidence.specs.declared.evidence.Cause.TheVariants.{ReadsFrom, Coherence, FromReads}
use Rattle.fs_app_why.specs.declared.chain.Arrow.{Arrow}
use Rattle.fs_app_why.specs.declared.chain.Arrow.TheVariants.{Because, Forgotten, Pair, End}
use Rattle.fs_app_why.specs.declared.chain.ChainLink.{ChainLink}
use Rattle.fs_app_why.specs.declared.fences.Fence.{Fence}
use Rattle.fs_app_why.specs.declared.fences.Fence.TheVariants.{Placed, Written}
use Rattle.fs_app_dot.specs.declared.graph.Edge.{Edge}
use Rattle.fs_app_dot.specs.declared.graph.Ink.{Ink}
use Rattle.fs_app_dot.specs.declared.graph.Ink.TheVariants as ink

abbrev pub ink_of : Cause → Ink
ink_of Rule4 = ink.Fence
ink_of ReadsFrom = ink.ReadsFrom
ink_of Coherence = ink.Coherence
ink_of FromReads = ink.FromReads
ink_of cause = ink.Rule

abbrev pub cause_label : Cause → List ℕ
cause_label Rule1 = codes "ppo (rule 1)"
cause_label Rule2 = codes "ppo (rule 2)"
cause_label Rule3 = codes "ppo (rule 3)"
cause_label Rule4 = codes "fence"
cause_label Rule5 = codes "aq (rule 5)"
cause_label Rule6 = codes "rl (rule 6)"
cause_label Rule7 = codes "aq, rl (rule 7)"
cause_label Rule8 = codes "lr/sc (rule 8)"
cause_label Rule9 = codes "addr (rule 9)"
cause_label Rule10 = codes "data (rule 10)"
cause_label Rule11 = codes "ctrl (rule 11)"
cause_label Rule12 = codes "ppo (rule 12)"
cause_label Rule13 = codes "ppo (rule 13)"
cause_label ReadsFrom = codes "rf"
cause_label Coherence = codes "co"
cause_label FromReads = codes "fr"

-- a FENCE of the test in print
abbrev pub written_label : Option Instr → List ℕ
written_label None = codes "fence"
written_label (Some instr) = instr_text instr

abbrev pub fence_label : Test → Option Fence → List ℕ
fence_label t None = codes "fence"
fence_label t (Some (Placed slot kind)) = codes "fence " ++ word kind
fence_label t (Some (Written hart at)) = written_label (slice_get (code_of t hart) at)

abbrev pub label_of : Test → Cause → Option Fence → List ℕ
label_of t Rule4 fence = fence_label t fence
label_of t cause fence = cause_label cause

-- to the next one; in a pair from its load to its store
abbrev pub arrow_edges : Test → ChainLink → Arrow → List Edge
arrow_edges t link (Because cause) =
    record { from = link.name; to = link.next; ink = ink_of cause; label = label_of t cause link.fence } ∷ []
arrow_edges t link Forgotten =
    record { from = link.name; to = link.next; ink = ink.Rule; label = codes "load values" } ∷ []
arrow_edges t link (Pair load) =
    record { from = load; to = link.name; ink = ink.Rule; label = codes "atomicity" } ∷ []
arrow_edges t link End = []

abbrev pub link_edges : Test → ChainLink → List Edge
link_edges t link = arrow_edges t link link.arrow

abbrev pub chain_edges : Test → List ChainLink → List Edge
chain_edges t links = flat_map (link_edges t) links
