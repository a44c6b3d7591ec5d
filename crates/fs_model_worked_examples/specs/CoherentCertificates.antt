-- Certificates of coherent reads: no fence is needed, and the one candidate that shows the outcome has a cycle.
use Rattle.std.specs.Prelude.{ℕ, None, List, [], ◌∷◌}
use Rattle.fs_kinds.specs.declared.placement.Entry.{Entry}
use Rattle.fs_model.specs.Slots.{slot_at}
use Rattle.fs_model.specs.Preserved.{Rule1, Rule2}
use Rattle.fs_cert_evidence.specs.Judged.{Cause, Preserved, ReadsFrom, Coherence, FromReads}
use Rattle.fs_cert_evidence.specs.Certificate.{Certificate, Version, First, Fenced, Listed, Link, Item, SplitAt, Costly}
use Rattle.fs_model_worked_examples.specs.Rows.{named}

-- the one slot is before hart 1's second load, and it stays empty
abbrev pub unfenced : List Entry
unfenced = record { slot = slot_at 1 1; kind = None } ∷ []

-- the store, the first load and the second load, each with why it comes before the next one
abbrev pub circle_for : (first second third : Cause) → List Link
circle_for first second third =
    record { operation = named 0 1; cause = first }
    ∷ record { operation = named 1 0; cause = second }
    ∷ record { operation = named 1 1; cause = third }
    ∷ []

abbrev pub right_circle : List Link
right_circle = circle_for ReadsFrom (Preserved Rule2) FromReads

-- `p1` in place of `p2`, and `co` in place of `rf`
abbrev pub wrong_rule : List Link
wrong_rule = circle_for ReadsFrom (Preserved Rule1) FromReads

abbrev pub wrong_edge : List Link
wrong_edge = circle_for Coherence (Preserved Rule2) FromReads

-- it begins at `P0:0`, which is no operation
abbrev pub no_operation : List Link
no_operation =
    record { operation = named 0 0; cause = ReadsFrom }
    ∷ record { operation = named 1 0; cause = Preserved Rule2 }
    ∷ record { operation = named 1 1; cause = FromReads }
    ∷ []

-- a certificate that no fence is needed
abbrev pub certificate : Version → (cost : ℕ) → List (List Link) → List Item → Certificate
certificate version cost cycles tree =
    record { version = version; answer = Fenced cost []; cycles = Listed cycles; tree = tree; witnesses = [] }

-- with its cycle, in the first version
abbrev pub with_tree : List Item → Certificate
with_tree tree = certificate First 0 (right_circle ∷ []) tree

abbrev pub leaf : List Item
leaf = Costly ∷ []

-- the root split at the slot of this number, and six leaves; there are seven ways to decide the slot
abbrev pub six_leaves : (slot : ℕ) → List Item → List Item
six_leaves slot more = SplitAt slot ∷ Costly ∷ Costly ∷ Costly ∷ Costly ∷ Costly ∷ Costly ∷ more
