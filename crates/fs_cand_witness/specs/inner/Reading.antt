-- What is read off a candidate's runs and an order of its operations.
use Rattle.std.specs.Prelude.{◌≡◌, ℕ, List, map}
use Rattle.std.specs.List.{filter_map, list_any}
use Rattle.fs_kinds.specs.declared.placement.Entry.{Entry}
use Rattle.fs_kinds.specs.declared.slot.Slot.{Slot}
use Rattle.fs_model.specs.declared.step.Choice.{Choice}
use Rattle.fs_model.specs.declared.step.Step.{Step}
use Rattle.fs_model.specs.Choices.{choice_by}
use Rattle.fs_model.specs.Numbers.{stands_before}
use Rattle.fs_hart.specs.Steps.{steps_in}
use Rattle.fs_cand.specs.declared.candidate.Candidate.{Candidate}
use Rattle.fs_ppo.specs.Rules.{OfRuns}
use Rattle.fs_cand_witness.specs.Edges.{has_edge}
use Rattle.fs_cand_witness.specs.declared.points.Sides.{Sides}
use Rattle.fs_cand_witness.specs.Fencing.{orders_at, is_fenced}
use Rattle.fs_cand_witness.specs.Naming.{name_at}
use Rattle.fs_cert_evidence.specs.Evidence.{Shown, widths_of}
use Rattle.fs_cand_witness.specs.inner.Keeping.{width_in}

-- the choices of a run
abbrev pub chosen : List Step → List Choice
chosen = filter_map (λ s. choice_by s.instr s)

-- the witness has the choices of the runs, the names in this order, and the widths that it has at these slots
pub record IsReadOff (ss : List Slot) (c : Candidate) (numbers : List ℕ) (w : Shown) : Type 0 where
  pub choices : w.witness.choices ≡ map chosen (steps_in c.traces)
  pub names : w.witness.order ≡ filter_map (name_at c) numbers
  pub order : List ℕ
  pub is_order : (a b : ℕ) → has_edge order a b ≡ stands_before numbers a b
  pub sides : List Sides
  pub are_sides : OfRuns c (λ x. (p : List Entry) (a b : ℕ) → list_any (orders_at p a b) sides ≡ is_fenced x p a b)
  pub widths : w.widths ≡ widths_of (width_in order sides) ss
