-- How large the tree of all placements may be, and when a search may end without an answer.
use Rattle.std.specs.Prelude.{◌≡◌, ◌⊎◌, ℕ, zero, suc, ◌+◌, ◌*◌, ◌<◌, max, [], ◌∷◌, length}
use Rattle.fs_kinds.specs.declared.fault.Fault.{Fault}
use Rattle.fs_kinds.specs.declared.fault.Fault.TheVariants.{NodeLimit}
use Rattle.fs_model.specs.declared.test.Test.{Test}
use Rattle.fs_model.specs.Allows.{Allows, full_fences, no_fences}
use Rattle.fs_cert_evidence.specs.CandidateFaults.{IsCandidateFault}
pub use Rattle.fs_cert_evidence.specs.Sizes.{HasNoRunFault}
use Rattle.fs_board_offers.specs.Offers.{Offers, options, slots}

-- the most options that there are at one slot
abbrev pub most_options : Offers → ℕ
most_options [] = 0
most_options (o ∷ offers) = max (length (options o)) (most_options offers)

-- The nodes below one with so many undecided slots, where each of them is split, and has so many options. Where slots
-- have fewer there are fewer nodes.
abbrev pub tree_size : Offers → ℕ → ℕ
tree_size offers zero = 0
tree_size offers (suc n) = most_options offers * (1 + tree_size offers n)

-- below the root
abbrev pub whole_tree : Offers → ℕ
whole_tree offers = tree_size offers (length (slots offers))

-- Fences are needed, and rw,rw in every slot is enough; and the tree of all placements may have more nodes besides its
-- root than the limit.
pub record IsNodeLimit (t : Test) (offers : Offers) (limit : ℕ) : Type 0 where
  pub needed : Allows t (no_fences t)
  pub enough : Allows t (full_fences t) → ⊥
  pub large : limit < whole_tree offers

-- Why a search has no answer: the candidates can't be listed. Or the runs can, fences are needed, some are enough, and
-- the tree of all placements may have more nodes than the limit.
abbrev pub IsUnanswered : Test → Offers → (limit : ℕ) → Fault → Type 0
IsUnanswered t offers limit f =
    IsCandidateFault t f ⊎ ((f ≡ NodeLimit) × IsNodeLimit t offers limit × HasNoRunFault t)
