-- What is at the front of a cell, and what values of inner functions stand for.
use Rattle.std.specs.Prelude.{◌≡◌, ℕ, List, [], ◌∷◌, Bool, not, map}
use Rattle.std.specs.Borrow.{Bor}
use Rattle.fs_litmus_syntax.specs.Body.{Cell}
use Rattle.fs_litmus.specs.declared.site_cell.Label as labels
use Rattle.fs_litmus.specs.SiteLabels.{Label, labels_of, has_instruction}

-- a label, and then the rest
pub record BeginsWith (cell : Cell) (l : Label) (rest : Cell) : Type 0 where
  pub labels : labels_of cell ≡ l ∷ labels_of rest
  pub instruction : has_instruction cell ≡ has_instruction rest

-- no label; and nothing at all where it is empty
pub record BeginsWithNone (cell : Cell) (empty : Bool) : Type 0 where
  pub labels : labels_of cell ≡ []
  pub instruction : has_instruction cell ≡ not empty

-- ---- what the reader's values stand for

-- the label that a value is
abbrev pub label_of : labels.Label → Label
label_of l = record { class = l.class; word = l.word.now; line = l.line }

-- the words that texts are
abbrev pub words_of : List (Bor (List ℕ)) → List (List ℕ)
words_of words = map (λ w. w.now) words
