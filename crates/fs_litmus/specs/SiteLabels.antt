-- The site labels of a test: names that stand as labels in a hart and to which no branch of the hart goes.
use Rattle.std.specs.Prelude.{ℕ, ◌+◌, zero, suc, List, [], ◌∷◌, ◌++◌, Bool, true, false, ◌&&◌, not, ◌==◌, Option, Some, None, map, if◌then◌else◌}
use Rattle.std.specs.List.{list_any, filter, filter_map}
use Rattle.std.specs.Str.{bytes_eq}
use Rattle.fs_litmus_tokens.specs.Words.{is_name}
use Rattle.fs_litmus_tokens.specs.Tokens.{Lined, Word}
use Rattle.fs_litmus_tokens.specs.declared.word.Class.{Class}
use Rattle.fs_litmus_syntax.specs.Numbered.{is_label}
use Rattle.fs_litmus_syntax.specs.Cells.{is_colon}
use Rattle.fs_litmus_syntax.specs.Body.{Cell, column_of}
use Rattle.fs_litmus_syntax.specs.Form.{Form}
use Rattle.fs_litmus.specs.SiteName.{site_name}
use Rattle.fs_litmus.specs.declared.site_label.SiteLabel as site_labels

-- ---- the labels of a cell

-- a label: its word, what that may be read as, and its line
pub record Label : Type 0 where
  pub class : Class
  pub word : List ℕ
  pub line : ℕ

-- the labels at the front of a cell, each a name or a number and a colon
abbrev pub labels_of : Cell → List Label
labels_of ((Word c w, line) ∷ t ∷ ts) = if is_label c && is_colon t then record { class = c; word = w; line = line } ∷ labels_of ts else []
labels_of _ = []

-- an instruction stands behind the labels
abbrev pub has_instruction : Cell → Bool
has_instruction [] = false
has_instruction ((Word c w, line) ∷ t ∷ ts) = if is_label c && is_colon t then has_instruction ts else true
has_instruction _ = true

-- ---- which of them are site labels

-- the token's word
abbrev pub word_of : Lined → Option (List ℕ)
word_of (Word c w, line) = Some w
word_of _ = None

-- the word that is the cell's last token, as a branch's is the label that it goes to
abbrev pub end_word : Cell → Option (List ℕ)
end_word [] = None
end_word (t ∷ []) = word_of t
end_word (t ∷ u ∷ ts) = end_word (u ∷ ts)

-- the words in which cells end
abbrev pub end_words : List Cell → List (List ℕ)
end_words cells = filter_map end_word cells

-- of a hart whose cells end in these words: a name that is none of them
abbrev pub is_site : List (List ℕ) → Label → Bool
is_site ends l = is_name l.class && not (list_any (λ v. bytes_eq v l.word) ends)

-- ---- where they stand

-- a site label: its hart; how many of the hart's instructions stand before it; the name of its site; and its line
pub record SiteLabel : Type 0 where
  pub hart : ℕ
  pub at : ℕ
  pub name : List ℕ
  pub line : ℕ

-- what is told of a label at this position of a hart
abbrev pub site_label : ℕ → ℕ → Label → SiteLabel
site_label hart at l = record { hart = hart; at = at; name = site_name l.word; line = l.line }

-- those of one cell of a hart whose cells end in these words
abbrev pub cell_sites : List (List ℕ) → ℕ → ℕ → Cell → List SiteLabel
cell_sites ends hart at cell = map (site_label hart at) (filter (is_site ends) (labels_of cell))

-- how many instructions stand before what is behind the cell
abbrev pub position_after : ℕ → Cell → ℕ
position_after at cell = if has_instruction cell then at + 1 else at

-- those of the last cells of a hart, before which so many instructions stand
abbrev pub sites_from : List (List ℕ) → ℕ → ℕ → List Cell → List SiteLabel
sites_from ends hart at [] = []
sites_from ends hart at (c ∷ cs) = cell_sites ends hart at c ++ sites_from ends hart (position_after at c) cs

-- those of one hart
abbrev pub hart_sites : ℕ → List Cell → List SiteLabel
hart_sites hart cells = sites_from (end_words cells) hart 0 cells

-- those of so many harts, in the order of the harts and then of the rows
abbrev pub first_sites : ℕ → List (List Cell) → List SiteLabel
first_sites zero rows = []
first_sites (suc n) rows = first_sites n rows ++ hart_sites n (column_of n rows)

-- those of all harts
abbrev pub site_labels_of : Form → List SiteLabel
site_labels_of form = first_sites form.columns form.rows

-- The line of the first site label that stands right before the same instruction as the one before it: a place is of one
-- site.
abbrev pub clash : List SiteLabel → Option ℕ
clash [] = None
clash (a ∷ []) = None
clash (a ∷ b ∷ rest) = if a.hart == b.hart && a.at == b.at then Some b.line else clash (b ∷ rest)

-- ---- what the reader's values stand for

-- the site label that a value is
abbrev pub site_label_of : site_labels.SiteLabel → SiteLabel
site_label_of l = record { hart = l.hart; at = l.at; name = l.name.now; line = l.line }

-- the site labels that values are
abbrev pub all_of : List site_labels.SiteLabel → List SiteLabel
all_of ls = map site_label_of ls
