-- What is written at the copies of sites, and the tests in which just these FENCEs order nothing.
use Rattle.std.specs.Prelude.{◌≡◌, ℕ, Bool, List, [], map}
use Rattle.std.specs.List.{AllZip, enumerate_from, list_any, slice_index_or}
use Rattle.fs_instr.specs.declared.instr.Instr.{Instr}
use Rattle.fs_kinds.specs.declared.fault.Fault.{Fault}
use Rattle.fs_kinds.specs.declared.slot.Slot.{Slot}
use Rattle.fs_kinds.specs.Slot.{is_same_slot}
use Rattle.fs_model.specs.declared.test.Test.{Test}
use Rattle.fs_model_laws.specs.InPlace.{followed, written_at}
use Rattle.fs_litmus.specs.Lines.{StandIn}
use Rattle.fs_litmus.specs.Reads.{Reads}
use Rattle.fs_litmus.specs.SiteLabels.{SiteLabel}
use Rattle.fs_litmus.specs.Sited.{HasSites}
use Rattle.fs_app_sites.specs.declared.content.File.{File}
use Rattle.fs_app_sites.specs.Sites.{Content, Copy, HaveCopies, IsFileFault}
use Rattle.fs_app_sites_check_and_audit.specs.Files.{IsFirstIn}
use Rattle.fs_app_sites_check_and_audit.specs.declared.held.Written.{Written}

-- ---- without the copies' FENCEs

-- a copy of a site stands there
abbrev pub is_copied : List Copy → Slot → Bool
is_copied copies s = list_any (λ copy. is_same_slot copy.slot s) copies

-- the test in which the FENCEs at these copies order no memory; all instructions keep their numbers, and the FENCEs
-- elsewhere, which are the client's, stay
abbrev pub emptied_at : List Copy → Test → Test
emptied_at copies t = followed (is_copied copies) t []

-- ---- what is written

-- the line of the instruction at a copy; at the end of the code that of its label
abbrev pub line_at : (lines : List (List ℕ)) → (label : ℕ) → Slot → ℕ
line_at lines label s = slice_index_or (slice_index_or lines s.hart []) s.at label

-- the kind of the FENCE at the copy of this number, if it orders memory, and the line
abbrev pub written_of : List (List Instr) → (lines : List (List ℕ)) → (labels : List ℕ) → ℕ × Copy → Written
written_of codes lines labels numbered = record {
  fence = written_at codes numbered.1.slot;
  line = line_at lines (slice_index_or labels numbered.0 0) numbered.1.slot;
}

-- ---- of files

-- what is asked of a file, its test without the copies' FENCEs; and what is written at its copies
pub record Held : Type 0 where
  pub asked : Content
  pub written : List Written

-- the site labels of the bytes stand in these lines
abbrev pub LabelsStandIn : List ℕ → List ℕ → Type 0
LabelsStandIn bytes lines = (labels : List SiteLabel) × HasSites bytes labels × (lines ≡ map (λ label. label.line) labels)

-- this is written at these copies in a file whose code this is
pub record IsWritten (bytes : List ℕ) (code : List (List Instr)) (copies : List Copy) (written : List Written) : Type 0 where
  pub lines : List (List ℕ)
  pub stand : StandIn bytes lines
  pub labels : List ℕ
  pub labels_stand : LabelsStandIn bytes labels
  pub shown : written ≡ map (written_of code lines labels) (enumerate_from 0 copies)

-- the bytes read as a test with copies of sites, and this is what they hold
pub record IsHeld (bytes : List ℕ) (h : Held) : Type 0 where
  pub test : Test
  pub reads : Reads bytes test
  pub copies : HaveCopies bytes h.asked.copies
  pub emptied : h.asked.test ≡ emptied_at h.asked.copies test
  pub written : IsWritten bytes test.codes h.asked.copies h.written

-- that of a file
abbrev pub Holds : File → Held → Type 0
Holds file = IsHeld file.bytes.items

abbrev pub AreHeld : List File → List Held → Type 0
AreHeld = AllZip Holds

-- of the first file that has one
abbrev pub IsFilesFault : List File → Fault → Type 0
IsFilesFault = IsFirstIn Holds (λ file. IsFileFault file.bytes.items)
