-- The files of a question in turn.
use Rattle.std.specs.Prelude.{◌⊎◌, List, [], ◌∷◌}
use Rattle.fs_kinds.specs.declared.fault.Fault.{Fault}
use Rattle.fs_app_sites.specs.declared.content.File.{File}

-- the fault of the first of the files that has one, by what a file holds, and what is a fault of it
module _ {A : Type 0} (Holds : File → A → Type 0) (Has : File → Fault → Type 0) where
  abbrev pub IsFirstIn : List File → Fault → Type 0
  IsFirstIn [] fault = ⊥
  IsFirstIn (file ∷ files) fault = Has file fault ⊎ (((x : A) × Holds file x) × IsFirstIn files fault)
