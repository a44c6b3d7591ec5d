-- What a list of files names, as herd7 reads it.
use Rattle.std.specs.Prelude.{ℕ, ◌==◌, Bool, false, Option, None, Some, option_map, List, [], ◌∷◌, ◌++◌, codes, if◌then◌else◌}
use Rattle.std.specs.List.{flat_map}
use Rattle.std.specs.Path.{rsplit_once}
use Rattle.std.specs.Str.{trim}
use Rattle.std.specs.Str.Lines.{lines}
use Rattle.fs_app_io.specs.Lines.{says}

abbrev pub is_absolute : List ℕ → Bool
is_absolute [] = false
is_absolute (b ∷ path) = b == 47

-- what stands before the last /
abbrev pub folder_of : List ℕ → Option (List ℕ)
folder_of path = option_map (λ parts. parts.0) (rsplit_once 47 path)

-- the path in the folder, if there is one
abbrev pub below : (folder : Option (List ℕ)) → (path : List ℕ) → List ℕ
below None path = path
below (Some folder) path = folder ++ (codes "/" ++ path)

-- the path that the list of this name names, from its folder on
abbrev pub beside : (list path : List ℕ) → List ℕ
beside list path = if is_absolute path then path else below (folder_of list) path

abbrev pub path_at : (list line : List ℕ) → List (List ℕ)
path_at list line = if says line then beside list line ∷ [] else []

abbrev pub path_of : (list line : List ℕ) → List (List ℕ)
path_of list line = path_at list (trim line)

abbrev pub paths_in : (list text : List ℕ) → List (List ℕ)
paths_in list text = flat_map (path_of list) (lines text)
