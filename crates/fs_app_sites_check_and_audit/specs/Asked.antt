-- The question that files ask without their copies' FENCEs.
use Rattle.std.specs.Prelude.{ℕ, List, map}
use Rattle.serde_json.specs.Data.{Data}
use Rattle.fs_sites.specs.Questions.{Question}
use Rattle.fs_app_sites.specs.Sites.{names_of, question_of}
use Rattle.fs_app_sites_check_and_audit.specs.Copies.{Held}

-- the names of the sites
abbrev pub names_in : List Held → List (List ℕ)
names_in held = names_of (map (λ h. h.asked) held)

-- the question of the files without the copies' FENCEs
abbrev pub asked_of : Data → List Held → Question
asked_of prices held = question_of prices (names_in held) (map (λ h. h.asked) held)
