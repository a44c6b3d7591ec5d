-- How the fences of sites are put into a test, place by place.
use Rattle.std.specs.Prelude.{List, [], ◌∷◌}
use Rattle.fs_kinds.specs.declared.placement.Entry.{Entry}
use Rattle.fs_kinds.specs.Placement.{with_kind}
use Rattle.fs_sites.specs.Questions.{kind_of}
use Rattle.fs_sites.specs.declared.question.Place.{Place}

-- the fence of the place's site, put into the test's fences
abbrev pub put_at : List Entry → Place → List Entry → List Entry
put_at p place fences = with_kind place.slot (kind_of place.site p) fences

abbrev pub put_all : List Entry → List Place → List Entry → List Entry
put_all p [] fences = fences
put_all p (place ∷ places) fences = put_all p places (put_at p place fences)
