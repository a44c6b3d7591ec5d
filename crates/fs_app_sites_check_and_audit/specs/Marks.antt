-- The copies of all sites as they are written, and what they cost.
use Rattle.std.specs.Prelude.{ℕ, ◌+◌, ◌==◌, Bool, true, false, not, ◌&&◌, ◌||◌, Option, None, Some, is_none, option_and_then, unwrap_or}
use Rattle.std.specs.Prelude.{List, [], ◌∷◌, if◌then◌else◌}
use Rattle.std.specs.List.{enumerate_from, find, flat_map, list_all}
use Rattle.std.specs.Option.{option_or}
use Rattle.fs_kinds.specs.declared.kind.Kind.{Kind}
use Rattle.fs_kinds.specs.Kind.{all_kinds, no_stronger, table_index}
use Rattle.fs_board_offers.specs.Breaks.{least_of}
use Rattle.fs_board_offers.specs.Offers.{Offer, Offers, price_of}
use Rattle.fs_sites.specs.declared.question.Place.{Place}
use Rattle.fs_app_sites.specs.Sites.{places_of}
use Rattle.fs_app_sites_check_and_audit.specs.declared.held.Written.{Written}
use Rattle.fs_app_sites_check_and_audit.specs.declared.marks.Mark.{Mark}
use Rattle.fs_app_sites_check_and_audit.specs.Copies.{Held}

-- ---- the copies

-- those of the file of this number, which has these places and these FENCEs in them
abbrev pub marked : (file : ℕ) → List Place → List Written → List Mark
marked file [] written = []
marked file (place ∷ places) [] = []
marked file (place ∷ places) (w ∷ written) =
    record { site = place.site; fence = w.fence; row = record { file = file; line = w.line } } ∷ marked file places written

-- those of a file, whose sites have some of these names
abbrev pub file_marks : (names : List (List ℕ)) → ℕ × Held → List Mark
file_marks names numbered = marked numbered.0 (places_of names numbered.1.asked.copies) numbered.1.written

-- those of all files, in the order of the files and then of their slots
abbrev pub marks_of : (names : List (List ℕ)) → List Held → List Mark
marks_of names held = flat_map (file_marks names) (enumerate_from 0 held)

-- ---- do copies agree?

abbrev pub is_same_fence : Option Kind → Option Kind → Bool
is_same_fence None None = true
is_same_fence (Some kind) (Some other) = table_index kind == table_index other
is_same_fence _ _ = false

-- what the first copy of the site has
abbrev pub own_fence : List Mark → (site : ℕ) → Option Kind
own_fence marks site = option_and_then (λ mark. mark.fence) (find (λ mark. mark.site == site) marks)

-- all copies of each site have the same FENCE, or all have none
abbrev pub agree : List Mark → Bool
agree marks = list_all (λ mark. is_same_fence mark.fence (own_fence marks mark.site)) marks

-- ---- what they cost

-- what the second kind costs at the site, where it orders all that the first one orders
abbrev pub price_above : Offer → (own above : Kind) → Option ℕ
price_above o own above = if no_stronger own above then price_of o above else None

-- what a FENCE costs at the site, once for all its copies; one without a price costs what the cheapest does that orders
-- all that it orders
abbrev pub fence_cost : Offer → Option Kind → ℕ
fence_cost o None = 0
fence_cost o (Some own) = unwrap_or (option_or (price_of o own) (least_of (price_above o own) all_kinds)) 0

-- what the FENCEs of the sites cost, of which the first has this number
abbrev pub cost_from : List Mark → (site : ℕ) → Offers → ℕ
cost_from marks site [] = 0
cost_from marks site (o ∷ offers) = fence_cost o (own_fence marks site) + cost_from marks (site + 1) offers

-- where copies agree
abbrev pub written_cost : List Mark → Offers → Option ℕ
written_cost marks offers = if agree marks then Some (cost_from marks 0 offers) else None

-- ---- does each of them cost something?

abbrev pub costs_there : Offer → Option Kind → Bool
costs_there o fence = is_none fence || not (fence_cost o fence == 0)

-- the FENCEs of the sites of which the first has this number
abbrev pub all_cost_from : List Mark → (site : ℕ) → Offers → Bool
all_cost_from marks site [] = true
all_cost_from marks site (o ∷ offers) = costs_there o (own_fence marks site) && all_cost_from marks (site + 1) offers

abbrev pub all_cost : List Mark → Offers → Bool
all_cost marks = all_cost_from marks 0
