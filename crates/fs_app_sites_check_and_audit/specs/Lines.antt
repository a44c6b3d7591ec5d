-- What is advised of the FENCEs of each site, in lines.
use Rattle.std.specs.Prelude.{ℕ, ◌==◌, Bool, true, false, ◌&&◌, nat_le, Option, None, Some, List, [], ◌∷◌, ◌++◌, fold, length, if◌then◌else◌}
use Rattle.std.specs.List.{flat_map, list_all, list_any, range_with_len}
use Rattle.fs_kinds.specs.declared.kind.Kind.{Kind as Fence}
use Rattle.fs_kinds.specs.declared.placement.Entry.{Entry}
use Rattle.fs_kinds.specs.Kind.{all_kinds}
use Rattle.fs_sites.specs.Questions.{kind_of}
use Rattle.fs_app_test.specs.declared.said.Kind.{Kind}
use Rattle.fs_app_test.specs.declared.said.Kind.TheVariants as verdict
use Rattle.fs_app_audit.specs.Advice.{changes_nothing, graded}
use Rattle.fs_app_audit.specs.declared.advice.Advice.{Advice}
use Rattle.fs_app_audit.specs.declared.advice.Advice.TheVariants.{NotNeeded, Missing}
use Rattle.fs_app_sites_check_and_audit.specs.declared.lines.Line.{Line}
use Rattle.fs_app_sites_check_and_audit.specs.declared.marks.Mark.{Mark}
use Rattle.fs_app_sites_check_and_audit.specs.declared.marks.Row.{Row}
use Rattle.fs_app_sites_check_and_audit.specs.Marks.{is_same_fence, own_fence}

-- ---- what is advised

-- What is written is what is advised, where copies agree, each outcome is forbidden, and nothing that rules all
-- outcomes out costs less.
abbrev pub is_kept : Kind → (written : Option ℕ) → (cheapest : ℕ) → Bool
is_kept verdict.Forbidden (Some written) cheapest = nat_le written cheapest
is_kept _ _ _ = false

-- the fence that the site of this number is to have: what is written, or that of the answer
abbrev pub advised : (kept : Bool) → List Mark → List Entry → (site : ℕ) → Option Fence
advised true marks p site = own_fence marks site
advised false marks p site = kind_of site p

-- of copies that have the second fence, where their site is to have the first
abbrev pub advice_for : (wanted own : Option Fence) → Option Advice
advice_for None None = None
advice_for None (Some own) = Some NotNeeded
advice_for (Some kind) None = Some (Missing kind)
advice_for (Some kind) (Some own) = Some (graded kind (Some own))

-- ---- which copies have a fence

abbrev pub is_same_row : Row → Row → Bool
is_same_row row other = row.file == other.file && row.line == other.line

-- the rows with this one, if it is new
abbrev pub with_row : List Row → Row → List Row
with_row rows row = if list_any (is_same_row row) rows then rows else rows ++ row ∷ []

-- with that of a copy which is of the site and has the fence
abbrev pub with_mark : (site : ℕ) → Option Fence → List Row → Mark → List Row
with_mark site own rows mark = if mark.site == site && is_same_fence mark.fence own then with_row rows mark.row else rows

-- in which rows copies of the site have the fence, each row once
abbrev pub rows_of : List Mark → (site : ℕ) → Option Fence → List Row
rows_of marks site own = fold (with_mark site own) [] marks

-- ---- lines

-- where there is something to say, and some copy has the fence
abbrev pub told : (site : ℕ) → Option Fence → Option Advice → List Row → List Line
told site own None rows = []
told site own (Some advice) rows =
    if length rows == 0 then [] else record { site = site; fence = own; advice = advice; rows = rows } ∷ []

-- of the copies of the site that have this fence
abbrev pub fence_line : List Mark → (site : ℕ) → (wanted own : Option Fence) → List Line
fence_line marks site wanted own = told site own (advice_for wanted own) (rows_of marks site own)

-- of a site that is to have this fence: of copies without a fence first, then by kind
abbrev pub site_lines : List Mark → (site : ℕ) → (wanted : Option Fence) → List Line
site_lines marks site wanted =
    fence_line marks site wanted None ++ flat_map (λ kind. fence_line marks site wanted (Some kind)) all_kinds

-- of so many sites
abbrev pub lines_of : (sites : ℕ) → List Mark → (wanted : ℕ → Option Fence) → List Line
lines_of sites marks wanted = flat_map (λ site. site_lines marks site (wanted site)) (range_with_len 0 sites)

-- there is nothing to change
abbrev pub are_content : List Line → Bool
are_content = list_all (λ line. changes_nothing line.advice)
