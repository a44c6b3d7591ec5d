-- What is so of a test whose FENCEs order no memory.
use Rattle.std.proofs.Common.{◌≡◌, ℕ, Bool, None, Some, List, sym, subst}
use Rattle.fs_kinds.specs.declared.kind.Kind.{Kind}
use Rattle.fs_kinds.specs.declared.placement.Entry.{Entry}
use Rattle.fs_kinds.specs.Placement.{kind_at, with_kind}
use Rattle.fs_model.specs.declared.test.Test.{Test}
use Rattle.fs_model.specs.Allows.{Allows, no_fences}
use Rattle.fs_model.specs.Test.{IsSame}
use Rattle.fs_kinds.specs.declared.slot.Slot.{Slot}
use Rattle.fs_model_laws.specs.InPlace.{IsFollowed, as_written, emptied, followed}
use Rattle.fs_model_laws.proofs.FollowedLines.{is_followed}
use Rattle.fs_app_audit.proofs.Weaker.{keeps_no_more}
use Rattle.fs_model_laws.proofs.EmptiedExecutions.{followed_ruled_out, same_allowed_in_place}
use Rattle.fs_model_laws.proofs.FencedSame.{shows_same}
use Rattle.fs_kinds.specs.PriceTable.{PriceTable, IsPriceTable}
use Rattle.fs_board_offers.specs.Offers.{Offers, IsPlacement}
use Rattle.fs_app_audit.specs.InPlace.{offers_in_place}
use Rattle.fs_app_audit.proofs.Needed.{each-needed}
use Rattle.fs_app_audit.proofs.Offered.{written_placement}
use Rattle.fs_app_io.specs.declared.status.Status.{Status}
use Rattle.fs_app_audit.specs.Audit.{IsInPlace}

-- where the parts of a condition lie changes nothing
allowed_alike : (t u : Test) (p : List Entry) → IsSame t u → Allows t p → Allows u p
allowed_alike t u p same h = (h.0, (shows_same t u p h.0 same).0 h.1)

allowed_back : (t u : Test) (p : List Entry) → IsSame t u → Allows u p → Allows t p
allowed_back t u p same h = (h.0, (shows_same t u p h.0 same).1 h.1)

-- the FENCEs as they are written rule the outcome out
pub written_forbids : (empty t : Test) → IsSame empty (emptied t) → (Allows t (no_fences t) → ⊥) → Allows empty (as_written t) → ⊥
written_forbids empty t same forbidden possible =
    forbidden ((same_allowed_in_place t).0 (allowed_alike empty (emptied t) (as_written t) same possible))

pub some_in_place : (empty t : Test) (prices : PriceTable) (os : Offers) → IsPriceTable prices → os ≡ offers_in_place prices t.codes
    → IsSame empty (emptied t) → (Allows t (no_fences t) → ⊥) → (p : List Entry) × IsPlacement os p × (Allows empty p → ⊥)
some_in_place empty t prices os table is same forbidden = (
  as_written t,
  subst (λ o. IsPlacement o (as_written t)) (sym is) (written_placement prices table t),
  written_forbids empty t same forbidden,
)

-- and so do those of which each orders as much as what is advised
pub ruled_out : (test prices text : List ℕ) (status : Status) (in_place : IsInPlace test prices text status) (u : Test)
    → IsFollowed in_place.findings.test in_place.advised u → Allows u (no_fences u) → ⊥
ruled_out test prices text status in_place u is =
    let t = in_place.findings.test in
    followed_ruled_out t u in_place.advised is
    (λ h. in_place.cheapest.forbids (allowed_back in_place.empty (emptied t) in_place.advised in_place.same h))

-- whichever lines are followed
pub lines_ruled_out : (test prices text : List ℕ) (status : Status) (in_place : IsInPlace test prices text status) (lines : Slot → Bool)
    → Allows (followed lines in_place.findings.test in_place.advised) (no_fences (followed lines in_place.findings.test in_place.advised)) → ⊥
lines_ruled_out test prices text status in_place lines =
    let f = in_place.findings in
    let weaker = keeps_no_more f.prices f.test in_place.advised in_place.cheapest.placement in
    ruled_out test prices text status in_place (followed lines f.test in_place.advised) (is_followed lines in_place.advised f.test weaker)

-- what stays is needed
pub needed : (test prices text : List ℕ) (status : Status) (in_place : IsInPlace test prices text status) (place : Slot) (kind : Kind)
    → kind_at place in_place.advised ≡ Some kind → Allows (emptied in_place.findings.test) (with_kind place None in_place.advised)
needed test prices text status in_place place kind at =
    let f = in_place.findings in
    allowed_alike in_place.empty (emptied f.test) (with_kind place None in_place.advised) in_place.same
    (each-needed in_place.empty (offers_in_place f.prices f.test.codes) in_place.advised place kind in_place.cheapest at)
