-- Steps and histories of a search board.
use Rattle.std.proofs.Common.{◌↔◌, ℕ, Some, List, [], ◌∷◌}
use Rattle.std.specs.Prelude.{All}
use Rattle.std.specs.List.{AllZip}
use Rattle.fs_kinds.specs.declared.kind.Kind.TheVariants.{RwRw}
use Rattle.fs_kinds.specs.declared.placement.Entry.{Entry}
use Rattle.fs_kinds.specs.Placement.{all_with}
use Rattle.fs_kinds.specs.PriceTable.{PriceTable}
use Rattle.fs_model.specs.Slots.{slots}
use Rattle.fs_model.specs.declared.test.Test.{Test}
use Rattle.fs_model.specs.Test.{IsSame}
use Rattle.fs_model.specs.Allows.{Allows}
use Rattle.fs_model.specs.Execution.{Execution}
use Rattle.fs_model.specs.Witness.{Witness}
use Rattle.fs_cert_evidence.specs.Shown.{ShowsAs, IsShownBy}
use Rattle.fs_cert_evidence.specs.Sizes.{IsNodeLimit}
use Rattle.fs_board_offers.specs.Offers.{Offers}
use Rattle.fs_board_offers.specs.Parts.{floor, filled}
use Rattle.fs_board_offers.specs.Board.{Board, Event, Reply, CutWitness, CutBound, Post, Closed, Cheaper, NotCovered, opening}
use Rattle.fs_board_offers.specs.Histories.{LogEntry, Steps, Lead, IsHistory}
use Rattle.fs_app_guarantees.proofs.Kept.{with_condition_of, Keeps, back, carried, each, pairwise}
use Rattle.fs_app_guarantees.proofs.KeptPlacements.{allows, shows_as, shown_by}

all_shown : (p : List Entry) (ws : List Witness) → Keeps (λ t. All (IsShownBy t p) ws)
all_shown p ws u v e = each (IsShownBy u p) (IsShownBy (with_condition_of v u) p) (λ w. shown_by p w u v e) ws

shown_as : (p : List Entry) (ws : List Witness) (es : List Execution) → Keeps (λ t. AllZip (ShowsAs t p) ws es)
shown_as p ws es u v e = pairwise (ShowsAs u p) (ShowsAs (with_condition_of v u) p) (λ w x. shows_as p w x u v e) ws es

module _ (offers : Offers) where
  steps : (old : Board) (worker : ℕ) (event : Event) (reply : Reply) (new : Board) → Keeps (λ t. Steps t offers old worker event reply new)
  steps old worker (CutWitness k w) NotCovered new u v e h =
      (h.0, h.1, λ x. h.2 (back (λ t. IsShownBy t (filled h.0) w) (shown_by (filled h.0) w) u v e x), h.3)
  steps old worker (CutWitness k w) Closed new u v e h = (h.0, h.1, shown_by (filled h.0) w u v e h.2, h.3)
  steps old worker (CutBound k ws) NotCovered new u v e h =
      (h.0, h.1, λ x. h.2 (back (λ t. All (IsShownBy t (floor h.0)) ws) (all_shown (floor h.0) ws) u v e x), h.3)
  steps old worker (CutBound k ws) Cheaper new u v e h =
      (h.0, h.1, (h.2.0, shown_as (floor h.0) ws h.2.0 u v e h.2.1, h.2.2), h.3)
  steps old worker (CutBound k ws) Closed new u v e h =
      (h.0, h.1, (h.2.0, shown_as (floor h.0) ws h.2.0 u v e h.2.1, h.2.2), h.3)
  steps old worker (Post k p) Closed new u v e h =
      (h.0, h.1, h.2, λ x. h.3 (back (λ t. Allows t p) (allows p) u v e x), h.4)
  steps old worker event reply new u v e h = h

  lead : (entries : List LogEntry) (old new : Board) → Keeps (λ t. Lead t offers old entries new)
  lead [] old new u v e h = h
  lead (entry ∷ entries) old new u v e h =
      (h.0, steps old entry.worker entry.event entry.reply h.0 u v e h.1, lead entries h.0 new u v e h.2)

  history : (limit : ℕ) (log : List LogEntry) (board : Board) → Keeps (λ t. IsHistory t offers limit log board)
  history limit log board u v e h = lead log (opening offers limit) board u v e h

node_limit : (prices : PriceTable) (limit : ℕ) → Keeps (λ t. IsNodeLimit t prices limit)
node_limit prices limit u v e h =
    record {
      needed = allows _ u v e h.needed;
      enough =
          λ x. h.enough
          (back (λ t. Allows t (all_with (Some RwRw) (slots u))) (allows (all_with (Some RwRw) (slots u))) u v e x);
      large = h.large;
    }

pub steps_same :
    (t u : Test) → IsSame t u → (offers : Offers) (old : Board) (worker : ℕ) (event : Event) (reply : Reply) (new : Board)
    → Steps t offers old worker event reply new ↔ Steps u offers old worker event reply new
steps_same t u s offers old worker event reply new =
    carried (λ x. Steps x offers old worker event reply new) (steps offers old worker event reply new) t u s

pub history_same :
    (t u : Test) → IsSame t u → (offers : Offers) (limit : ℕ) (log : List LogEntry) (board : Board)
    → IsHistory t offers limit log board ↔ IsHistory u offers limit log board
history_same t u s offers limit log board = carried (λ x. IsHistory x offers limit log board) (history offers limit log board) t u s

pub node_limit_same :
    (t u : Test) → IsSame t u → (prices : PriceTable) (limit : ℕ) → IsNodeLimit t prices limit ↔ IsNodeLimit u prices limit
node_limit_same t u s prices limit = carried (λ x. IsNodeLimit x prices limit) (node_limit prices limit) t u s
