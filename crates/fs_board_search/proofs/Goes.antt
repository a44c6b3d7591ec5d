-- How each event moves a search on, and how many nodes are done then.
use Rattle.std.proofs.Common.{◌≡◌, ℕ, zero, suc, ◌+◌, ◌<◌, ◌≤◌, Bool, true, false, ◌&&◌, not, Option, Some, None, List, [], ◌∷◌, ◌++◌, length, refl, sym, ap, subst, ◌∙◌, arith, append_assoc, append-nil}
use Rattle.std.specs.Prelude.{slice_get, slice_set, if◌then◌else◌, option_and_then}
use Rattle.std.proofs.lemmas.Bool.{false≢true}
use Rattle.fs_board_offers.specs.Parts.{Part}
use Rattle.fs_board_offers.specs.Board.{Board, Node, Status, Open, Held, Split, Costly, Witnessed, Bounded, Posted, Event, Reply, is_open, is_held, is_held_by, part_at}
use Rattle.fs_board_offers.specs.Histories.{IsHistory, HoldsNode}
use Rattle.fs_board_offers.proofs.Moves.{node_of, status-at}
use Rattle.fs_board_offers.proofs.Leaves.{history-parts}
use Rattle.fs_board_offers.proofs.Growing.{history-within}
use Rattle.fs_board.specs.Counts.{count_of}
use Rattle.fs_board.specs.View.{Search, Answers, entry_of}
use Rattle.fs_board.proofs.Telling.{limit-kept}
use Rattle.fs_board.proofs.Counts.{one, count_append, count_set, count_le}
use Rattle.fs_board_search.specs.Histories.{GoesOn}
use Rattle.fs_board_search.specs.inner.Steps.{is_done, done, MovesOn, Stays, IsTried, IsTaken}

-- ---- how a search goes on

pub goes-nowhere : (s : Search) → GoesOn s s
goes-nowhere s = record { question = refl; limit = refl; entries = []; log = sym (append-nil s.log) }

pub goes-further : (a b c : Search) → GoesOn a b → GoesOn b c → GoesOn a c
goes-further a b c g h = record {
  question = h.question ∙ g.question;
  limit = h.limit ∙ g.limit;
  entries = g.entries ++ h.entries;
  log = h.log ∙ (ap (λ l. l ++ h.entries) g.log ∙ append_assoc a.log g.entries h.entries);
}

pub goes-on : (old new : Search) (w : ℕ) (e : Event) (r : Reply) → Answers old new w e r → GoesOn old new
goes-on old new w e r a = record {
  question = ap (λ (s : Search). s.question) a.rest;
  limit = limit-kept old new w e r a;
  entries = entry_of w e r ∷ [];
  log = ap (λ (s : Search). s.log) a.rest;
}

pub moves-later : (a b c : Search) → Stays a b → MovesOn b c → MovesOn a c
moves-later a b c s m = record {
  goes = goes-further a b c s.goes m.goes;
  more = subst (λ (x : Board). done x < done c.board) s.board m.more;
}

pub stays-longer : (a b c : Search) → Stays a b → Stays b c → Stays a c
stays-longer a b c s m = record { goes = goes-further a b c s.goes m.goes; board = m.board ∙ s.board }

-- what is tried after something that changed nothing
pub tried-later : (a b c : Search) (closed : Bool) → Stays a b → IsTried b c closed → IsTried a c closed
tried-later a b c true s m = moves-later a b c s m
tried-later a b c false s m = stays-longer a b c s m

pub stays-there : (s : Search) → Stays s s
stays-there s = record { goes = goes-nowhere s; board = refl }

pub tried-goes : (a b : Search) (closed : Bool) → IsTried a b closed → GoesOn a b
tried-goes a b true m = m.goes
tried-goes a b false s = s.goes

-- ---- how many nodes are done

undone-open : (status : Status) → is_open status ≡ true → is_done status ≡ false
undone-open status is = ap (λ b. not b && not (is_held status)) is

undone-held : (status : Status) → is_held status ≡ true → is_done status ≡ false
undone-held status is = elim (is_open status) as (λ b. (not b && not (is_held status)) ≡ false) [
  | true ↦ refl
  | false ↦ ap not is
]

held-of : (w : ℕ) (status : Status) → is_held_by w status ≡ true → is_held status ≡ true
held-of w Open is = absurd (false≢true is)
held-of w (Held v) is = refl
held-of w (Split slot first) is = absurd (false≢true is)
held-of w Costly is = absurd (false≢true is)
held-of w (Witnessed j) is = absurd (false≢true is)
held-of w (Bounded first count) is = absurd (false≢true is)
held-of w Posted is = absurd (false≢true is)

undone-by : (w : ℕ) (status : Status) → is_held_by w status ≡ true → is_done status ≡ false
undone-by w status is = undone-held status (held-of w status is)

set-done : (ns : List Node) (k : ℕ) (part : Part) (x y : Status) → slice_get ns k ≡ Some (node_of part x) → is_done x ≡ false
    → count_of is_done (slice_set ns k (node_of part y)) ≡ count_of is_done ns + one (is_done y)
set-done ns k part x y at undone =
    let all = count_set is_done ns k (node_of part x) (node_of part y) at in
    let none : one (is_done x) ≡ 0 = ap one undone in
    omega arith

-- the node is handed out: as many are done, and the worker holds it
pub record IsHandedOut (old new : Search) (k : ℕ) (part : Part) : Type 0 where
  pub goes : GoesOn old new
  pub done : done old.board ≡ done new.board
  pub holds : HoldsNode new.board 0 k part

get-set : (ns : List Node) (k : ℕ) (x y : Node) → slice_get ns k ≡ Some x → slice_get (slice_set ns k y) k ≡ Some y
get-set [] k x y at = absurd (cc)
get-set (n ∷ ns) zero x y at = refl
get-set (n ∷ ns) (suc k) x y at = get-set ns k x y at

abbrev pub held-part : Node → Option Part
held-part n = if is_held_by 0 n.status then Some n.part else None

pub handed : (old new : Search) (test : Status → Bool) (k : ℕ) (part : Part) → ((status : Status) → test status ≡ true → is_done status ≡ false)
    → GoesOn old new → part_at test old.board k ≡ Some part → new.board.nodes ≡ slice_set old.board.nodes k (node_of part (Held 0))
    → IsHandedOut old new k part
handed old new test k part undone goes found nodes =
    let has = status-at test old.board k part found in
    let same = set-done old.board.nodes k part has.status (Held 0) has.at (undone has.status has.passes) in
    let there : slice_get new.board.nodes k ≡ Some (node_of part (Held 0)) =
    ap (λ ns. slice_get ns k) nodes ∙ get-set old.board.nodes k (node_of part has.status) (node_of part (Held 0)) has.at in
    record {
      goes = goes;
      done = let all : done new.board ≡ count_of is_done (slice_set old.board.nodes k (node_of part (Held 0))) = ap (count_of is_done) nodes in omega arith;
      holds = ap (option_and_then held-part) there;
    }

pub handed-open : (old new : Search) (k : ℕ) (part : Part) → GoesOn old new → part_at is_open old.board k ≡ Some part
    → new.board.nodes ≡ slice_set old.board.nodes k (node_of part (Held 0)) → IsHandedOut old new k part
handed-open old new k part = handed old new is_open k part undone-open

pub handed-held : (old new : Search) (k : ℕ) (part : Part) → GoesOn old new → part_at is_held old.board k ≡ Some part
    → new.board.nodes ≡ slice_set old.board.nodes k (node_of part (Held 0)) → IsHandedOut old new k part
handed-held old new k part = handed old new is_held k part undone-held

-- a node that is held is done now, and perhaps some were added
pub done-more : (old new : Search) (w k : ℕ) (part : Part) (y : Status) (added : List Node) → GoesOn old new → HoldsNode old.board w k part
    → is_done y ≡ true → new.board.nodes ≡ slice_set old.board.nodes k (node_of part y) ++ added → MovesOn old new
done-more old new w k part y added goes found is nodes =
    let has = status-at (is_held_by w) old.board k part found in
    let set = set-done old.board.nodes k part has.status y has.at (undone-by w has.status has.passes) in
    let sum = count_append is_done (slice_set old.board.nodes k (node_of part y)) added in
    let all : done new.board ≡ count_of is_done (slice_set old.board.nodes k (node_of part y) ++ added) = ap (count_of is_done) nodes in
    let more : one (is_done y) ≡ 1 = ap one is in
    record { goes = goes; more = omega arith }

pub done-now : (old new : Search) (w k : ℕ) (part : Part) (y : Status) → GoesOn old new → HoldsNode old.board w k part
    → is_done y ≡ true → new.board.nodes ≡ slice_set old.board.nodes k (node_of part y) → MovesOn old new
done-now old new w k part y goes found is nodes =
    done-more old new w k part y [] goes found is (nodes ∙ sym (append-nil (slice_set old.board.nodes k (node_of part y))))

-- ---- a node that is taken

count-less : (p : Status → Bool) (ns : List Node) (k : ℕ) (n : Node) → slice_get ns k ≡ Some n → p n.status ≡ false → count_of p ns < length ns
count-less p [] k n at fails = absurd (cc)
count-less p (x ∷ xs) zero n at fails =
    let same : one (p x.status) ≡ 0 = ap one (ap (λ (m : Node). p m.status) (let e : x ≡ n = cc in e) ∙ fails) in
    let rest = count_le p xs in
    omega arith
count-less p (x ∷ xs) (suc k) n at fails =
    let rest = count-less p xs k n at fails in
    let first : one (p x.status) ≤ 1 = elim (p x.status) as (λ b. one b ≤ 1) [ true ↦ omega arith | false ↦ omega arith ] in
    omega arith

pub taken-node : (s : Search) (k : ℕ) (part : Part) → HoldsNode s.board 0 k part
    → IsHistory s.question.test s.question.offers s.board.limit s.log s.board → IsTaken s k part
taken-node s k part found history =
    let has = status-at (is_held_by 0) s.board k part found in
    let parts = history-parts s.question.test s.question.offers s.board.limit s.log s.board history k (node_of part has.status) has.at in
    let less = count-less is_done s.board.nodes k (node_of part has.status) has.at (undone-by 0 has.status has.passes) in
    let within = history-within s.question.offers s.question.test s.board.limit s.log s.board history in
    let nodes = within.nodes in
    record { holds = found; slots = parts.slots; room = omega arith }

pub goes-same : (a b : Search) → b ≡ a → GoesOn a b
goes-same a b same = subst (GoesOn a) (sym same) (goes-nowhere a)
