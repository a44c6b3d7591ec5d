-- When the receipts of passes are entries of the log.
use Rattle.std.proofs.Common.{◌≡◌, ◌≢◌, ℕ, suc, ◌+◌, ◌-◌, ◌<◌, ◌≤◌, List, [], ◌∷◌, All, AllPairs, length, take, drop, get_or, sym, ap, subst, ◌∙◌, arith, drop-cons}
use Rattle.std.specs.Prelude.{sum_by}
use Rattle.std.proofs.lemmas.List.Elements.{All-cons, All-tail, All-take}
use Rattle.std.proofs.lemmas.List.Kept.{AllPairs-cons}
use Rattle.std.proofs.lemmas.Option.{slice_get_within}
use Rattle.fs_board_offers.specs.Histories.{LogEntry}
use Rattle.fs_board_offers.specs.Receipts.{Pass, Receipt, IsLogged, IsAgreed}
use Rattle.fs_pool.specs.Ends.{AreGiven, AreLogged, AllLogged}

-- ---- the receipts of one pass

logged : (log : List LogEntry) (w next : ℕ) (rs : List Receipt) → AreLogged log w next rs → All (IsLogged log w) rs
logged log w next [] h = λ k d within. absurd (omega arith)
logged log w next (r ∷ rs) h = All-cons (IsLogged log w) r rs h.1 (logged log w (r.number + 1) rs h.2)

after : (log : List LogEntry) (w next : ℕ) (rs : List Receipt) → AreLogged log w next rs → All (λ r. next ≤ r.number) rs
after log w next [] h = λ k d within. absurd (omega arith)
after log w next (r ∷ rs) h =
    All-cons (λ (x : Receipt). next ≤ x.number) r rs h.0
    (λ k d within. let x = after log w (r.number + 1) rs h.2 k d within in let low = h.0 in omega arith)

abbrev pub IsBelow : Receipt → Receipt → Type 0
IsBelow r other = r.number < other.number

rising : (log : List LogEntry) (w next : ℕ) (rs : List Receipt) → AreLogged log w next rs → AllPairs IsBelow rs
rising log w next [] h = λ i j d lt within. absurd (omega arith)
rising log w next (r ∷ rs) h =
    AllPairs-cons IsBelow r rs
    (λ k d within. let x = after log w (r.number + 1) rs h.2 k d within in omega arith)
    (rising log w (r.number + 1) rs h.2)

from-all : (log : List LogEntry) (w next : ℕ) (rs : List Receipt) → All (IsLogged log w) rs → AllPairs IsBelow rs
    → All (λ r. next ≤ r.number) rs → AreLogged log w next rs
from-all log w next [] all below low = tt
from-all log w next (r ∷ rs) all below low = (
  low 0 r (omega arith),
  all 0 r (omega arith),
  from-all log w (r.number + 1) rs
      (All-tail (IsLogged log w) r rs all)
      (λ i j d lt within. below (suc i) (suc j) d (omega arith) (omega arith))
      (λ k d within. let x = below 0 (suc k) d (omega arith) (omega arith) in omega arith),
)

-- one receipt more
here : (rs : List Receipt) (i : ℕ) (r : Receipt) → i < length rs → r ≡ get_or rs i r → drop i rs ≡ r ∷ drop (suc i) rs
here rs i r within is = drop-cons rs i r within ∙ ap (λ x. x ∷ drop (suc i) rs) (sym is)

pub goes_on : (log : List LogEntry) (w next : ℕ) (rs : List Receipt) (i : ℕ) (r : Receipt) → i < length rs → r ≡ get_or rs i r
    → next ≤ r.number → IsLogged log w r
    → AreLogged log w (r.number + 1) (drop (i + 1) rs) → AreLogged log w next (drop i rs)
goes_on log w next rs i r within is low entry rest =
    let same : i + 1 ≡ suc i = omega arith in
    subst (AreLogged log w next) (sym (here rs i r within is))
    (low, entry, subst (λ n. AreLogged log w (r.number + 1) (drop n rs)) same rest)

pub went_on : (log : List LogEntry) (w next : ℕ) (rs : List Receipt) (i : ℕ) (r : Receipt) → i < length rs → r ≡ get_or rs i r
    → AreLogged log w next (drop i rs)
    → (next ≤ r.number) × IsLogged log w r × AreLogged log w (r.number + 1) (drop (i + 1) rs)
went_on log w next rs i r within is h =
    let same : suc i ≡ i + 1 = omega arith in
    let parts = subst (AreLogged log w next) (here rs i r within is) h in
    (parts.0, parts.1, subst (λ n. AreLogged log w (r.number + 1) (drop n rs)) same parts.2)

-- what is in the log has a number below its length
pub logged_within : (log : List LogEntry) (w : ℕ) (r : Receipt) → IsLogged log w r → r.number < length log
logged_within log w r is = slice_get_within log r.number _ is

-- ---- the receipts of all passes

abbrev pub HasLogged : List LogEntry → Pass → Type 0
HasLogged log pass = All (IsLogged log pass.worker) pass.receipts

abbrev pub HasRising : Pass → Type 0
HasRising pass = AllPairs IsBelow pass.receipts

all-logged : (log : List LogEntry) (ps : List Pass) → AllLogged log ps → All (HasLogged log) ps
all-logged log [] h = λ k d within. absurd (omega arith)
all-logged log (p ∷ ps) h = All-cons (HasLogged log) p ps (logged log p.worker 0 p.receipts h.0) (all-logged log ps h.1)

all-rising : (log : List LogEntry) (ps : List Pass) → AllLogged log ps → All HasRising ps
all-rising log [] h = λ k d within. absurd (omega arith)
all-rising log (p ∷ ps) h = All-cons HasRising p ps (rising log p.worker 0 p.receipts h.0) (all-rising log ps h.1)

from-both : (log : List LogEntry) (ps : List Pass) → All (HasLogged log) ps → All HasRising ps → AllLogged log ps
from-both log [] all below = tt
from-both log (p ∷ ps) all below = (
  from-all log p.worker 0 p.receipts (all 0 p (omega arith)) (below 0 p (omega arith)) (λ k d within. omega arith),
  from-both log ps (All-tail (HasLogged log) p ps all) (All-tail HasRising p ps below),
)

pub agreed : (workers : ℕ) (log : List LogEntry) (ps : List Pass) → AreGiven workers ps → AllLogged log ps
    → sum_by (λ pass. length pass.receipts) ps ≡ length log → IsAgreed ps log
agreed workers log ps given all count = record {
  workers = given.apart;
  logged = all-logged log ps all;
  rising = all-rising log ps all;
  count = count;
}

pub agreed_logged : (log : List LogEntry) (ps : List Pass) → IsAgreed ps log → AllLogged log ps
agreed_logged log ps h = from-both log ps h.logged h.rising

-- ---- one pass more

abbrev pub IsOther : ℕ → Pass → Type 0
IsOther worker other = worker ≢ other.worker

pub new_none : (worker : ℕ) → All (IsOther worker) []
new_none worker = λ k d within. absurd (omega arith)

pub new_more : (worker : ℕ) (p : Pass) (ps : List Pass) → worker ≢ p.worker → All (IsOther worker) ps → All (IsOther worker) (p ∷ ps)
new_more worker p ps = All-cons (IsOther worker) p ps

pub new_head : (worker : ℕ) (p : Pass) (ps : List Pass) → All (IsOther worker) (p ∷ ps) → worker ≢ p.worker
new_head worker p ps h = h 0 p (omega arith)

pub new_tail : (worker : ℕ) (p : Pass) (ps : List Pass) → All (IsOther worker) (p ∷ ps) → All (IsOther worker) ps
new_tail worker p ps h = All-tail (IsOther worker) p ps h

abbrev pub IsBelowWorkers : ℕ → Pass → Type 0
IsBelowWorkers workers pass = pass.worker < workers

pub below_none : (workers : ℕ) → All (IsBelowWorkers workers) []
below_none workers = λ k d within. absurd (omega arith)

pub below_more : (workers : ℕ) (p : Pass) (ps : List Pass) → p.worker < workers → All (IsBelowWorkers workers) ps → All (IsBelowWorkers workers) (p ∷ ps)
below_more workers p ps = All-cons (IsBelowWorkers workers) p ps

pub below_head : (workers : ℕ) (p : Pass) (ps : List Pass) → All (IsBelowWorkers workers) (p ∷ ps) → p.worker < workers
below_head workers p ps h = h 0 p (omega arith)

pub below_tail : (workers : ℕ) (p : Pass) (ps : List Pass) → All (IsBelowWorkers workers) (p ∷ ps) → All (IsBelowWorkers workers) ps
below_tail workers p ps h = All-tail (IsBelowWorkers workers) p ps h

abbrev pub AreOthers : Pass → Pass → Type 0
AreOthers pass other = pass.worker ≢ other.worker

pub apart_none : AllPairs AreOthers []
apart_none = λ i j d lt within. absurd (omega arith)

pub apart_more : (p : Pass) (ps : List Pass) → All (IsOther p.worker) ps → AllPairs AreOthers ps → AllPairs AreOthers (p ∷ ps)
apart_more p ps = AllPairs-cons AreOthers p ps

pub apart_head : (p : Pass) (ps : List Pass) (worker : ℕ) → worker ≡ p.worker → AllPairs AreOthers (p ∷ ps) → All (IsOther worker) ps
apart_head p ps worker same h = λ k d within. subst (λ w. w ≢ (get_or ps k d).worker) (sym same) (h 0 (suc k) d (omega arith) (omega arith))

apart-drop : (ps : List Pass) (p : Pass) (w : ℕ) → 1 ≤ length ps → p ≡ get_or ps 0 p → w ≡ p.worker → AllPairs AreOthers ps → All (IsOther w) (drop 1 ps)
apart-drop [] p w some is same h = absurd (omega arith)
apart-drop (x ∷ xs) p w some is same h = λ k d within.
    subst (λ v. v ≢ (get_or xs k d).worker) (sym (same ∙ ap (λ (q : Pass). q.worker) is)) (h 0 (suc k) d (omega arith) (omega arith))

-- the rest of a slice is given by its length
pub apart_rest : (ps : List Pass) (p : Pass) (w : ℕ) → 1 ≤ length ps → p ≡ get_or ps 0 p → w ≡ p.worker → AllPairs AreOthers ps
    → All (IsOther w) (take (length ps - 1) (drop 1 ps))
apart_rest ps p w some is same h = All-take (IsOther w) (length ps - 1) (drop 1 ps) (apart-drop ps p w some is same h)

pub apart_tail : (p : Pass) (ps : List Pass) → AllPairs AreOthers (p ∷ ps) → AllPairs AreOthers ps
apart_tail p ps h = λ i j d lt within. h (suc i) (suc j) d (omega arith) (omega arith)
