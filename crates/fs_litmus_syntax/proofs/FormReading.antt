-- The sections in order.
use Rattle.std.proofs.Common.{◌≡◌, ℕ, ◌+◌, List, [], ◌∷◌, refl}
use Rattle.fs_litmus_tokens.specs.declared.word.Class.TheVariants as class
use Rattle.fs_litmus_tokens.specs.declared.token.Mark.TheVariants.{Semicolon}
use Rattle.fs_litmus_tokens.specs.declared.token.Token.{Token}
use Rattle.fs_litmus_tokens.specs.declared.values.Stop.{Stop}
use Rattle.fs_litmus_tokens.specs.declared.values.Stop.TheVariants.{Memory, At}
use Rattle.fs_litmus_tokens.specs.Tokens.{Lined, Word, Sign, views}
use Rattle.fs_litmus_tokens.specs.Sections.{Takes, Stops, IsAlive}
use Rattle.fs_litmus_syntax.specs.Reading.{IsEnd, Refuses}
use Rattle.fs_litmus_syntax.specs.declared.rows.Quantifier.TheVariants.{Exists}
use Rattle.fs_litmus_syntax.specs.Init.{Entry, IsInit}
use Rattle.fs_litmus_syntax.specs.Header.{column_word, IsHeader, last}
use Rattle.fs_litmus_syntax.specs.Body.{Body, IsBody, ending, bare, exists}
use Rattle.fs_litmus_syntax.specs.Form.{Form, IsForm, form}
use Rattle.fs_litmus_syntax.proofs.FormAnswering.{takes_as, stops_as, end_of_end}
use Rattle.fs_litmus_syntax.proofs.Joining.{Both, takes_both, stops_one, stops_two}

abbrev Lower : List Lined → ℕ × Body → List Lined → Type 0
Lower = Both IsHeader IsBody

abbrev Whole : List Lined → List Entry × (ℕ × Body) → List Lined → Type 0
Whole = Both IsInit (λ es. Lower)

abbrev joined : List Entry × (ℕ × Body) → Form
joined x = record { entries = x.0; columns = x.1.0; rows = x.1.1.rows; quantifier = x.1.1.quantifier }

abbrev parts : Form → List Entry × (ℕ × Body)
parts f = (f.entries, (f.columns, record { rows = f.rows; quantifier = f.quantifier }))

there : (ts : List Lined) (x : List Entry × (ℕ × Body)) (m : List Lined) → Whole ts x m → IsForm ts (joined x) m
there ts x m h = form h.1 h.2.1 h.2.2

here : (ts : List Lined) (f : Form) (m : List Lined) → IsForm ts f m → Whole ts (parts f) m × (joined (parts f) ≡ f)
here ts f m (form {header = header} {body = body} x y z) = ((header, x, (body, y, z)), refl)

body_alive : (n : ℕ) → IsAlive (IsBody n) []
body_alive n = ((Word class.ExistsWord [], 0) ∷ [], record { rows = []; quantifier = Exists }, λ q. ending (bare exists))

lower_alive : IsAlive Lower []
lower_alive = (
  (Word class.Name (column_word 0), 0) ∷ (Sign Semicolon, 0) ∷ (Word class.ExistsWord [], 0) ∷ [],
  (0 + 1, record { rows = []; quantifier = Exists }),
  λ q. ((Word class.ExistsWord [], 0) ∷ q, last refl, ending (bare exists)),
)

pub takes_form : (ts header body rest : List Lined) (es : List Entry) (n : ℕ) (c : Body) → Takes IsInit ts es header → Takes IsHeader header n body → Takes (IsBody n) body c rest → Takes IsForm ts (record { entries = es; columns = n; rows = c.rows; quantifier = c.quantifier }) rest
takes_form ts header body rest es n c h k l =
    let lower = takes_both IsHeader IsBody header body rest n c k l in
    takes_as Whole IsForm joined parts there here ts rest (es, (n, c)) (takes_both IsInit (λ x. Lower) ts header rest es (n, c) h lower)

init_stops : (ts rest : List Lined) → Stops IsInit ts rest → Stops IsForm ts rest
init_stops ts rest h =
    stops_as Whole IsForm joined parts there here ts rest (stops_one IsInit (λ x. Lower) ts rest (λ es. lower_alive) h)

header_stops : (ts header rest : List Lined) (es : List Entry) → Takes IsInit ts es header → Stops IsHeader header rest → Stops IsForm ts rest
header_stops ts header rest es h k =
    stops_as Whole IsForm joined parts there here ts rest (stops_two IsInit (λ x. Lower) ts header rest es h (stops_one IsHeader IsBody header rest body_alive k))

body_stops : (ts header body rest : List Lined) (es : List Entry) (n : ℕ) → Takes IsInit ts es header → Takes IsHeader header n body → Stops (IsBody n) body rest → Stops IsForm ts rest
body_stops ts header body rest es n h k l =
    stops_as Whole IsForm joined parts there here ts rest (stops_two IsInit (λ x. Lower) ts header rest es h (stops_two IsHeader IsBody header body rest n k l))

-- ---- what the reader answers

pub init_refuses : (ts : List Token) (e : Stop) → Refuses IsInit ts e → Refuses IsForm ts e
init_refuses ts Memory h = tt
init_refuses ts (At rest) h = record { stops = init_stops (views ts) (views rest.now) h.stops; is_end = h.is_end }

pub header_refuses : (ts header : List Token) (es : List Entry) → Takes IsInit (views ts) es (views header) → IsEnd ts header → (e : Stop) → Refuses IsHeader header e → Refuses IsForm ts e
header_refuses ts header es h end Memory k = tt
header_refuses ts header es h end (At rest) k =
    record { stops = header_stops (views ts) (views header) (views rest.now) es h k.stops; is_end = end_of_end ts header rest.now end k.is_end }

pub body_refuses : (ts header body : List Token) (es : List Entry) (n : ℕ) → Takes IsInit (views ts) es (views header) → Takes IsHeader (views header) n (views body) → IsEnd ts body → (e : Stop) → Refuses (IsBody n) body e → Refuses IsForm ts e
body_refuses ts header body es n h k end Memory l = tt
body_refuses ts header body es n h k end (At rest) l =
    record { stops = body_stops (views ts) (views header) (views body) (views rest.now) es n h k l.stops; is_end = end_of_end ts body rest.now end l.is_end }
