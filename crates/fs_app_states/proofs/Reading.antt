-- Reading a log from line to line.
use Rattle.std.proofs.Common.{rules, refl, sym, ap, subst, ◌∙◌, ◌≡◌, ◌<◌, ◌≤◌, ◌+◌, ◌-◌, zero, suc, length, ℕ, Bool, true, false, Result, Ok, Err, IfErr, Option, Some, None, option_map, option_and_then, slice_get, List, [], ◌∷◌, ◌++◌, map, arith, append_assoc}
use Rattle.std.proofs.lemmas.List.{map-append, length-map, length-append, append-nil}
use Rattle.std.specs.Result.{IsErrAnd}
use Rattle.std.specs.Str.{trim}
use Rattle.fs_app_states.specs.declared.error.Expected.{Expected}
use Rattle.fs_app_states.specs.declared.error.Expected.TheVariants as expected
use Rattle.fs_app_states.specs.declared.error.LogError.{LogError}
use Rattle.fs_app_states.specs.declared.error.LogError.TheVariants as error
use Rattle.fs_app_states.specs.declared.log.Block.{Block}
use Rattle.fs_app_states.specs.declared.log.Seen.{Seen}
use Rattle.fs_app_states.specs.Blocks.{ReadBlock, ReadState, begins_block, block_at, block_of, count_at, demand, line_at, missing, outcome_at, onto, onward, read_block, read_state, state_at, state_of, states_at, states_from, title_at, IsReadFrom, ends, skips, fails, reads}
use Rattle.std.specs.Str.Lines.{lines}
use Rattle.fs_app_states.specs.Errors.{IsLogError, IsLogText}
use Rattle.fs_app_states.specs.inner.Reading.{prepend, AreFirst, IsBlocksError, IsErrorOf, IsLinesError, IsReadBefore}

behind_none : {X : Type 0} (read : Result (List X) LogError) → read ≡ prepend [] read
behind_none (Ok xs) = refl
behind_none (Err e) = refl

slice_some : (texts : List (List ℕ)) (k : ℕ) → (slice_get texts k ≡ None → ⊥) → k < length texts
slice_some [] k h = absurd (h refl)
slice_some (x ∷ xs) zero h = omega arith
slice_some (x ∷ xs) (suc k) h = let low = slice_some xs k h in omega arith

missed : {X : Type 0} (texts : List (List ℕ)) (k : ℕ) (what : Expected) (f : List ℕ → Option X) (line : Option (List ℕ)) (x : X) → line ≡ None
    → demand texts k what (option_and_then f (option_map trim line)) ≡ Ok x → ⊥
missed texts k what f None x e is = absurd (cc)
missed texts k what f (Some line) x e is = absurd (cc)

-- what is found stands in a line
pub found_within : {X : Type 0} (texts : List (List ℕ)) (k : ℕ) (what : Expected) (f : List ℕ → Option X) (x : X)
    → demand texts k what (option_and_then f (line_at texts k)) ≡ Ok x → k < length texts
found_within texts k what f x is = slice_some texts k (λ none. missed texts k what f (slice_get texts k) x none is)

pub state_within : (texts : List (List ℕ)) (counted : Bool) (k : ℕ) (state : ReadState) → state_at texts counted k ≡ Ok state → k < length texts
state_within texts counted k state is = found_within texts k expected.State (state_of (k + 1) counted) state is

-- what `?` hands on
pub if_err : {X E : Type 0} (r : Result X E) (e : E) (P : E → Type 0) → IsErrAnd r (λ f. f ≡ e) → P e → IfErr r P
if_err (Ok x) e P h p = tt
if_err (Err f) e P h p = subst P (sym h) p

-- ---- states

with_state : (states : List ReadState) (state : ReadState) (found : Result ReadState LogError) (more : Result (List ReadState) LogError)
    → found ≡ Ok state
    → prepend states (onward (λ state. onward (λ states. Ok (state ∷ states)) more) found) ≡ prepend (states ++ state ∷ []) more
with_state states state (Ok x) (Ok more) e = grind (arith, append_assoc)
with_state states state (Ok x) (Err f) e = refl
with_state states state (Err f) more e = absurd (cc)

pub begun : (texts : List (List ℕ)) (counted : Bool) (k count : ℕ) → AreFirst texts counted k count []
begun texts counted k count =
    let same : k + 0 ≡ k = omega arith in
    let all : count - 0 ≡ count = omega arith in
    rw (same, all) (behind_none (states_from texts counted k count))

one_of : (texts : List (List ℕ)) (counted : Bool) (at left : ℕ) (states : List ReadState) (state : ReadState) → 0 < left
    → state_at texts counted at ≡ Ok state
    → prepend states (states_from texts counted at left) ≡ prepend (states ++ state ∷ []) (states_from texts counted (at + 1) (left - 1))
one_of texts counted at zero states state low e = absurd (omega arith)
one_of texts counted at (suc left) states state low e =
    let less : suc left - 1 ≡ left = omega arith in
    rw less (with_state states state (state_at texts counted at) (states_from texts counted (at + 1) left) e)

-- one state more
pub further : (texts : List (List ℕ)) (counted : Bool) (k count : ℕ) (states next : List Seen) (seen : Seen) → length states < count
    → state_at texts counted (k + length states) ≡ Ok (read_state seen) → next ≡ states ++ seen ∷ []
    → AreFirst texts counted k count (map read_state states) → AreFirst texts counted k count (map read_state next)
further texts counted k count states next seen low e is_next before =
    let as_many : length (map read_state states) ≡ length states = length-map states read_state in
    let one = one_of texts counted (k + length states) (count - length states) (map read_state states) (read_state seen) (omega arith) e in
    let read : map read_state next ≡ map read_state states ++ read_state seen ∷ [] = ap (map read_state) is_next ∙ map-append read_state states (seen ∷ []) in
    let more : length (map read_state next) ≡ length states + 1 = length-map next read_state ∙ ap length is_next ∙ length-append states (seen ∷ []) in
    let at : k + length states + 1 ≡ k + (length states + 1) = omega arith in
    let left : count - length states - 1 ≡ count - (length states + 1) = omega arith in
    rw (more, sym at, sym left, read) ((rw as_many at before) ∙ one)

failed : (states : List ReadState) (found : Result ReadState LogError) (more : Result (List ReadState) LogError) (e : LogError)
    → found ≡ Err e → prepend states (onward (λ state. onward (λ states. Ok (state ∷ states)) more) found) ≡ Err e
failed states (Ok x) more e is = absurd (cc)
failed states (Err f) more e is = ap Err (cc)

error_of : (texts : List (List ℕ)) (counted : Bool) (at left : ℕ) (states : List ReadState) (e : LogError) → 0 < left
    → state_at texts counted at ≡ Err e → prepend states (states_from texts counted at left) ≡ Err e
error_of texts counted at zero states e low is = absurd (omega arith)
error_of texts counted at (suc left) states e low is = failed states (state_at texts counted at) (states_from texts counted (at + 1) left) e is

-- the same error, of what is read before
pub handed : {X Y : Type 0} (a : Result X LogError) (b : Result Y LogError) (e : LogError) → IsErrorOf a e → ((f : LogError) → a ≡ Err f → b ≡ Err f)
    → IsErrorOf b e
handed a b error.TooLong is on = on error.TooLong is
handed a b error.NotUtf8 is on = on error.NotUtf8 is
handed a b error.NoBlock is on = on error.NoBlock is
handed a b (error.Line line what) is on = on (error.Line line what) is
handed a b (error.Fault fault) is on = is

-- no state where one should be
pub stopped : (texts : List (List ℕ)) (counted : Bool) (k count : ℕ) (states : List Seen) (e : LogError) → length states < count
    → IsErrorOf (state_at texts counted (k + length states)) e → AreFirst texts counted k count (map read_state states)
    → IsErrorOf (states_from texts counted k count) e
stopped texts counted k count states e low wrong before =
    let as_many : length (map read_state states) ≡ length states = length-map states read_state in
    handed (state_at texts counted (k + length states)) (states_from texts counted k count) e wrong
    (λ f is. (rw as_many at before) ∙ error_of texts counted (k + length states) (count - length states) (map read_state states) f (omega arith) is)

-- all of them
pub done : (texts : List (List ℕ)) (counted : Bool) (k count : ℕ) (states : List Seen) → length states ≡ count
    → AreFirst texts counted k count (map read_state states) → states_from texts counted k count ≡ Ok (map read_state states)
done texts counted k count states all before =
    let as_many : length (map read_state states) ≡ count = length-map states read_state ∙ all in
    let none : count - count ≡ 0 = omega arith in
    let last : prepend (map read_state states) (states_from texts counted (k + count) 0) ≡ Ok (map read_state states) = ap Ok (append-nil (map read_state states)) in
    (rw (as_many, none) at before) ∙ last

-- ---- errors of a block

-- it is of a line
abbrev pub IsOfLine : LogError → Type 0
IsOfLine (error.Line line what) = Unit {0}
IsOfLine e = ⊥

abbrev pub ErrsInLines : {X : Type 0} → Result X LogError → Type 0
ErrsInLines r = (e : LogError) → r ≡ Err e → IsOfLine e

demand_line : {X : Type 0} (texts : List (List ℕ)) (k : ℕ) (what : Expected) (found : Option X) → ErrsInLines (demand texts k what found)
demand_line texts k what (Some x) e is = absurd (cc)
demand_line texts k what None e is = let same : missing (length texts) k what ≡ e = cc in subst IsOfLine same tt

onward_line : {X Y : Type 0} (f : X → Result Y LogError) (r : Result X LogError) → ErrsInLines r → ((x : X) → ErrsInLines (f x)) → ErrsInLines (onward f r)
onward_line f (Ok x) h g e is = g x e is
onward_line f (Err d) h g e is = let same : d ≡ e = cc in h e (ap Err same)

ok_line : {X : Type 0} (x : X) → ErrsInLines (Ok x)
ok_line x e is = absurd (cc)

states_line : (texts : List (List ℕ)) (counted : Bool) (k count : ℕ) → ErrsInLines (states_from texts counted k count)
states_line texts counted k zero = ok_line []
states_line texts counted k (suc count) =
    onward_line _ (state_at texts counted k) (demand_line texts k expected.State _)
    (λ state. onward_line _ (states_from texts counted (k + 1) count) (states_line texts counted (k + 1) count) (λ states. ok_line (state ∷ states)))

of_line : (texts : List (List ℕ)) (k : ℕ) (name : List ℕ) (states : List ReadState) → ErrsInLines (block_of texts k name states)
of_line texts k name states = onward_line _ (outcome_at texts (k + length states)) (demand_line texts _ expected.Outcome _) (λ line. ok_line _)

block_line : (texts : List (List ℕ)) (k : ℕ) → ErrsInLines (block_at texts k)
block_line texts k =
    onward_line _ (title_at texts k) (demand_line texts k expected.Title _)
    (λ name. onward_line _ (count_at texts (k + 1)) (demand_line texts (k + 1) expected.Count _)
    (λ count. onward_line _ (states_at texts (k + 2) count) (states_line texts count.counted (k + 2) count.states) (of_line texts (k + 2) name)))

-- ---- blocks

behind_blocks : (before : List ReadBlock) (block : ReadBlock) (read : Result (List ReadBlock) LogError)
    → prepend before (onto block read) ≡ prepend (before ++ block ∷ []) read
behind_blocks before block (Ok log) = grind (arith, append_assoc)
behind_blocks before block (Err e) = refl

pub nothing_before : (texts : List (List ℕ)) → IsReadBefore texts 0 []
nothing_before texts read is = subst (IsReadFrom texts 0) (behind_none read) is

pub skipped : (texts : List (List ℕ)) (k : ℕ) (blocks : List ReadBlock) → k < length texts → begins_block texts k ≡ false
    → IsReadBefore texts k blocks → IsReadBefore texts (k + 1) blocks
skipped texts k blocks low none before read is = before read (skips low none is)

pub one_block : (texts : List (List ℕ)) (k : ℕ) (blocks : List ReadBlock) (block : ReadBlock) → k < length texts → begins_block texts k ≡ true
    → block_at texts k ≡ Ok block → IsReadBefore texts k blocks → IsReadBefore texts (k + 3 + length block.states) (blocks ++ block ∷ [])
one_block texts k blocks block low begins e before read is =
    subst (IsReadFrom texts 0) (behind_blocks blocks block read) (before (onto block read) (reads block low begins e is))

pub bad_block : (texts : List (List ℕ)) (k : ℕ) (blocks : List ReadBlock) (e : LogError) → k < length texts → begins_block texts k ≡ true
    → IsErrorOf (block_at texts k) e → IsReadBefore texts k blocks → IsBlocksError texts e
bad_block texts k blocks error.TooLong low begins is before = block_line texts k error.TooLong is
bad_block texts k blocks error.NotUtf8 low begins is before = block_line texts k error.NotUtf8 is
bad_block texts k blocks error.NoBlock low begins is before = block_line texts k error.NoBlock is
bad_block texts k blocks (error.Line line what) low begins is before = before _ (fails low begins is)
bad_block texts k blocks (error.Fault fault) low begins is before = is

pub read_all : (texts : List (List ℕ)) (k : ℕ) (blocks : List ReadBlock) → length texts ≤ k → IsReadBefore texts k blocks
    → IsReadFrom texts 0 (Ok blocks)
read_all texts k blocks high before = subst (λ log. IsReadFrom texts 0 (Ok log)) (append-nil blocks) (before (Ok []) (ends high))

pub lines_error : (texts : List (List ℕ)) (e : LogError) → IsBlocksError texts e → IsLinesError texts e
lines_error texts error.TooLong is = is
lines_error texts error.NotUtf8 is = is
lines_error texts error.NoBlock is = absurd is
lines_error texts (error.Line line what) is = is
lines_error texts (error.Fault fault) is = is

log_error : (bytes : List ℕ) (e : LogError) → IsLogText bytes → IsLinesError (lines bytes) e → IsLogError bytes e
log_error bytes error.TooLong text is = absurd is
log_error bytes error.NotUtf8 text is = absurd is
log_error bytes error.NoBlock text is = (text, is)
log_error bytes (error.Line line what) text is = (text, is)
log_error bytes (error.Fault fault) text is = is

-- what is read of a text is read of its bytes
pub of_text : {X : Type 0} (bytes text : List ℕ) (r : Result X LogError) → IsLogText bytes → bytes ≡ text → IfErr r (IsLinesError (lines text))
    → IfErr r (IsLogError bytes)
of_text bytes text (Ok x) is_text same is = tt
of_text bytes text (Err e) is_text same is = log_error bytes e is_text (rw same is)
