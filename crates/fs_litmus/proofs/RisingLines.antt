-- The lines of tokens rise, and so do those of entries.
use Rattle.std.proofs.Common.{ℕ, zero, suc, ◌+◌, ◌-◌, ◌≤◌, List, [], ◌∷◌, Bool, true, false, ◌&&◌, ◌==◌, cond, Option, Some, None, subst, arith}
use Rattle.fs_litmus_tokens.specs.declared.token.Mark.{Mark}
use Rattle.fs_litmus_tokens.specs.Bytes.{is_letter, is_blank, closing, comment_from, comment_end, begins, tail}
use Rattle.fs_litmus_tokens.specs.Tokens.{Lined, Front, Skip, Take, Unclosed, after_comment, single, mark_of, piece, AreTokens, none as no_tokens, skip, token, unclosed}
use Rattle.fs_litmus_tokens.specs.Values.{Target, Value, IsTarget, register, location, bracketed, IsValue, number, minus, address}
use Rattle.fs_litmus_syntax.specs.Init.{Entry, IsInitial, direct, reference, IsBare, bare, alone, IsEntry, untyped, typed, pointer, IsEntries, none, entry, IsEntryEnd, brace, semicolon, IsInit, block}
use Rattle.fs_litmus_syntax.specs.Form.{Form, IsForm, form}
use Rattle.fs_litmus.specs.Rising.{Rising, token_lines, entry_lines}

pub lower : (low n : ℕ) (ns : List ℕ) → low ≤ n → Rising n ns → Rising low ns
lower low n [] h r = tt
lower low n (m ∷ ns) h r = let first = r.0 in (omega (arith, h, first), r.1)

-- ---- tokens

-- what is skipped goes to no earlier line
abbrev GoesOn : ℕ → Front → Type 0
GoesOn line (Skip rest next) = line ≤ next
GoesOn line (Take t rest) = Unit {0}
GoesOn line Unclosed = Unit {0}

abbrev EndsOn : ℕ → Option (List ℕ × ℕ) → Type 0
EndsOn line None = Unit {0}
EndsOn line (Some x) = line ≤ x.1

ends_later : (line next : ℕ) (o : Option (List ℕ × ℕ)) → line ≤ next → EndsOn next o → EndsOn line o
ends_later line next None h e = tt
ends_later line next (Some x) h e = omega (arith, h, e)

one_line : (line : ℕ) (b : Bool) → line ≤ cond b (line + 1) line
one_line line true = omega arith
one_line line false = omega arith

closing_later : (inner line : ℕ) (rest : List ℕ) (o : Option (List ℕ × ℕ)) → EndsOn line o → EndsOn line (closing inner rest line o)
closing_later zero line rest o e = omega arith
closing_later (suc inner) line rest o e = e

one_of : (line : ℕ) (here opens : Bool) (x y z : Option (List ℕ × ℕ)) → EndsOn line x → EndsOn line y → EndsOn line z → EndsOn line (cond here x (cond opens y z))
one_of line true opens x y z e f g = e
one_of line false true x y z e f g = f
one_of line false false x y z e f g = g

comment_later : (inner : ℕ) (second : Bool) (bs : List ℕ) (line : ℕ) → EndsOn line (comment_from inner second bs line)
comment_later inner second [] line = tt
comment_later inner true (b ∷ bs) line = comment_later inner false bs line
comment_later inner false (b ∷ bs) line =
    let next = cond (b == 10) (line + 1) line in
    one_of line (b == 42 && begins 41 bs) (b == 40 && begins 42 bs) _ _ _
    (closing_later inner line (tail bs) _ (comment_later (inner - 1) true bs line))
    (comment_later (inner + 1) true bs line)
    (ends_later line next _ (one_line line (b == 10)) (comment_later inner false bs next))

after_later : (line : ℕ) (o : Option (List ℕ × ℕ)) → EndsOn line o → GoesOn line (after_comment o)
after_later line None h = tt
after_later line (Some (rest, next)) h = h

one_later : (line : ℕ) (m : Option Mark) (bs : List ℕ) → GoesOn line (single m bs)
one_later line None bs = tt
one_later line (Some m) bs = tt

either : (line : ℕ) (b : Bool) (x y : Front) → GoesOn line x → GoesOn line y → GoesOn line (cond b x y)
either line true x y h k = h
either line false x y h k = k

piece_later : (b : ℕ) (bs : List ℕ) (line : ℕ) → GoesOn line (piece b bs line)
piece_later b bs line =
    let further : line ≤ line + 1 = omega arith in
    let same : line ≤ line = omega arith in
    either line (b == 10) _ _ further (
    either line (is_blank b) _ _ same (
    either line (is_letter b) _ _ tt (
    either line (b == 47 && begins 92 bs) _ _ tt (
    either line (b == 92 && begins 47 bs) _ _ tt (
    either line (b == 40 && begins 42 bs) _ _ (after_later line (comment_end (tail bs) line) (comment_later 0 false (tail bs) line)) (one_later line (mark_of b) bs))))))

pub tokens_rise : {bs : List ℕ} {line : ℕ} {ts : List Lined} {closed : Bool} → AreTokens bs line ts closed → Rising line (token_lines ts)
tokens_rise no_tokens = tt
tokens_rise (skip {b = b} {line = line} {next = next} {bs = bs} {ts = ts} e h) = lower line next (token_lines ts) (subst (λ f. GoesOn line f) e (piece_later b bs line)) (tokens_rise h)
tokens_rise (token {line = line} e h) = let same : line ≤ line = omega arith in (same, tokens_rise h)
tokens_rise (unclosed e) = tt

-- ---- entries

after_one : (low : ℕ) (n : ℕ) (ns : List ℕ) → Rising low (n ∷ ns) → Rising low ns
after_one low n ns h = lower low n ns h.0 h.1

after_two : (low a b : ℕ) (ns : List ℕ) → Rising low (a ∷ b ∷ ns) → Rising low ns
after_two low a b ns h = after_one low b ns (after_one low a (b ∷ ns) h)

after_three : (low a b c : ℕ) (ns : List ℕ) → Rising low (a ∷ b ∷ c ∷ ns) → Rising low ns
after_three low a b c ns h = after_one low c ns (after_two low a b (c ∷ ns) h)

after_target : {ts rest : List Lined} {x : Target} (low : ℕ) → IsTarget ts x rest → Rising low (token_lines ts) → Rising low (token_lines rest)
after_target low (register {k = k} {l = l} {m = m} {rest = rest}) h = after_three low k l m (token_lines rest) h
after_target low (location {k = k} {rest = rest} p) h = after_one low k (token_lines rest) h
after_target low (bracketed {k = k} {l = l} {m = m} {rest = rest} p) h = after_three low k l m (token_lines rest) h

after_value : {ts rest : List Lined} {x : Value} (low : ℕ) → IsValue ts x rest → Rising low (token_lines ts) → Rising low (token_lines rest)
after_value low (number {k = k} {rest = rest}) h = after_one low k (token_lines rest) h
after_value low (minus {k = k} {l = l} {rest = rest}) h = after_two low k l (token_lines rest) h
after_value low (address {k = k} {rest = rest} p) h = after_one low k (token_lines rest) h

after_initial : {ts rest : List Lined} {x : Value} (low : ℕ) → IsInitial ts x rest → Rising low (token_lines ts) → Rising low (token_lines rest)
after_initial low (direct v) h = after_value low v h
after_initial low (reference {j = j} {k = k} {rest = rest} p) h = after_two low j k (token_lines rest) h

after_bare : {ts rest : List Lined} {e : Entry} (low : ℕ) → IsBare ts e rest → Rising low (token_lines ts) → (low ≤ e.line) × Rising e.line (token_lines rest)
after_bare low (bare {line = line} {k = k} {mid = mid} x v) h =
    let same : line ≤ line = omega arith in
    (h.0, after_initial line v (after_one line k (token_lines mid) (after_target line x (same, h.1))))
after_bare low (alone {line = line} x) h = let same : line ≤ line = omega arith in (h.0, after_target line x (same, h.1))

after_entry : {ts rest : List Lined} {e : Entry} (low : ℕ) → IsEntry ts e rest → Rising low (token_lines ts) → (low ≤ e.line) × Rising e.line (token_lines rest)
after_entry low (untyped b) h = after_bare low b h
after_entry low (typed {k = k} {ts = ts} p e) h = after_entry low e (after_one low k (token_lines ts) h)
after_entry low (pointer {j = j} {k = k} {ts = ts} p e) h = after_entry low e (after_two low j k (token_lines ts) h)

mutual
  entries_rise : {ts rest : List Lined} {es : List Entry} (low : ℕ) → IsEntries ts es rest → Rising low (token_lines ts) → Rising low (entry_lines es)
  entries_rise low none h = tt
  entries_rise low (entry {e = e} x y) h =
      let k = after_entry low x h in
      (k.0, ends_rise e.line y k.1)

  ends_rise : {ts rest : List Lined} {es : List Entry} (low : ℕ) → IsEntryEnd ts es rest → Rising low (token_lines ts) → Rising low (entry_lines es)
  ends_rise low brace h = tt
  ends_rise low (semicolon {k = k} {ts = ts} x) h = entries_rise low x (after_one low k (token_lines ts) h)

pub init_rises : {ts rest : List Lined} {es : List Entry} (low : ℕ) → IsInit ts es rest → Rising low (token_lines ts) → Rising low (entry_lines es)
init_rises low (block {k = k} {ts = ts} x) h = entries_rise low x (after_one low k (token_lines ts) h)

-- in a text the lines of the entries rise
pub form_rises : {bs : List ℕ} {line : ℕ} {ts rest : List Lined} {f : Form} {closed : Bool} → AreTokens bs line ts closed → IsForm ts f rest → Rising line (entry_lines f.entries)
form_rises {line = line} h (form x y z) = init_rises line x (tokens_rise h)
