-- What the tokens to come must be, in each state of the reader of initial values.
use Rattle.std.proofs.Common.{◌≡◌, ℕ, List, [], ◌∷◌, ◌++◌, true, false, refl, sym, ◌∙◌, append_assoc, append-nil}
use Rattle.fs_litmus_tokens.specs.declared.word.Class.{Class}
use Rattle.fs_litmus_tokens.specs.declared.word.Class.TheVariants as class
use Rattle.fs_litmus_tokens.specs.declared.token.Mark.TheVariants.{OpenBrace, CloseBrace, Semicolon, Colon, Equals, OpenBracket, CloseBracket, Minus, Star, Ampersand}
use Rattle.fs_litmus_tokens.specs.Words.{is_name}
use Rattle.fs_litmus_tokens.specs.Tokens.{Tok, Lined, Word, Sign}
use Rattle.fs_litmus_tokens.specs.Values.{Target, Register, Location, Value, Number, Address, IsTarget, register, location, bracketed, number, minus, address}
use Rattle.fs_litmus_tokens.specs.Sections.{Move, Go, Finish, Bad, scan, IsAlive, Scanned}
use Rattle.fs_litmus_tokens.proofs.Scans.{Follows, scanned}
use Rattle.fs_litmus_syntax.specs.Init.{Entry, unset, IsInitial, direct, reference, IsBare, bare, alone, IsEntry, untyped, typed, pointer, IsEntries, none, entry, IsEntryEnd, brace, semicolon, IsInit, block, Position, BeforeBrace, BeforeEntry, AfterStar, AfterName, AfterHart, AfterColon, AfterBracket, AfterBracketedName, AfterTarget, AfterEquals, AfterMinus, AfterAmpersand, AfterValue, State, at_entries, target_begun, next_in, next}

abbrev pub Tokens : Type 0
Tokens = List Lined

abbrev pub Entries : Type 0
Entries = List Entry

pub data HeadsEquals : Tokens → Tokens → Type 0 where
  head : {k : ℕ} {ts : Tokens} → HeadsEquals ((Sign Equals, k) ∷ ts) ts

pub record ThenBlock (es : Entries) (ts : Tokens) (a : Entries) (m : Tokens) : Type 0 where
  pub more : Entries
  pub is_block : IsInit ts more m
  pub all : a ≡ es ++ more

pub record ThenEntries (es : Entries) (ts : Tokens) (a : Entries) (m : Tokens) : Type 0 where
  pub more : Entries
  pub are_entries : IsEntries ts more m
  pub all : a ≡ es ++ more

pub record ThenEnd (es : Entries) (e : Entry) (ts : Tokens) (a : Entries) (m : Tokens) : Type 0 where
  pub more : Entries
  pub is_end : IsEntryEnd ts more m
  pub all : a ≡ es ++ e ∷ more

-- an entry, and what ends it
pub record ThenEntry (es : Entries) (ts : Tokens) (a : Entries) (m : Tokens) : Type 0 where
  pub found : Entry
  pub mid : Tokens
  pub is_entry : IsEntry ts found mid
  pub then : ThenEnd es found mid a m

pub record ThenValue (es : Entries) (line : ℕ) (x : Target) (ts : Tokens) (a : Entries) (m : Tokens) : Type 0 where
  pub value : Value
  pub mid : Tokens
  pub is_value : IsInitial ts value mid
  pub then : ThenEnd es (record { line = line; target = x; value = value }) mid a m

-- = and a value, or none
pub data ThenInitial (es : Entries) (line : ℕ) (x : Target) (ts : Tokens) (a : Entries) (m : Tokens) : Type 0 where
  given : {mid : Tokens} → HeadsEquals ts mid → ThenValue es line x mid a m → ThenInitial es line x ts a m
  left_out : ThenEnd es (unset line x) ts a m → ThenInitial es line x ts a m

-- the front was read
pub record ThenTarget (es : Entries) (line : ℕ) (front ts : Tokens) (a : Entries) (m : Tokens) : Type 0 where
  pub target : Target
  pub mid : Tokens
  pub is_target : IsTarget (front ++ ts) target mid
  pub then : ThenInitial es line target mid a m

-- where a word or a mark has been read, its line no longer matters, so that 0 stands for it; and a name may be of any
-- class of names
abbrev pub LeftIn : Position → Entries → Tokens → Entries → Tokens → Type 0
LeftIn BeforeBrace es ts a m = ThenBlock es ts a m
LeftIn BeforeEntry es ts a m = ThenEntries es ts a m
LeftIn AfterStar es ts a m = ThenEntry es ts a m
LeftIn (AfterName line w) es ts a m = ThenEntry es ((Word class.Name w, line) ∷ ts) a m
LeftIn (AfterHart line h) es ts a m = ThenTarget es line ((Word class.Number h, line) ∷ []) ts a m
LeftIn (AfterColon line h) es ts a m = ThenTarget es line ((Word class.Number h, line) ∷ (Sign Colon, 0) ∷ []) ts a m
LeftIn (AfterBracket line) es ts a m = ThenTarget es line ((Sign OpenBracket, line) ∷ []) ts a m
LeftIn (AfterBracketedName line w) es ts a m = ThenTarget es line ((Sign OpenBracket, line) ∷ (Word class.Name w, 0) ∷ []) ts a m
LeftIn (AfterTarget line x) es ts a m = ThenInitial es line x ts a m
LeftIn (AfterEquals line x) es ts a m = ThenValue es line x ts a m
LeftIn (AfterMinus line x) es ts a m = ThenValue es line x ((Sign Minus, 0) ∷ ts) a m
LeftIn (AfterAmpersand line x) es ts a m = ThenValue es line x ((Sign Ampersand, 0) ∷ ts) a m
LeftIn (AfterValue e) es ts a m = ThenEnd es e ts a m

abbrev pub Left : State → Tokens → Entries → Tokens → Type 0
Left s ts a m = LeftIn s.position s.entries ts a m

-- ---- lines and classes that don't matter

colon_any : {h : List ℕ} {line k j : ℕ} {ts m : Tokens} {x : Target} → IsTarget ((Word class.Number h, line) ∷ (Sign Colon, k) ∷ ts) x m → IsTarget ((Word class.Number h, line) ∷ (Sign Colon, j) ∷ ts) x m
colon_any register = register
colon_any (location p) = absurd (cc)

name_any : {w : List ℕ} {c d : Class} {line k j : ℕ} {ts m : Tokens} {x : Target} → is_name d ≡ true → IsTarget ((Sign OpenBracket, line) ∷ (Word c w, k) ∷ ts) x m → IsTarget ((Sign OpenBracket, line) ∷ (Word d w, j) ∷ ts) x m
name_any p (bracketed q) = bracketed p

minus_any : {k j : ℕ} {ts m : Tokens} {v : Value} → IsInitial ((Sign Minus, k) ∷ ts) v m → IsInitial ((Sign Minus, j) ∷ ts) v m
minus_any (direct minus) = direct minus

ampersand_any : {k j : ℕ} {ts m : Tokens} {v : Value} → IsInitial ((Sign Ampersand, k) ∷ ts) v m → IsInitial ((Sign Ampersand, j) ∷ ts) v m
ampersand_any (direct v) = elim v [ ]
ampersand_any (reference p) = reference p

entry_any : {w : List ℕ} {c d : Class} {k : ℕ} {ts m : Tokens} {e : Entry} → is_name c ≡ true → is_name d ≡ true → IsEntry ((Word c w, k) ∷ ts) e m → IsEntry ((Word d w, k) ∷ ts) e m
entry_any p q (untyped (bare (location r) v)) = untyped (bare (location q) v)
entry_any p q (untyped (bare register v)) = absurd (cc)
entry_any p q (untyped (alone (location r))) = untyped (alone (location q))
entry_any p q (untyped (alone register)) = absurd (cc)
entry_any p q (typed r e) = typed q e
entry_any p q (pointer r e) = pointer q e

-- ---- what can't stand at a position

abbrev BeginsTarget : Tok → Type 0
BeginsTarget (Word class.Other w) = ⊥
BeginsTarget (Word c w) = Unit {0}
BeginsTarget (Sign OpenBracket) = Unit {0}
BeginsTarget _ = ⊥

named : (c : Class) (w : List ℕ) → is_name c ≡ true → BeginsTarget (Word c w)
named class.Other w p = absurd (cc)
named _ w p = tt

target_first : {t : Tok} {k : ℕ} {ts m : Tokens} {x : Target} → IsTarget ((t, k) ∷ ts) x m → BeginsTarget t
target_first register = tt
target_first (location {w = w} {c = c} p) = named c w p
target_first (bracketed p) = tt

bare_first : {t : Tok} {k : ℕ} {ts m : Tokens} {x : Entry} → IsBare ((t, k) ∷ ts) x m → BeginsTarget t
bare_first (bare t v) = target_first t
bare_first (alone t) = target_first t

-- a type begins as a target does
entry_first : {t : Tok} {k : ℕ} {ts m : Tokens} {x : Entry} → IsEntry ((t, k) ∷ ts) x m → BeginsTarget t
entry_first (untyped b) = bare_first b
entry_first (typed {w = w} {c = c} p e) = named c w p
entry_first (pointer {w = w} {c = c} p e) = named c w p

abbrev BeginsEntries : Tok → Type 0
BeginsEntries (Sign CloseBrace) = Unit {0}
BeginsEntries t = BeginsTarget t

begins_more : (t : Tok) → BeginsTarget t → BeginsEntries t
begins_more (Sign CloseBrace) h = tt
begins_more _ h = h

entries_first : {t : Tok} {k : ℕ} {ts m : Tokens} {x : Entries} → IsEntries ((t, k) ∷ ts) x m → BeginsEntries t
entries_first none = tt
entries_first {t = t} (entry e x) = begins_more t (entry_first e)

abbrev EndsEntry : Tok → Type 0
EndsEntry (Sign CloseBrace) = Unit {0}
EndsEntry (Sign Semicolon) = Unit {0}
EndsEntry _ = ⊥

end_first : {t : Tok} {k : ℕ} {ts m : Tokens} {x : Entries} → IsEntryEnd ((t, k) ∷ ts) x m → EndsEntry t
end_first brace = tt
end_first (semicolon x) = tt

not_both : (t : Tok) → EndsEntry t → BeginsTarget t → ⊥
not_both (Sign CloseBrace) p q = q
not_both (Sign Semicolon) p q = q
not_both _ p q = p

abbrev MayFollowTarget : Tok → Type 0
MayFollowTarget (Sign Equals) = Unit {0}
MayFollowTarget t = EndsEntry t

end_may : (t : Tok) → EndsEntry t → MayFollowTarget t
end_may (Sign Equals) h = tt
end_may _ h = h

initial_first : {es a : Entries} {t : Tok} {line k : ℕ} {x : Target} {ts m : Tokens} → ThenInitial es line x ((t, k) ∷ ts) a m → MayFollowTarget t
initial_first (given head h) = tt
initial_first {t = t} (left_out h) = end_may t (end_first h.is_end)

abbrev MayFollowName : Tok → Type 0
MayFollowName (Sign Star) = Unit {0}
MayFollowName (Sign OpenBracket) = Unit {0}
MayFollowName (Word c w) = BeginsTarget (Word c w)
MayFollowName t = MayFollowTarget t

target_may : (t : Tok) → MayFollowTarget t → MayFollowName t
target_may (Sign Star) h = tt
target_may (Sign OpenBracket) h = tt
target_may (Word c w) h = absurd h
target_may _ h = h

begin_may : (t : Tok) → BeginsTarget t → MayFollowName t
begin_may (Sign OpenBracket) h = tt
begin_may (Word c w) h = h
begin_may _ h = absurd h

name_second : {es a : Entries} {t : Tok} {v : List ℕ} {e : Entry} {line k : ℕ} {ts mid m : Tokens} → IsEntry ((Word class.Name v, line) ∷ (t, k) ∷ ts) e mid → ThenEnd es e mid a m → MayFollowName t
name_second (untyped (bare (location p) v)) x = tt
name_second {t = t} (untyped (alone (location p))) x = target_may t (end_may t (end_first x.is_end))
name_second {t = t} (typed p e) x = begin_may t (entry_first e)
name_second (pointer p e) x = tt

abbrev IsColon : Tok → Type 0
IsColon (Sign Colon) = Unit {0}
IsColon _ = ⊥

abbrev IsWord : Tok → Type 0
IsWord (Word c w) = Unit {0}
IsWord _ = ⊥

abbrev IsNamed : Tok → Type 0
IsNamed (Word c w) = is_name c ≡ true
IsNamed _ = ⊥

abbrev IsCloseBracket : Tok → Type 0
IsCloseBracket (Sign CloseBracket) = Unit {0}
IsCloseBracket _ = ⊥

abbrev IsOpenBrace : Tok → Type 0
IsOpenBrace (Sign OpenBrace) = Unit {0}
IsOpenBrace _ = ⊥

abbrev IsNumber : Tok → Type 0
IsNumber (Word class.Number w) = Unit {0}
IsNumber _ = ⊥

abbrev BeginsValue : Tok → Type 0
BeginsValue (Word class.Other w) = ⊥
BeginsValue (Word c w) = Unit {0}
BeginsValue (Sign Minus) = Unit {0}
BeginsValue (Sign Ampersand) = Unit {0}
BeginsValue _ = ⊥

target_second : {t : Tok} {h : List ℕ} {j k : ℕ} {ts m : Tokens} {x : Target} → IsTarget ((Word class.Number h, j) ∷ (t, k) ∷ ts) x m → IsColon t
target_second register = tt
target_second (location p) = absurd (cc)

target_third : {t : Tok} {h : List ℕ} {i j k : ℕ} {ts m : Tokens} {x : Target} → IsTarget ((Word class.Number h, i) ∷ (Sign Colon, j) ∷ (t, k) ∷ ts) x m → IsWord t
target_third register = tt
target_third (location p) = absurd (cc)

bracket_second : {t : Tok} {j k : ℕ} {ts m : Tokens} {x : Target} → IsTarget ((Sign OpenBracket, j) ∷ (t, k) ∷ ts) x m → IsNamed t
bracket_second (bracketed p) = p

bracket_third : {t : Tok} {c : Class} {w : List ℕ} {i j k : ℕ} {ts m : Tokens} {x : Target} → IsTarget ((Sign OpenBracket, i) ∷ (Word c w, j) ∷ (t, k) ∷ ts) x m → IsCloseBracket t
bracket_third (bracketed p) = tt

valuing : (c : Class) (w : List ℕ) → is_name c ≡ true → BeginsValue (Word c w)
valuing class.Other w p = absurd (cc)
valuing _ w p = tt

value_first : {t : Tok} {k : ℕ} {ts m : Tokens} {x : Value} → IsInitial ((t, k) ∷ ts) x m → BeginsValue t
value_first (direct number) = tt
value_first (direct minus) = tt
value_first (direct (address {w = w} {c = c} p)) = valuing c w p
value_first (reference p) = tt

minus_second : {t : Tok} {j k : ℕ} {ts m : Tokens} {x : Value} → IsInitial ((Sign Minus, j) ∷ (t, k) ∷ ts) x m → IsNumber t
minus_second (direct minus) = tt

ampersand_second : {t : Tok} {j k : ℕ} {ts m : Tokens} {x : Value} → IsInitial ((Sign Ampersand, j) ∷ (t, k) ∷ ts) x m → IsNamed t
ampersand_second (direct v) = elim v [ ]
ampersand_second (reference p) = p

block_first : {t : Tok} {k : ℕ} {ts m : Tokens} {x : Entries} → IsInit ((t, k) ∷ ts) x m → IsOpenBrace t
block_first (block x) = tt

-- ---- how the grammar begins

block_to : {es a : Entries} {k : ℕ} {ts m : Tokens} {b : Entries} → IsInit ((Sign OpenBrace, k) ∷ ts) b m → a ≡ es ++ b → ThenEntries es ts a m
block_to (block x) e = record { more = _; are_entries = x; all = e }

word_to : {es a b : Entries} {c : Class} {w : List ℕ} {k : ℕ} {ts m : Tokens} → IsEntries ((Word c w, k) ∷ ts) b m → a ≡ es ++ b → ThenEntry es ((Word c w, k) ∷ ts) a m
word_to (entry y x) e = record { found = _; mid = _; is_entry = y; then = record { more = _; is_end = x; all = e } }

bracket_to : {es a b : Entries} {k : ℕ} {ts m : Tokens} → IsEntries ((Sign OpenBracket, k) ∷ ts) b m → a ≡ es ++ b → ThenEntry es ((Sign OpenBracket, k) ∷ ts) a m
bracket_to (entry y x) e = record { found = _; mid = _; is_entry = y; then = record { more = _; is_end = x; all = e } }

entries_from : {es a : Entries} {ts m : Tokens} → ThenEntry es ts a m → ThenEntries es ts a m
entries_from h = record { more = h.found ∷ h.then.more; are_entries = entry h.is_entry h.then.is_end; all = h.then.all }

bare_to : {es a : Entries} {t : Tok} {e : Entry} {line : ℕ} {ts mid m : Tokens} → IsBare ((t, line) ∷ ts) e mid → ThenEnd es e mid a m → ThenTarget es line ((t, line) ∷ []) ts a m
bare_to (bare t v) x = record { target = _; mid = _; is_target = t; then = given head (record { value = _; mid = _; is_value = v; then = x }) }
bare_to (alone t) x = record { target = _; mid = _; is_target = t; then = left_out x }

number_begun : {es a : Entries} {h : List ℕ} {e : Entry} {line : ℕ} {ts mid m : Tokens} → IsEntry ((Word class.Number h, line) ∷ ts) e mid → ThenEnd es e mid a m → ThenTarget es line ((Word class.Number h, line) ∷ []) ts a m
number_begun (untyped b) x = bare_to b x
number_begun (typed p e) x = absurd (cc)
number_begun (pointer p e) x = absurd (cc)

bracket_begun : {es a : Entries} {e : Entry} {line : ℕ} {ts mid m : Tokens} → IsEntry ((Sign OpenBracket, line) ∷ ts) e mid → ThenEnd es e mid a m → ThenTarget es line ((Sign OpenBracket, line) ∷ []) ts a m
bracket_begun (untyped b) x = bare_to b x

-- a type's name, and then the entry
typed_word : {es a : Entries} {v w : List ℕ} {c : Class} {e : Entry} {line k : ℕ} {ts mid m : Tokens} → IsEntry ((Word class.Name v, line) ∷ (Word c w, k) ∷ ts) e mid → ThenEnd es e mid a m → ThenEntry es ((Word c w, k) ∷ ts) a m
typed_word (untyped (bare t v)) x = elim t [ ]
typed_word (untyped (alone (location p))) x = absurd (end_first x.is_end)
typed_word (typed p e) x = record { found = _; mid = _; is_entry = e; then = x }

typed_bracket : {es a : Entries} {v : List ℕ} {e : Entry} {line k : ℕ} {ts mid m : Tokens} → IsEntry ((Word class.Name v, line) ∷ (Sign OpenBracket, k) ∷ ts) e mid → ThenEnd es e mid a m → ThenEntry es ((Sign OpenBracket, k) ∷ ts) a m
typed_bracket (untyped (bare t v)) x = elim t [ ]
typed_bracket (untyped (alone (location p))) x = absurd (end_first x.is_end)
typed_bracket (typed p e) x = record { found = _; mid = _; is_entry = e; then = x }

typed_star : {es a : Entries} {v : List ℕ} {e : Entry} {line k : ℕ} {ts mid m : Tokens} → IsEntry ((Word class.Name v, line) ∷ (Sign Star, k) ∷ ts) e mid → ThenEnd es e mid a m → ThenEntry es ts a m
typed_star (untyped (bare t v)) x = elim t [ ]
typed_star (untyped (alone (location p))) x = absurd (end_first x.is_end)
typed_star (typed p e) x = absurd (entry_first e)
typed_star (pointer p e) x = record { found = _; mid = _; is_entry = e; then = x }

typed_from : {es a : Entries} {v : List ℕ} {line : ℕ} {ts m : Tokens} → ThenEntry es ts a m → ThenEntry es ((Word class.Name v, line) ∷ ts) a m
typed_from h = record { found = h.found; mid = h.mid; is_entry = typed {c = class.Name} refl h.is_entry; then = h.then }

star_from : {es a : Entries} {v : List ℕ} {line k : ℕ} {ts m : Tokens} → ThenEntry es ts a m → ThenEntry es ((Word class.Name v, line) ∷ (Sign Star, k) ∷ ts) a m
star_from h = record { found = h.found; mid = h.mid; is_entry = pointer {c = class.Name} refl h.is_entry; then = h.then }

-- a name that is the target
name_equals : {es a : Entries} {v : List ℕ} {e : Entry} {line k : ℕ} {ts mid m : Tokens} → IsEntry ((Word class.Name v, line) ∷ (Sign Equals, k) ∷ ts) e mid → ThenEnd es e mid a m → ThenValue es line (Location v) ts a m
name_equals (untyped (bare (location p) v)) x = record { value = _; mid = _; is_value = v; then = x }
name_equals (untyped (alone (location p))) x = absurd (end_first x.is_end)
name_equals (typed p e) x = absurd (entry_first e)

name_ended : {es a : Entries} {t : Tok} {v : List ℕ} {e : Entry} {line k : ℕ} {ts mid m : Tokens} → EndsEntry t → IsEntry ((Word class.Name v, line) ∷ (t, k) ∷ ts) e mid → ThenEnd es e mid a m → ThenEnd es (unset line (Location v)) ((t, k) ∷ ts) a m
name_ended p (untyped (bare (location q) v)) x = absurd p
name_ended p (untyped (alone (location q))) x = x
name_ended {t = t} p (typed q e) x = absurd (not_both t p (entry_first e))
name_ended p (pointer q e) x = absurd p

name_alone : {es a : Entries} {v : List ℕ} {line : ℕ} {ts m : Tokens} → ThenEnd es (unset line (Location v)) ts a m → ThenEntry es ((Word class.Name v, line) ∷ ts) a m
name_alone h = record { found = _; mid = _; is_entry = untyped (alone (location {c = class.Name} refl)); then = h }

-- ---- and back: an entry of which the target is read

bare_from : {t : Tok} {line : ℕ} {x : Target} {v : Value} {ts mid y rest : Tokens} → IsTarget ((t, line) ∷ ts) x mid → HeadsEquals mid y → IsInitial y v rest → IsBare ((t, line) ∷ ts) (record { line = line; target = x; value = v }) rest
bare_from t head v = bare t v

target_from : {es a : Entries} {t : Tok} {line : ℕ} {x : Target} {ts mid m : Tokens} → IsTarget ((t, line) ∷ ts) x mid → ThenInitial es line x mid a m → ThenEntry es ((t, line) ∷ ts) a m
target_from t (given heads h) = record { found = _; mid = h.mid; is_entry = untyped (bare_from t heads h.is_value); then = h.then }
target_from t (left_out h) = record { found = _; mid = _; is_entry = untyped (alone t); then = h }

-- ---- each token

third_to : {es a : Entries} {h r : List ℕ} {c : Class} {line i j k : ℕ} {ts mid m : Tokens} {x : Target} → IsTarget ((Word class.Number h, i) ∷ (Sign Colon, j) ∷ (Word c r, k) ∷ ts) x mid → ThenInitial es line x mid a m → ThenInitial es line (Register h r) ts a m
third_to register h = h
third_to (location p) h = absurd (cc)

closed_to : {es a : Entries} {w : List ℕ} {c : Class} {line i j k : ℕ} {ts mid m : Tokens} {x : Target} → IsTarget ((Sign OpenBracket, i) ∷ (Word c w, j) ∷ (Sign CloseBracket, k) ∷ ts) x mid → ThenInitial es line x mid a m → ThenInitial es line (Location w) ts a m
closed_to (bracketed p) h = h

value_to : {es a : Entries} {line k : ℕ} {x : Target} {d : List ℕ} {v : Value} {ts mid m : Tokens} → IsInitial ((Word class.Number d, k) ∷ ts) v mid → ThenEnd es (record { line = line; target = x; value = v }) mid a m → ThenEnd es (record { line = line; target = x; value = Number false d }) ts a m
value_to (direct number) h = h
value_to (direct (address p)) h = absurd (cc)

minus_to : {es a : Entries} {line j k : ℕ} {x : Target} {d : List ℕ} {v : Value} {ts mid m : Tokens} → IsInitial ((Sign Minus, j) ∷ (Word class.Number d, k) ∷ ts) v mid → ThenEnd es (record { line = line; target = x; value = v }) mid a m → ThenEnd es (record { line = line; target = x; value = Number true d }) ts a m
minus_to (direct minus) h = h

address_to : {es a : Entries} {line k : ℕ} {x : Target} {c : Class} {w : List ℕ} {v : Value} {ts mid m : Tokens} → is_name c ≡ true → IsInitial ((Word c w, k) ∷ ts) v mid → ThenEnd es (record { line = line; target = x; value = v }) mid a m → ThenEnd es (record { line = line; target = x; value = Address w }) ts a m
address_to p (direct (address q)) h = h
address_to p (direct number) h = absurd (cc)

reference_to : {es a : Entries} {line j k : ℕ} {x : Target} {c : Class} {w : List ℕ} {v : Value} {ts mid m : Tokens} → IsInitial ((Sign Ampersand, j) ∷ (Word c w, k) ∷ ts) v mid → ThenEnd es (record { line = line; target = x; value = v }) mid a m → ThenEnd es (record { line = line; target = x; value = Address w }) ts a m
reference_to (direct v) h = elim v [ ]
reference_to (reference p) h = h

equals_to : {es a : Entries} {line k : ℕ} {x : Target} {ts m : Tokens} → ThenInitial es line x ((Sign Equals, k) ∷ ts) a m → ThenValue es line x ts a m
equals_to (given head h) = h
equals_to (left_out h) = absurd (end_first h.is_end)

unset_to : {es a : Entries} {t : Tok} {line k : ℕ} {x : Target} {ts m : Tokens} → EndsEntry t → ThenInitial es line x ((t, k) ∷ ts) a m → ThenEnd es (unset line x) ((t, k) ∷ ts) a m
unset_to p (given head h) = absurd p
unset_to p (left_out h) = h

semicolon_to : {a b : Entries} {k : ℕ} {ts m : Tokens} (es : Entries) (e : Entry) → IsEntryEnd ((Sign Semicolon, k) ∷ ts) b m → a ≡ es ++ e ∷ b → ThenEntries (es ++ e ∷ []) ts a m
semicolon_to {b = b} es e (semicolon x) s = record { more = _; are_entries = x; all = s ∙ sym (append_assoc es (e ∷ []) b) }

brace_to : {a b : Entries} {k : ℕ} {ts m : Tokens} (es : Entries) (e : Entry) → IsEntryEnd ((Sign CloseBrace, k) ∷ ts) b m → a ≡ es ++ e ∷ b → (a ≡ es ++ e ∷ []) × (m ≡ ts)
brace_to es e brace s = (s, refl)

none_to : {a b : Entries} {k : ℕ} {ts m : Tokens} (es : Entries) → IsEntries ((Sign CloseBrace, k) ∷ ts) b m → a ≡ es ++ b → (a ≡ es) × (m ≡ ts)
none_to es none s = (s ∙ append-nil es, refl)
none_to es (entry e x) s = absurd (entry_first e)

-- ---- each position

-- what must follow, said in another way
follows_same : (M N : Tokens → Entries → Tokens → Type 0) (move : Move State Entries) → ((ts : Tokens) (a : Entries) (m : Tokens) → N ts a m → M ts a m) → ((ts : Tokens) (a : Entries) (m : Tokens) → M ts a m → N ts a m) → Follows Left M move → Follows Left N move
follows_same M N (Go s) to from f = (λ ts a m h. f.0 ts a m (to ts a m h), λ ts a m h. from ts a m (f.1 ts a m h))
follows_same M N (Finish b) to from f = (λ ts a m h. f.0 ts a m (to ts a m h), λ ts. from ts b ts (f.1 ts))
follows_same M N Bad to from f = λ ts a m h. f ts a m (to ts a m h)

module _ (es : Entries) where
  follows_open : (t : Tok) (k : ℕ) → Follows Left (λ us. ThenBlock es ((t, k) ∷ us)) (next_in BeforeBrace es (t, k))
  follows_open (Sign OpenBrace) k = (λ ts a m h. block_to h.is_block h.all, λ ts a m h. record { more = h.more; is_block = block h.are_entries; all = h.all })
  follows_open _ k = λ ts a m h. block_first h.is_block

  -- the first token of an entry
  follows_begun : (t : Tok) (k : ℕ) → Follows Left (λ us. ThenEntry es ((t, k) ∷ us)) (at_entries es (target_begun (t, k)))
  follows_begun (Word class.Number h) k = (λ ts a m h. number_begun h.is_entry h.then, λ ts a m h. target_from h.is_target h.then)
  follows_begun (Word class.Other w) k = λ ts a m h. entry_first h.is_entry
  follows_begun (Word c w) k = (λ ts a m h. record { found = h.found; mid = h.mid; is_entry = entry_any {c = c} {d = class.Name} refl refl h.is_entry; then = h.then }, λ ts a m h. record { found = h.found; mid = h.mid; is_entry = entry_any {c = class.Name} {d = c} refl refl h.is_entry; then = h.then })
  follows_begun (Sign OpenBracket) k = (λ ts a m h. bracket_begun h.is_entry h.then, λ ts a m h. target_from h.is_target h.then)
  follows_begun _ k = λ ts a m h. entry_first h.is_entry

  follows_entry : (t : Tok) (k : ℕ) → Follows Left (λ us. ThenEntries es ((t, k) ∷ us)) (next_in BeforeEntry es (t, k))
  follows_entry (Sign CloseBrace) k = (λ ts a m h. none_to es h.are_entries h.all, λ ts. record { more = []; are_entries = none; all = sym (append-nil es) })
  follows_entry (Word c w) k = follows_same (λ us. ThenEntry es ((Word c w, k) ∷ us)) _ _ (λ ts a m h. word_to h.are_entries h.all) (λ ts a m h. entries_from h) (follows_begun (Word c w) k)
  follows_entry (Sign OpenBracket) k = follows_same (λ us. ThenEntry es ((Sign OpenBracket, k) ∷ us)) _ (at_entries es (target_begun (Sign OpenBracket, k))) (λ ts a m h. bracket_to h.are_entries h.all) (λ ts a m h. entries_from h) (follows_begun (Sign OpenBracket) k)
  follows_entry _ k = λ ts a m h. entries_first h.are_entries

  follows_hart : (line : ℕ) (n : List ℕ) (t : Tok) (k : ℕ) → Follows Left (λ us. LeftIn (AfterHart line n) es ((t, k) ∷ us)) (next_in (AfterHart line n) es (t, k))
  follows_hart line n (Sign Colon) k = (λ ts a m h. record { target = h.target; mid = h.mid; is_target = colon_any h.is_target; then = h.then }, λ ts a m h. record { target = h.target; mid = h.mid; is_target = colon_any h.is_target; then = h.then })
  follows_hart line n _ k = λ ts a m h. target_second h.is_target

  follows_colon : (line : ℕ) (n : List ℕ) (t : Tok) (k : ℕ) → Follows Left (λ us. LeftIn (AfterColon line n) es ((t, k) ∷ us)) (next_in (AfterColon line n) es (t, k))
  follows_colon line n (Word c w) k = (λ ts a m h. third_to h.is_target h.then, λ ts a m h. record { target = Register n w; mid = ts; is_target = register; then = h })
  follows_colon line n _ k = λ ts a m h. target_third h.is_target

  follows_bracket : (line : ℕ) (t : Tok) (k : ℕ) → Follows Left (λ us. LeftIn (AfterBracket line) es ((t, k) ∷ us)) (next_in (AfterBracket line) es (t, k))
  follows_bracket line (Word class.Number w) k = λ ts a m h. let p = bracket_second h.is_target in cc
  follows_bracket line (Word class.Other w) k = λ ts a m h. let p = bracket_second h.is_target in cc
  follows_bracket line (Word c w) k = (λ ts a m h. record { target = h.target; mid = h.mid; is_target = name_any refl h.is_target; then = h.then }, λ ts a m h. record { target = h.target; mid = h.mid; is_target = name_any refl h.is_target; then = h.then })
  follows_bracket line _ k = λ ts a m h. bracket_second h.is_target

  follows_bracketed : (line : ℕ) (w : List ℕ) (t : Tok) (k : ℕ) → Follows Left (λ us. LeftIn (AfterBracketedName line w) es ((t, k) ∷ us)) (next_in (AfterBracketedName line w) es (t, k))
  follows_bracketed line w (Sign CloseBracket) k = (λ ts a m h. closed_to h.is_target h.then, λ ts a m h. record { target = Location w; mid = ts; is_target = bracketed refl; then = h })
  follows_bracketed line w _ k = λ ts a m h. bracket_third h.is_target

  follows_equals : (line : ℕ) (x : Target) (t : Tok) (k : ℕ) → Follows Left (λ us. ThenValue es line x ((t, k) ∷ us)) (next_in (AfterEquals line x) es (t, k))
  follows_equals line x (Word class.Number d) k = (λ ts a m h. value_to h.is_value h.then, λ ts a m h. record { value = Number false d; mid = ts; is_value = direct number; then = h })
  follows_equals line x (Word class.Other w) k = λ ts a m h. value_first h.is_value
  follows_equals line x (Word c w) k = (λ ts a m h. address_to {c = c} refl h.is_value h.then, λ ts a m h. record { value = Address w; mid = ts; is_value = direct (address {c = c} refl); then = h })
  follows_equals line x (Sign Minus) k = (λ ts a m h. record { value = h.value; mid = h.mid; is_value = minus_any h.is_value; then = h.then }, λ ts a m h. record { value = h.value; mid = h.mid; is_value = minus_any h.is_value; then = h.then })
  follows_equals line x (Sign Ampersand) k = (λ ts a m h. record { value = h.value; mid = h.mid; is_value = ampersand_any h.is_value; then = h.then }, λ ts a m h. record { value = h.value; mid = h.mid; is_value = ampersand_any h.is_value; then = h.then })
  follows_equals line x _ k = λ ts a m h. value_first h.is_value

  follows_minus : (line : ℕ) (x : Target) (t : Tok) (k : ℕ) → Follows Left (λ us. LeftIn (AfterMinus line x) es ((t, k) ∷ us)) (next_in (AfterMinus line x) es (t, k))
  follows_minus line x (Word class.Number d) k = (λ ts a m h. minus_to h.is_value h.then, λ ts a m h. record { value = Number true d; mid = ts; is_value = direct minus; then = h })
  follows_minus line x _ k = λ ts a m h. minus_second h.is_value

  follows_ampersand : (line : ℕ) (x : Target) (t : Tok) (k : ℕ) → Follows Left (λ us. LeftIn (AfterAmpersand line x) es ((t, k) ∷ us)) (next_in (AfterAmpersand line x) es (t, k))
  follows_ampersand line x (Word class.Number w) k = λ ts a m h. let p = ampersand_second h.is_value in cc
  follows_ampersand line x (Word class.Other w) k = λ ts a m h. let p = ampersand_second h.is_value in cc
  follows_ampersand line x (Word c w) k = (λ ts a m h. reference_to h.is_value h.then, λ ts a m h. record { value = Address w; mid = ts; is_value = reference {c = c} refl; then = h })
  follows_ampersand line x _ k = λ ts a m h. ampersand_second h.is_value

  follows_value : (e : Entry) (t : Tok) (k : ℕ) → Follows Left (λ us. ThenEnd es e ((t, k) ∷ us)) (next_in (AfterValue e) es (t, k))
  follows_value e (Sign Semicolon) k = (λ ts a m h. semicolon_to es e h.is_end h.all, λ ts a m h. record { more = h.more; is_end = semicolon h.are_entries; all = h.all ∙ append_assoc es (e ∷ []) h.more })
  follows_value e (Sign CloseBrace) k = (λ ts a m h. brace_to es e h.is_end h.all, λ ts. record { more = []; is_end = brace; all = refl })
  follows_value e _ k = λ ts a m h. end_first h.is_end

  follows_target : (line : ℕ) (x : Target) (t : Tok) (k : ℕ) → Follows Left (λ us. ThenInitial es line x ((t, k) ∷ us)) (next_in (AfterTarget line x) es (t, k))
  follows_target line x (Sign Equals) k = (λ ts a m h. equals_to h, λ ts a m h. given head h)
  follows_target line x (Sign Semicolon) k = follows_same (λ us. ThenEnd es (unset line x) ((Sign Semicolon, k) ∷ us)) _ (next_in (AfterValue (unset line x)) es (Sign Semicolon, k)) (λ ts a m h. unset_to tt h) (λ ts a m h. left_out h) (follows_value (unset line x) (Sign Semicolon) k)
  follows_target line x (Sign CloseBrace) k = follows_same (λ us. ThenEnd es (unset line x) ((Sign CloseBrace, k) ∷ us)) _ (next_in (AfterValue (unset line x)) es (Sign CloseBrace, k)) (λ ts a m h. unset_to tt h) (λ ts a m h. left_out h) (follows_value (unset line x) (Sign CloseBrace) k)
  follows_target line x _ k = λ ts a m h. initial_first h

  follows_name : (line : ℕ) (v : List ℕ) (t : Tok) (k : ℕ) → Follows Left (λ us. ThenEntry es ((Word class.Name v, line) ∷ (t, k) ∷ us)) (next_in (AfterName line v) es (t, k))
  follows_name line v (Word c w) k = follows_same (λ us. ThenEntry es ((Word c w, k) ∷ us)) _ _ (λ ts a m h. typed_word h.is_entry h.then) (λ ts a m h. typed_from h) (follows_begun (Word c w) k)
  follows_name line v (Sign OpenBracket) k = follows_same (λ us. ThenEntry es ((Sign OpenBracket, k) ∷ us)) _ (at_entries es (target_begun (Sign OpenBracket, k))) (λ ts a m h. typed_bracket {v = v} {line = line} h.is_entry h.then) (λ ts a m h. typed_from h) (follows_begun (Sign OpenBracket) k)
  follows_name line v (Sign Star) k = (λ ts a m h. typed_star h.is_entry h.then, λ ts a m h. star_from h)
  follows_name line v (Sign Equals) k = (λ ts a m h. name_equals h.is_entry h.then, λ ts a m h. target_from (location {c = class.Name} refl) (given head h))
  follows_name line v (Sign Semicolon) k = follows_same (λ us. ThenEnd es (unset line (Location v)) ((Sign Semicolon, k) ∷ us)) _ (next_in (AfterValue (unset line (Location v))) es (Sign Semicolon, k)) (λ ts a m h. name_ended tt h.is_entry h.then) (λ ts a m h. name_alone h) (follows_value (unset line (Location v)) (Sign Semicolon) k)
  follows_name line v (Sign CloseBrace) k = follows_same (λ us. ThenEnd es (unset line (Location v)) ((Sign CloseBrace, k) ∷ us)) _ (next_in (AfterValue (unset line (Location v))) es (Sign CloseBrace, k)) (λ ts a m h. name_ended tt h.is_entry h.then) (λ ts a m h. name_alone h) (follows_value (unset line (Location v)) (Sign CloseBrace) k)
  follows_name line v _ k = λ ts a m h. name_second h.is_entry h.then

  follows_in : (p : Position) (t : Lined) → Follows Left (λ us. LeftIn p es (t ∷ us)) (next_in p es t)
  follows_in BeforeBrace (t, k) = follows_open t k
  follows_in BeforeEntry (t, k) = follows_entry t k
  follows_in AfterStar (t, k) = follows_begun t k
  follows_in (AfterName line w) (t, k) = follows_name line w t k
  follows_in (AfterHart line h) (t, k) = follows_hart line h t k
  follows_in (AfterColon line h) (t, k) = follows_colon line h t k
  follows_in (AfterBracket line) (t, k) = follows_bracket line t k
  follows_in (AfterBracketedName line w) (t, k) = follows_bracketed line w t k
  follows_in (AfterTarget line x) (t, k) = follows_target line x t k
  follows_in (AfterEquals line x) (t, k) = follows_equals line x t k
  follows_in (AfterMinus line x) (t, k) = follows_minus line x t k
  follows_in (AfterAmpersand line x) (t, k) = follows_ampersand line x t k
  follows_in (AfterValue e) (t, k) = follows_value e t k

-- ---- each state can be completed, and none ends by itself

then_end : (es : Entries) (e : Entry) (q : Tokens) → ThenEnd es e ((Sign CloseBrace, 0) ∷ q) (es ++ e ∷ []) q
then_end es e q = record { more = []; is_end = brace; all = refl }

then_left : (es : Entries) (line : ℕ) (x : Target) (q : Tokens) → ThenInitial es line x ((Sign CloseBrace, 0) ∷ q) (es ++ unset line x ∷ []) q
then_left es line x q = left_out (then_end es (unset line x) q)

then_value : (es : Entries) (line : ℕ) (x : Target) (v : Value) {ts : Tokens} (q : Tokens) → IsInitial ts v ((Sign CloseBrace, 0) ∷ q) → ThenValue es line x ts (es ++ record { line = line; target = x; value = v } ∷ []) q
then_value es line x v q h = record { value = v; mid = (Sign CloseBrace, 0) ∷ q; is_value = h; then = then_end es (record { line = line; target = x; value = v }) q }

ending : Tokens
ending = (Sign CloseBrace, 0) ∷ []

alive_in : (p : Position) (es : Entries) → IsAlive (LeftIn p es) []
unfolding ending
alive_in BeforeBrace es = ((Sign OpenBrace, 0) ∷ ending, es, λ q. record { more = []; is_block = block none; all = sym (append-nil es) })
alive_in BeforeEntry es = (ending, es, λ q. record { more = []; are_entries = none; all = sym (append-nil es) })
alive_in AfterStar es = ((Word class.Name [], 0) ∷ ending, es ++ unset 0 (Location []) ∷ [], λ q. name_alone (then_end es (unset 0 (Location [])) q))
alive_in (AfterName line w) es = (ending, es ++ unset line (Location w) ∷ [], λ q. name_alone (then_end es (unset line (Location w)) q))
alive_in (AfterHart line n) es = ((Sign Colon, 0) ∷ (Word class.Name [], 0) ∷ ending, es ++ unset line (Register n []) ∷ [], λ q. record { target = Register n []; mid = _; is_target = register; then = then_left es line (Register n []) q })
alive_in (AfterColon line n) es = ((Word class.Name [], 0) ∷ ending, es ++ unset line (Register n []) ∷ [], λ q. record { target = Register n []; mid = _; is_target = register; then = then_left es line (Register n []) q })
alive_in (AfterBracket line) es = ((Word class.Name [], 0) ∷ (Sign CloseBracket, 0) ∷ ending, es ++ unset line (Location []) ∷ [], λ q. record { target = Location []; mid = _; is_target = bracketed refl; then = then_left es line (Location []) q })
alive_in (AfterBracketedName line w) es = ((Sign CloseBracket, 0) ∷ ending, es ++ unset line (Location w) ∷ [], λ q. record { target = Location w; mid = _; is_target = bracketed refl; then = then_left es line (Location w) q })
alive_in (AfterTarget line x) es = (ending, es ++ unset line x ∷ [], λ q. then_left es line x q)
alive_in (AfterEquals line x) es = ((Word class.Number [], 0) ∷ ending, es ++ record { line = line; target = x; value = Number false [] } ∷ [], λ q. then_value es line x (Number false []) q (direct number))
alive_in (AfterMinus line x) es = ((Word class.Number [], 0) ∷ ending, es ++ record { line = line; target = x; value = Number true [] } ∷ [], λ q. then_value es line x (Number true []) q (direct minus))
alive_in (AfterAmpersand line x) es = ((Word class.Name [], 0) ∷ ending, es ++ record { line = line; target = x; value = Address [] } ∷ [], λ q. then_value es line x (Address []) q (reference refl))
alive_in (AfterValue e) es = (ending, es ++ e ∷ [], λ q. then_end es e q)

no_bare : {x : Entry} {m : Tokens} → IsBare [] x m → ⊥
no_bare h = elim h [ ]

no_entry : {x : Entry} {m : Tokens} → IsEntry [] x m → ⊥
no_entry (untyped b) = no_bare b

no_entries : {x : Entries} {m : Tokens} → IsEntries [] x m → ⊥
no_entries (entry e x) = no_entry e

no_end : {x : Entries} {m : Tokens} → IsEntryEnd [] x m → ⊥
no_end h = elim h [ ]

no_second_word : {es a : Entries} {w : List ℕ} {k : ℕ} {e : Entry} {mid m : Tokens} → IsEntry ((Word class.Name w, k) ∷ []) e mid → ThenEnd es e mid a m → ⊥
no_second_word (untyped (bare t v)) x = elim t [ ]
no_second_word (untyped (alone (location p))) x = no_end x.is_end
no_second_word (typed p e) x = no_entry e

no_block : {x : Entries} {m : Tokens} → IsInit [] x m → ⊥
no_block h = elim h [ ]

no_value : {x : Value} {m : Tokens} → IsInitial [] x m → ⊥
no_value (direct h) = elim h [ ]

no_minus : {k : ℕ} {x : Value} {m : Tokens} → IsInitial ((Sign Minus, k) ∷ []) x m → ⊥
no_minus (direct h) = elim h [ ]

no_ampersand : {k : ℕ} {x : Value} {m : Tokens} → IsInitial ((Sign Ampersand, k) ∷ []) x m → ⊥
no_ampersand (direct h) = elim h [ ]

no_equals : {m : Tokens} → HeadsEquals [] m → ⊥
no_equals h = elim h [ ]

no_initial : {es a : Entries} {line : ℕ} {x : Target} {m : Tokens} → ThenInitial es line x [] a m → ⊥
no_initial (given heads h) = no_equals heads
no_initial (left_out h) = no_end h.is_end

no_second : {h : List ℕ} {k : ℕ} {x : Target} {m : Tokens} → IsTarget ((Word class.Number h, k) ∷ []) x m → ⊥
no_second (location p) = cc

no_third : {h : List ℕ} {j k : ℕ} {x : Target} {m : Tokens} → IsTarget ((Word class.Number h, j) ∷ (Sign Colon, k) ∷ []) x m → ⊥
no_third (location p) = cc

no_name : {k : ℕ} {x : Target} {m : Tokens} → IsTarget ((Sign OpenBracket, k) ∷ []) x m → ⊥
no_name h = elim h [ ]

no_bracket : {c : Class} {w : List ℕ} {j k : ℕ} {x : Target} {m : Tokens} → IsTarget ((Sign OpenBracket, j) ∷ (Word c w, k) ∷ []) x m → ⊥
no_bracket h = elim h [ ]

no_end_in : (p : Position) (es a : Entries) (m : Tokens) → LeftIn p es [] a m → ⊥
no_end_in BeforeBrace es a m h = no_block h.is_block
no_end_in BeforeEntry es a m h = no_entries h.are_entries
no_end_in AfterStar es a m h = no_entry h.is_entry
no_end_in (AfterName line w) es a m h = no_second_word h.is_entry h.then
no_end_in (AfterHart line n) es a m h = no_second h.is_target
no_end_in (AfterColon line n) es a m h = no_third h.is_target
no_end_in (AfterBracket line) es a m h = no_name h.is_target
no_end_in (AfterBracketedName line w) es a m h = no_bracket h.is_target
no_end_in (AfterTarget line x) es a m h = no_initial h
no_end_in (AfterEquals line x) es a m h = no_value h.is_value
no_end_in (AfterMinus line x) es a m h = no_minus h.is_value
no_end_in (AfterAmpersand line x) es a m h = no_ampersand h.is_value
no_end_in (AfterValue e) es a m h = no_end h.is_end

pub scanned_left : (s : State) (ts : Tokens) → Scanned (Left s) ts (scan next s ts)
scanned_left s ts =
    scanned next Left (λ x t. follows_in x.entries x.position t) (λ x. alive_in x.position x.entries) (λ x a m h. no_end_in x.position x.entries a m h) s ts
