-- What the tokens to come must be, in each state of the reader of rows and of the quantifier.
use Rattle.std.proofs.Common.{◌≡◌, ℕ, zero, suc, List, [], ◌∷◌, ◌++◌, true, false, refl, sym, ap, ◌∙◌, subst, append_assoc, append-nil}
use Rattle.fs_litmus_tokens.specs.declared.word.Class.TheVariants as class
use Rattle.fs_litmus_tokens.specs.declared.token.Mark.TheVariants.{Semicolon, Bar, OpenBracket, CloseBracket, Tilde}
use Rattle.fs_litmus_tokens.specs.Tokens.{Tok, Lined, Word, Sign, Strange}
use Rattle.fs_litmus_tokens.specs.Sections.{Move, Go, Finish, Bad, scan, IsAlive, Scanned}
use Rattle.fs_litmus_tokens.proofs.Scans.{Follows, scanned}
use Rattle.fs_litmus_syntax.specs.declared.rows.Quantifier.{Quantifier}
use Rattle.fs_litmus_syntax.specs.declared.rows.Quantifier.TheVariants.{Exists, NotExists, Forall}
use Rattle.fs_litmus_syntax.specs.declared.rows.Tail.{Tail}
use Rattle.fs_litmus_syntax.specs.declared.rows.Tail.TheVariants.{AfterLocationsWord, InLocations, BeforeQuantifier, AfterTilde}
use Rattle.fs_litmus_syntax.specs.Body.{is_plain, Cell, nothing, plain, IsRow, one, cells, is_skipped, IsSkipped, closed, skipped, IsQuantifier, exists, not_exists, forall, IsEnding, bare, after_locations, is_stop, Body, IsBody, ending, row, flatten}
use Rattle.fs_litmus_syntax.specs.Rows.{quantifier_begun, rows_stopped, after_rows, Position, BeforeRow, InCell, InTail, Flat, State, went_to, in_tail, bar_in, semicolon_in, cell_next, row_begun, next_in, next}

abbrev pub Tokens : Type 0
Tokens = List Lined

abbrev pub Cells : Type 0
Cells = List Cell

-- cells, a row and the rows after it
abbrev pub whole : Cells → Cells → Body → Flat
whole cs r b = record { cells = cs ++ (r ++ flatten b.rows); quantifier = b.quantifier }

-- ---- after the rows

pub record ThenQuantifier (ts : Tokens) (q : Quantifier) (m : Tokens) : Type 0 where
  pub mid : Tokens
  pub is_skipped_to : IsSkipped ts mid
  pub is_quantifier : IsQuantifier mid q m

-- where a word or a mark has been read, its line and its letters no longer matter
abbrev pub TailLeft : Tail → Tokens → Quantifier → Tokens → Type 0
TailLeft AfterLocationsWord ts q m = IsEnding ((Word class.LocationsWord [], 0) ∷ ts) q m
TailLeft InLocations ts q m = ThenQuantifier ts q m
TailLeft BeforeQuantifier ts q m = IsQuantifier ts q m
TailLeft AfterTilde ts q m = IsQuantifier ((Sign Tilde, 0) ∷ ts) q m

pub record ThenTail (tail : Tail) (cs : Cells) (ts : Tokens) (a : Flat) (m : Tokens) : Type 0 where
  pub read : Quantifier
  pub is_tail : TailLeft tail ts read m
  pub all : a ≡ record { cells = cs; quantifier = read }

pub record ThenRows (n : ℕ) (cs : Cells) (ts : Tokens) (a : Flat) (m : Tokens) : Type 0 where
  pub more : Body
  pub is_body : IsBody (suc n) ts more m
  pub all : a ≡ whole cs [] more

pub record InRow (n left : ℕ) (c : Cell) (cs : Cells) (ts : Tokens) (a : Flat) (m : Tokens) : Type 0 where
  pub cell : Cell
  pub more : Cells
  pub mid : Tokens
  pub is_row : IsRow (suc left) ts (cell ∷ more) mid
  pub rest : Body
  pub is_body : IsBody (suc n) mid rest m
  pub all : a ≡ whole cs ((c ++ cell) ∷ more) rest

abbrev pub LeftIn : ℕ → Position → Cells → Tokens → Flat → Tokens → Type 0
LeftIn n BeforeRow cs ts a m = ThenRows n cs ts a m
LeftIn n (InCell left c) cs ts a m = InRow n left c cs ts a m
LeftIn n (InTail p) cs ts a m = ThenTail p cs ts a m

abbrev pub Left : ℕ → State → Tokens → Flat → Tokens → Type 0
Left n s ts a m = LeftIn n s.position s.cells ts a m

-- ---- the tail, by itself

locations_any : {v w : List ℕ} {j k : ℕ} {q : Quantifier} {ts m : Tokens} → IsEnding ((Word class.LocationsWord v, j) ∷ ts) q m → IsEnding ((Word class.LocationsWord w, k) ∷ ts) q m
locations_any (bare x) = elim x [ ]
locations_any (after_locations x y) = after_locations x y

tilde_any : {j k : ℕ} {q : Quantifier} {ts m : Tokens} → IsQuantifier ((Sign Tilde, j) ∷ ts) q m → IsQuantifier ((Sign Tilde, k) ∷ ts) q m
tilde_any not_exists = not_exists

abbrev BeginsQuantifier : Tok → Type 0
BeginsQuantifier (Word class.ExistsWord w) = Unit {0}
BeginsQuantifier (Word class.ForallWord w) = Unit {0}
BeginsQuantifier (Sign Tilde) = Unit {0}
BeginsQuantifier _ = ⊥

quantifier_first : {t : Tok} {k : ℕ} {q : Quantifier} {ts m : Tokens} → IsQuantifier ((t, k) ∷ ts) q m → BeginsQuantifier t
quantifier_first exists = tt
quantifier_first not_exists = tt
quantifier_first forall = tt

exists_to : {w : List ℕ} {k : ℕ} {q : Quantifier} {ts m : Tokens} → IsQuantifier ((Word class.ExistsWord w, k) ∷ ts) q m → (q ≡ Exists) × (m ≡ ts)
exists_to exists = (refl, refl)

forall_to : {w : List ℕ} {k : ℕ} {q : Quantifier} {ts m : Tokens} → IsQuantifier ((Word class.ForallWord w, k) ∷ ts) q m → (q ≡ Forall) × (m ≡ ts)
forall_to forall = (refl, refl)

follows_quantifier : (t : Tok) (k : ℕ) → Follows TailLeft (λ us. λ q m. IsQuantifier ((t, k) ∷ us) q m) (quantifier_begun t)
follows_quantifier (Word class.ExistsWord w) k = (λ ts q m h. exists_to h, λ ts. exists)
follows_quantifier (Word class.ForallWord w) k = (λ ts q m h. forall_to h, λ ts. forall)
follows_quantifier (Sign Tilde) k = (λ ts q m h. tilde_any h, λ ts q m h. tilde_any h)
follows_quantifier _ k = λ ts q m h. quantifier_first h

abbrev IsOpenBracket : Tok → Type 0
IsOpenBracket (Sign OpenBracket) = Unit {0}
IsOpenBracket _ = ⊥

locations_second : {t : Tok} {w : List ℕ} {j k : ℕ} {q : Quantifier} {ts m : Tokens} → IsEnding ((Word class.LocationsWord w, j) ∷ (t, k) ∷ ts) q m → IsOpenBracket t
locations_second (bare x) = elim x [ ]
locations_second (after_locations x y) = tt

bracket_to : {w : List ℕ} {j k : ℕ} {q : Quantifier} {ts m : Tokens} → IsEnding ((Word class.LocationsWord w, j) ∷ (Sign OpenBracket, k) ∷ ts) q m → ThenQuantifier ts q m
bracket_to (bare x) = elim x [ ]
bracket_to (after_locations x y) = record { mid = _; is_skipped_to = x; is_quantifier = y }

closed_to : {k : ℕ} {q : Quantifier} {ts mid m : Tokens} → IsSkipped ((Sign CloseBracket, k) ∷ ts) mid → IsQuantifier mid q m → IsQuantifier ts q m
closed_to closed y = y
closed_to (skipped p x) y = absurd (cc)

skipped_to : {t : Tok} {k : ℕ} {ts mid : Tokens} → is_skipped t ≡ true → IsSkipped ((t, k) ∷ ts) mid → IsSkipped ts mid
skipped_to p closed = absurd (cc)
skipped_to p (skipped q x) = x

no_strange_skipped : {k : ℕ} {ts mid : Tokens} → IsSkipped ((Strange, k) ∷ ts) mid → ⊥
no_strange_skipped (skipped p x) = cc

follows_skipped : (t : Tok) (k : ℕ) → Follows TailLeft (λ us. λ q m. ThenQuantifier ((t, k) ∷ us) q m) (after_rows InLocations t)
follows_skipped (Sign CloseBracket) k = (λ ts q m h. closed_to h.is_skipped_to h.is_quantifier, λ ts q m h. record { mid = ts; is_skipped_to = closed; is_quantifier = h })
follows_skipped Strange k = λ ts q m h. no_strange_skipped h.is_skipped_to
follows_skipped t k = (λ ts q m h. record { mid = h.mid; is_skipped_to = skipped_to refl h.is_skipped_to; is_quantifier = h.is_quantifier }, λ ts q m h. record { mid = h.mid; is_skipped_to = skipped refl h.is_skipped_to; is_quantifier = h.is_quantifier })

abbrev IsExistsWord : Tok → Type 0
IsExistsWord (Word class.ExistsWord w) = Unit {0}
IsExistsWord _ = ⊥

tilde_second : {t : Tok} {j k : ℕ} {q : Quantifier} {ts m : Tokens} → IsQuantifier ((Sign Tilde, j) ∷ (t, k) ∷ ts) q m → IsExistsWord t
tilde_second not_exists = tt

not_exists_to : {w : List ℕ} {j k : ℕ} {q : Quantifier} {ts m : Tokens} → IsQuantifier ((Sign Tilde, j) ∷ (Word class.ExistsWord w, k) ∷ ts) q m → (q ≡ NotExists) × (m ≡ ts)
not_exists_to not_exists = (refl, refl)

follows_locations : (t : Tok) (k : ℕ) → Follows TailLeft (λ us. λ q m. IsEnding ((Word class.LocationsWord [], 0) ∷ (t, k) ∷ us) q m) (after_rows AfterLocationsWord t)
follows_locations (Sign OpenBracket) k = (λ ts q m h. bracket_to h, λ ts q m h. after_locations h.is_skipped_to h.is_quantifier)
follows_locations _ k = λ ts q m h. locations_second h

follows_tilde : (t : Tok) (k : ℕ) → Follows TailLeft (λ us. λ q m. IsQuantifier ((Sign Tilde, 0) ∷ (t, k) ∷ us) q m) (after_rows AfterTilde t)
follows_tilde (Word class.ExistsWord w) k = (λ ts q m h. not_exists_to h, λ ts. not_exists)
follows_tilde _ k = λ ts q m h. tilde_second h

follows_tail : (p : Tail) (t : Tok) (k : ℕ) → Follows TailLeft (λ us. λ q m. TailLeft p ((t, k) ∷ us) q m) (after_rows p t)
follows_tail AfterLocationsWord t k = follows_locations t k
follows_tail InLocations t k = follows_skipped t k
follows_tail BeforeQuantifier t k = follows_quantifier t k
follows_tail AfterTilde t k = follows_tilde t k

-- ---- a cell's next token

record PlainStep (k : ℕ) (t : Lined) (ts cell : Tokens) (more : Cells) (mid : Tokens) : Type 0 where
  rest : Tokens
  same : cell ≡ t ∷ rest
  is_row : IsRow k ts (rest ∷ more) mid

plain_to : {k i : ℕ} {t : Tok} {ts cell mid : Tokens} {more : Cells} → is_plain t ≡ true → IsRow k ((t, i) ∷ ts) (cell ∷ more) mid → PlainStep k (t, i) ts cell more mid
plain_to p (one nothing) = absurd (cc)
plain_to p (one (plain q x)) = record { rest = _; same = refl; is_row = one x }
plain_to p (cells nothing r) = absurd (cc)
plain_to p (cells (plain q x) r) = record { rest = _; same = refl; is_row = cells x r }

plain_from : {k i : ℕ} {t : Tok} {ts cell mid : Tokens} {more : Cells} → is_plain t ≡ true → IsRow k ts (cell ∷ more) mid → IsRow k ((t, i) ∷ ts) (((t, i) ∷ cell) ∷ more) mid
plain_from p (one x) = one (plain p x)
plain_from p (cells x r) = cells (plain p x) r

record BarStep (k : ℕ) (ts cell : Tokens) (more : Cells) (mid : Tokens) : Type 0 where
  next : Tokens
  others : Cells
  empty : cell ≡ []
  same : more ≡ next ∷ others
  is_row : IsRow (suc k) ts (next ∷ others) mid

bar_rest : {k : ℕ} {ts mid : Tokens} {more : Cells} → IsRow (suc k) ts more mid → BarStep k ts [] more mid
bar_rest (one x) = record { next = _; others = _; empty = refl; same = refl; is_row = one x }
bar_rest (cells x r) = record { next = _; others = _; empty = refl; same = refl; is_row = cells x r }

bar_to : {k i : ℕ} {ts cell mid : Tokens} {more : Cells} → IsRow (suc (suc k)) ((Sign Bar, i) ∷ ts) (cell ∷ more) mid → BarStep k ts cell more mid
bar_to (cells nothing r) = bar_rest r
bar_to (cells (plain q x) r) = absurd (cc)

no_bar : {i : ℕ} {ts cell mid : Tokens} {more : Cells} → IsRow 1 ((Sign Bar, i) ∷ ts) (cell ∷ more) mid → ⊥
no_bar (one (plain q x)) = cc

record SemicolonStep (ts cell : Tokens) (more : Cells) (mid : Tokens) : Type 0 where
  empty : cell ≡ []
  last : more ≡ []
  after : mid ≡ ts

semicolon_to : {i : ℕ} {ts cell mid : Tokens} {more : Cells} → IsRow 1 ((Sign Semicolon, i) ∷ ts) (cell ∷ more) mid → SemicolonStep ts cell more mid
semicolon_to (one nothing) = record { empty = refl; last = refl; after = refl }
semicolon_to (one (plain q x)) = absurd (cc)

no_semicolon : {k i : ℕ} {ts cell mid : Tokens} {more : Cells} → IsRow (suc (suc k)) ((Sign Semicolon, i) ∷ ts) (cell ∷ more) mid → ⊥
no_semicolon (cells (plain q x) r) = cc

no_strange : {k i : ℕ} {ts cell mid : Tokens} {more : Cells} → IsRow k ((Strange, i) ∷ ts) (cell ∷ more) mid → ⊥
no_strange (one (plain q x)) = cc
no_strange (cells (plain q x) r) = cc

-- ---- equations of lists

push_cell : (cs more : Cells) (c cell : Cell) (t : Lined) (b : Body) → whole cs ((c ++ t ∷ cell) ∷ more) b ≡ whole cs (((c ++ t ∷ []) ++ cell) ∷ more) b
push_cell cs more c cell t b = ap (λ x. whole cs (x ∷ more) b) (sym (append_assoc c (t ∷ []) cell))

end_cell : (cs r : Cells) (c : Cell) (b : Body) → whole cs ((c ++ []) ∷ r) b ≡ whole (cs ++ c ∷ []) r b
end_cell cs r c b =
    ap (λ x. whole cs (x ∷ r) b) (append-nil c)
    ∙ ap (λ l. record { cells = l; quantifier = b.quantifier }) (sym (append_assoc cs (c ∷ []) (r ++ flatten b.rows)))

row_shape : {k : ℕ} {us mid : Tokens} {r : Cells} → IsRow k us r mid → (cell : Cell) × (more : Cells) × (r ≡ cell ∷ more)
row_shape (one {cell = cell} x) = (cell, [], refl)
row_shape (cells {cell = cell} {cs = cs} x y) = (cell, cs, refl)

-- ---- each token in a cell

module _ (n : ℕ) where
  follows_plain : (left : ℕ) (c : Cell) (cs : Cells) (t : Tok) (k : ℕ) → is_plain t ≡ true → Follows (Left n) (λ us. InRow n left c cs ((t, k) ∷ us)) (went_to cs (InCell left (c ++ (t, k) ∷ [])))
  follows_plain left c cs t k p = (
    λ ts a m h.
        let s = plain_to p h.is_row in
        record { cell = s.rest; more = h.more; mid = h.mid; is_row = s.is_row; rest = h.rest; is_body = h.is_body; all = h.all ∙ ap (λ x. whole cs ((c ++ x) ∷ h.more) h.rest) s.same ∙ push_cell cs h.more c s.rest (t, k) h.rest },
    λ ts a m h.
        record { cell = (t, k) ∷ h.cell; more = h.more; mid = h.mid; is_row = plain_from p h.is_row; rest = h.rest; is_body = h.is_body; all = h.all ∙ sym (push_cell cs h.more c h.cell (t, k) h.rest) },
  )

  follows_bar : (left : ℕ) (c : Cell) (cs : Cells) (k : ℕ) → Follows (Left n) (λ us. InRow n left c cs ((Sign Bar, k) ∷ us)) (bar_in left c cs)
  follows_bar zero c cs k = λ ts a m h. no_bar h.is_row
  follows_bar (suc left) c cs k = (
    λ ts a m h.
        let s = bar_to h.is_row in
        record {
          cell = s.next;
          more = s.others;
          mid = h.mid;
          is_row = s.is_row;
          rest = h.rest;
          is_body = h.is_body;
          all = h.all ∙ ap (λ x. whole cs ((c ++ x) ∷ h.more) h.rest) s.empty ∙ ap (λ x. whole cs ((c ++ []) ∷ x) h.rest) s.same ∙ end_cell cs (s.next ∷ s.others) c h.rest;
        },
    λ ts a m h.
        record { cell = []; more = h.cell ∷ h.more; mid = h.mid; is_row = cells nothing h.is_row; rest = h.rest; is_body = h.is_body; all = h.all ∙ sym (end_cell cs (h.cell ∷ h.more) c h.rest) },
  )

  follows_semicolon : (left : ℕ) (c : Cell) (cs : Cells) (k : ℕ) → Follows (Left n) (λ us. InRow n left c cs ((Sign Semicolon, k) ∷ us)) (semicolon_in left c cs)
  follows_semicolon zero c cs k = (
    λ ts a m h.
        let s = semicolon_to h.is_row in
        record {
          more = h.rest;
          is_body = subst (λ l. IsBody (suc n) l h.rest m) s.after h.is_body;
          all = h.all ∙ ap (λ x. whole cs ((c ++ x) ∷ h.more) h.rest) s.empty ∙ ap (λ x. whole cs ((c ++ []) ∷ x) h.rest) s.last ∙ end_cell cs [] c h.rest;
        },
    λ ts a m h.
        record { cell = []; more = []; mid = ts; is_row = one nothing; rest = h.more; is_body = h.is_body; all = h.all ∙ sym (end_cell cs [] c h.more) },
  )
  follows_semicolon (suc left) c cs k = λ ts a m h. no_semicolon h.is_row

  follows_cell : (left : ℕ) (c : Cell) (cs : Cells) (t : Tok) (k : ℕ) → Follows (Left n) (λ us. InRow n left c cs ((t, k) ∷ us)) (cell_next left c cs (t, k))
  follows_cell left c cs (Sign Bar) k = follows_bar left c cs k
  follows_cell left c cs (Sign Semicolon) k = follows_semicolon left c cs k
  follows_cell left c cs Strange k = λ ts a m h. no_strange h.is_row
  follows_cell left c cs t k = follows_plain left c cs t k refl

  -- ---- a row begins

  row_parts : {r : Cells} {q : Quantifier} {us mid m : Tokens} {rest : List Cells} {a : Flat} (cs : Cells) → IsRow (suc n) us r mid → IsBody (suc n) mid (record { rows = rest; quantifier = q }) m → a ≡ whole cs r (record { rows = rest; quantifier = q }) → InRow n n [] cs us a m
  row_parts {q = q} {us = us} {mid = mid} {rest = rest} cs x y e =
      let s = row_shape x in
      record { cell = s.0; more = s.1; mid = mid; is_row = subst (λ z. IsRow (suc n) us z mid) s.2 x; rest = record { rows = rest; quantifier = q }; is_body = y; all = e ∙ ap (λ z. whole cs z (record { rows = rest; quantifier = q })) s.2 }

  stop_ending : {t : Tok} {k : ℕ} {q : Quantifier} {ts m : Tokens} → IsEnding ((t, k) ∷ ts) q m → is_stop t ≡ true
  stop_ending (bare exists) = refl
  stop_ending (bare not_exists) = refl
  stop_ending (bare forall) = refl
  stop_ending (after_locations x y) = refl

  row_to : {t : Tok} {k : ℕ} {ts m : Tokens} {b : Body} {a : Flat} (cs : Cells) → is_stop t ≡ false → IsBody (suc n) ((t, k) ∷ ts) b m → a ≡ whole cs [] b → InRow n n [] cs ((t, k) ∷ ts) a m
  row_to cs p (ending x) e = let q = stop_ending x in absurd (cc)
  row_to cs p (row q x y) e = row_parts cs x y e

  row_from : {t : Tok} {k : ℕ} {ts m : Tokens} {a : Flat} (cs : Cells) → is_stop t ≡ false → InRow n n [] cs ((t, k) ∷ ts) a m → ThenRows n cs ((t, k) ∷ ts) a m
  row_from cs p h =
      record { more = record { rows = (h.cell ∷ h.more) ∷ h.rest.rows; quantifier = h.rest.quantifier }; is_body = row p h.is_row h.is_body; all = h.all }

  follows_same : (L M : Tokens → Flat → Tokens → Type 0) (move : Move State Flat) → ((ts : Tokens) (a : Flat) (m : Tokens) → L ts a m → M ts a m) → ((ts : Tokens) (a : Flat) (m : Tokens) → M ts a m → L ts a m) → Follows (Left n) M move → Follows (Left n) L move
  follows_same L M (Go s) to from f = (λ ts a m h. f.0 ts a m (to ts a m h), λ ts a m h. from ts a m (f.1 ts a m h))
  follows_same L M (Finish b) to from f = (λ ts a m h. f.0 ts a m (to ts a m h), λ ts. from ts b ts (f.1 ts))
  follows_same L M Bad to from f = λ ts a m h. f ts a m (to ts a m h)

  follows_row : (cs : Cells) (t : Tok) (k : ℕ) → is_stop t ≡ false → Follows (Left n) (λ us. ThenRows n cs ((t, k) ∷ us)) (cell_next n [] cs (t, k))
  follows_row cs t k p =
      follows_same (λ us. ThenRows n cs ((t, k) ∷ us)) (λ us. InRow n n [] cs ((t, k) ∷ us)) (cell_next n [] cs (t, k)) (λ ts a m h. row_to cs p h.is_body h.all) (λ ts a m h. row_from cs p h) (follows_cell n [] cs t k)

  -- ---- the tail begins, or goes on

  tail_finish : {a : Flat} {q r : Quantifier} (cs : Cells) → a ≡ record { cells = cs; quantifier = q } → q ≡ r → a ≡ record { cells = cs; quantifier = r }
  tail_finish cs e f = e ∙ ap (λ x. record { cells = cs; quantifier = x }) f

  follows_in_tail : (M : Tokens → Quantifier → Tokens → Type 0) (cs : Cells) (move : Move Tail Quantifier) → Follows TailLeft M move → Follows (Left n) (λ us a m. (q : Quantifier) × M us q m × (a ≡ record { cells = cs; quantifier = q })) (in_tail cs move)
  follows_in_tail M cs (Go p) f = (
    λ ts a m h. record { read = h.0; is_tail = f.0 ts h.0 m h.1; all = h.2 },
    λ ts a m h. (h.read, f.1 ts h.read m h.is_tail, h.all),
  )
  follows_in_tail M cs (Finish q) f = (
    λ ts a m h. let same = f.0 ts h.0 m h.1 in (tail_finish cs h.2 same.0, same.1),
    λ ts. (q, f.1 ts, refl),
  )
  follows_in_tail M cs Bad f = λ ts a m h. f ts h.0 m h.1

  follows_tail_at : (p : Tail) (cs : Cells) (t : Tok) (k : ℕ) → Follows (Left n) (λ us. ThenTail p cs ((t, k) ∷ us)) (in_tail cs (after_rows p t))
  follows_tail_at p cs t k =
      follows_same (λ us. ThenTail p cs ((t, k) ∷ us)) (λ us a m. (q : Quantifier) × TailLeft p ((t, k) ∷ us) q m × (a ≡ record { cells = cs; quantifier = q })) (in_tail cs (after_rows p t)) (λ ts a m h. (h.read, h.is_tail, h.all)) (λ ts a m h. record { read = h.0; is_tail = h.1; all = h.2 }) (follows_in_tail (λ us q m. TailLeft p ((t, k) ∷ us) q m) cs (after_rows p t) (follows_tail p t k))

  ending_all : {a : Flat} {q : Quantifier} (cs : Cells) → a ≡ whole cs [] (record { rows = []; quantifier = q }) → a ≡ record { cells = cs; quantifier = q }
  ending_all {q = q} cs e = e ∙ ap (λ l. record { cells = l; quantifier = q }) (append-nil cs)

  ending_of : {t : Tok} {k : ℕ} {ts m : Tokens} {b : Body} {a : Flat} (cs : Cells) → is_stop t ≡ true → IsBody (suc n) ((t, k) ∷ ts) b m → a ≡ whole cs [] b → (q : Quantifier) × IsEnding ((t, k) ∷ ts) q m × (a ≡ record { cells = cs; quantifier = q })
  ending_of cs p (ending {q = q} x) e = (q, x, ending_all cs e)
  ending_of cs p (row q x y) e = absurd (cc)

  ending_from : {t : Tok} {k : ℕ} {ts m : Tokens} {a : Flat} (cs : Cells) → (q : Quantifier) × IsEnding ((t, k) ∷ ts) q m × (a ≡ record { cells = cs; quantifier = q }) → ThenRows n cs ((t, k) ∷ ts) a m
  ending_from cs (q, x, e) =
      record { more = record { rows = []; quantifier = q }; is_body = ending x; all = e ∙ ap (λ l. record { cells = l; quantifier = q }) (sym (append-nil cs)) }

  follows_stop : (cs : Cells) (t : Tok) (k : ℕ) (move : Move Tail Quantifier) → is_stop t ≡ true → Follows TailLeft (λ us q m. IsEnding ((t, k) ∷ us) q m) move → Follows (Left n) (λ us. ThenRows n cs ((t, k) ∷ us)) (in_tail cs move)
  follows_stop cs t k move p f =
      follows_same (λ us. ThenRows n cs ((t, k) ∷ us)) (λ us a m. (q : Quantifier) × IsEnding ((t, k) ∷ us) q m × (a ≡ record { cells = cs; quantifier = q })) (in_tail cs move) (λ ts a m h. ending_of cs p h.is_body h.all) (λ ts a m h. ending_from cs h) (follows_in_tail (λ us q m. IsEnding ((t, k) ∷ us) q m) cs move f)

  exists_ending : {w : List ℕ} {k : ℕ} {q : Quantifier} {ts m : Tokens} → IsEnding ((Word class.ExistsWord w, k) ∷ ts) q m → (q ≡ Exists) × (m ≡ ts)
  exists_ending (bare exists) = (refl, refl)

  forall_ending : {w : List ℕ} {k : ℕ} {q : Quantifier} {ts m : Tokens} → IsEnding ((Word class.ForallWord w, k) ∷ ts) q m → (q ≡ Forall) × (m ≡ ts)
  forall_ending (bare forall) = (refl, refl)

  tilde_ending : {k : ℕ} {q : Quantifier} {ts m : Tokens} → IsEnding ((Sign Tilde, k) ∷ ts) q m → IsQuantifier ((Sign Tilde, 0) ∷ ts) q m
  tilde_ending (bare not_exists) = not_exists

  follows_begin : (cs : Cells) (t : Tok) (k : ℕ) → Follows (Left n) (λ us. ThenRows n cs ((t, k) ∷ us)) (row_begun n cs (t, k) (rows_stopped t))
  follows_begin cs (Word class.LocationsWord w) k = follows_stop cs (Word class.LocationsWord w) k (Go AfterLocationsWord) refl (λ ts q m h. locations_any h, λ ts q m h. locations_any h)
  follows_begin cs (Word class.ExistsWord w) k = follows_stop cs (Word class.ExistsWord w) k (Finish Exists) refl (λ ts q m h. exists_ending h, λ ts. bare exists)
  follows_begin cs (Word class.ForallWord w) k = follows_stop cs (Word class.ForallWord w) k (Finish Forall) refl (λ ts q m h. forall_ending h, λ ts. bare forall)
  follows_begin cs (Sign Tilde) k = follows_stop cs (Sign Tilde) k (Go AfterTilde) refl (λ ts q m h. tilde_ending h, λ ts q m h. bare (tilde_any h))
  follows_begin cs t k = follows_row cs t k refl

  follows_in : (p : Position) (cs : Cells) (t : Lined) → Follows (Left n) (λ us. LeftIn n p cs (t ∷ us)) (next_in n p cs t)
  follows_in BeforeRow cs (t, k) = follows_begin cs t k
  follows_in (InCell left c) cs (t, k) = follows_cell left c cs t k
  follows_in (InTail p) cs (t, k) = follows_tail_at p cs t k

  -- ---- each state can be completed, and none ends by itself

  row_end : ℕ → Tokens
  row_end zero = (Sign Semicolon, 0) ∷ []
  row_end (suc k) = (Sign Bar, 0) ∷ row_end k

  blank_row : ℕ → Cells
  blank_row zero = []
  blank_row (suc k) = [] ∷ blank_row k

  row_ends : (k : ℕ) (q : Tokens) → IsRow (suc k) (row_end k ++ q) ([] ∷ blank_row k) q
  unfolding row_end blank_row
  row_ends zero q = one nothing
  row_ends (suc k) q = cells nothing (row_ends k q)

  abbrev exists_token : Lined
  exists_token = (Word class.ExistsWord [], 0)

  alive_tail : (p : Tail) (cs : Cells) → IsAlive (ThenTail p cs) []
  alive_tail AfterLocationsWord cs = ((Sign OpenBracket, 0) ∷ (Sign CloseBracket, 0) ∷ exists_token ∷ [], record { cells = cs; quantifier = Exists }, λ q. record { read = Exists; is_tail = after_locations closed exists; all = refl })
  alive_tail InLocations cs = ((Sign CloseBracket, 0) ∷ exists_token ∷ [], record { cells = cs; quantifier = Exists }, λ q. record { read = Exists; is_tail = record { mid = exists_token ∷ q; is_skipped_to = closed; is_quantifier = exists }; all = refl })
  alive_tail BeforeQuantifier cs = (exists_token ∷ [], record { cells = cs; quantifier = Exists }, λ q. record { read = Exists; is_tail = exists; all = refl })
  alive_tail AfterTilde cs = (exists_token ∷ [], record { cells = cs; quantifier = NotExists }, λ q. record { read = NotExists; is_tail = not_exists; all = refl })

  alive_in : (p : Position) (cs : Cells) → IsAlive (LeftIn n p cs) []
  alive_in BeforeRow cs = (exists_token ∷ [], record { cells = cs; quantifier = Exists }, λ q. ending_from cs (Exists, bare exists, refl))
  alive_in (InCell left c) cs = (
    row_end left ++ exists_token ∷ [],
    whole cs ((c ++ []) ∷ blank_row left) (record { rows = []; quantifier = Exists }),
    λ q. record { cell = []; more = blank_row left; mid = exists_token ∷ q; is_row = subst (λ l. IsRow (suc left) l ([] ∷ blank_row left) (exists_token ∷ q)) (sym (append_assoc (row_end left) (exists_token ∷ []) q)) (row_ends left (exists_token ∷ q)); rest = record { rows = []; quantifier = Exists }; is_body = ending (bare exists); all = refl },
  )
  alive_in (InTail p) cs = alive_tail p cs

  no_row : {k : ℕ} {m : Tokens} {r : Cells} → IsRow k [] r m → ⊥
  no_row (one x) = elim x [ ]
  no_row (cells x y) = elim x [ ]

  no_ending : {m : Tokens} {q : Quantifier} → IsEnding [] q m → ⊥
  no_ending (bare x) = elim x [ ]

  no_body : {m : Tokens} {b : Body} → IsBody (suc n) [] b m → ⊥
  no_body (ending x) = no_ending x
  no_body (row q x y) = no_row x

  no_tail : (p : Tail) (q : Quantifier) (m : Tokens) → TailLeft p [] q m → ⊥
  no_tail AfterLocationsWord q m (bare x) = elim x [ ]
  no_tail InLocations q m h = elim h.is_skipped_to [ ]
  no_tail BeforeQuantifier q m h = elim h [ ]
  no_tail AfterTilde q m h = elim h [ ]

  no_end_in : (p : Position) (cs : Cells) (a : Flat) (m : Tokens) → LeftIn n p cs [] a m → ⊥
  no_end_in BeforeRow cs a m h = no_body h.is_body
  no_end_in (InCell left c) cs a m h = no_row h.is_row
  no_end_in (InTail p) cs a m h = no_tail p h.read m h.is_tail

  pub scanned_left : (s : State) (ts : Tokens) → Scanned (Left n s) ts (scan (next n) s ts)
  scanned_left s ts =
      scanned (next n) (Left n) (λ x t. follows_in x.position x.cells t) (λ x. alive_in x.position x.cells) (λ x a m h. no_end_in x.position x.cells a m h) s ts
