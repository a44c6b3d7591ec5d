-- The title's line and the body stand at the end of a file, and their lines have no greater numbers than bytes stand
-- before them, and one.
use Rattle.std.proofs.Common.{◌≡◌, ℕ, ◌+◌, ◌-◌, ◌<◌, ◌≤◌, List, [], ◌∷◌, ◌++◌, Bool, true, false, cond, ◌&&◌, ◌==◌, Some, None, refl, sym, ap, ◌∙◌, subst, length, length-append, take, drop, append_assoc, arith, eqb-true, IsUtf8}
use Rattle.std.specs.List.{prefix_len}
use Rattle.std.proofs.lemmas.List.{take-append-drop}
use Rattle.std.proofs.Math.Seq.{drop-append_seam}
use Rattle.fs_litmus_tokens.specs.Bytes.{is_blank, begins}
use Rattle.fs_litmus.specs.Title.{after_line, unindented, top_from, top_of, IsBody, here, later, HasBody}
use Rattle.fs_litmus.proofs.Utf8Pieces.{utf8_after}

-- the text is the end of the bytes, and the number of its line isn't too great
pub record IsEndOf (bytes text : List ℕ) (line : ℕ) : Type 0 where
  pub above : List ℕ
  pub split : bytes ≡ above ++ text
  pub few : line ≤ length above + 1

-- it is UTF-8 where the bytes are
pub record IsBelow (bytes : List ℕ) (top : List ℕ × ℕ) : Type 0 where
  pub is_end : IsEndOf bytes top.0 top.1
  pub utf8 : IsUtf8 bytes → IsUtf8 top.0

-- ---- the title's line

either : {A : Type 0} (P : A → Type 0) (b : Bool) (x y : A) → (b ≡ true → P x) → (b ≡ false → P y) → P (cond b x y)
either P true x y p q = p refl
either P false x y p q = q refl

one_on : (bytes above bs : List ℕ) (b : ℕ) → bytes ≡ above ++ b ∷ bs → bytes ≡ (above ++ b ∷ []) ++ bs
one_on bytes above bs b e = e ∙ sym (append_assoc above (b ∷ []) bs)

one_longer : (above : List ℕ) (b : ℕ) → length (above ++ b ∷ []) ≡ length above + 1
one_longer above b = length-append above (b ∷ [])

still_few : (above : List ℕ) (b line : ℕ) → line ≤ length above + 1 → line ≤ length (above ++ b ∷ []) + 1
still_few above b line few = let same = one_longer above b in omega (arith, same, few)

next_few : (above : List ℕ) (b line : ℕ) → line ≤ length above + 1 → line + 1 ≤ length (above ++ b ∷ []) + 1
next_few above b line few = let same = one_longer above b in omega (arith, same, few)

-- behind an LF
line_below : (bytes above bs : List ℕ) (b line : ℕ) → bytes ≡ above ++ b ∷ bs → b ≡ 10 → line ≤ length above + 1 → IsBelow bytes (bs, line + 1)
line_below bytes above bs b line e feed few =
    let low : b < 128 = omega (arith, feed) in
    record {
      is_end = record { above = above ++ b ∷ []; split = one_on bytes above bs b e; few = next_few above b line few };
      utf8 = λ u. utf8_after above bs b low (subst IsUtf8 e u);
    }

below_from : (bytes above bs : List ℕ) (depth line : ℕ) (second : Bool) (top : List ℕ × ℕ) → bytes ≡ above ++ bs → line ≤ length above + 1 → IsBelow bytes top → IsBelow bytes (top_from depth second bs line top)
below_from bytes above [] depth line second top e few h = h
below_from bytes above (b ∷ bs) depth line true top e few h =
    below_from bytes (above ++ b ∷ []) bs depth line false top (one_on bytes above bs b e) (still_few above b line few) h
below_from bytes above (b ∷ bs) depth line false top e few h =
    let split = one_on bytes above bs b e in
    let same = still_few above b line few in
    either (IsBelow bytes) (b == 10) _ _
    (λ feed. below_from bytes (above ++ b ∷ []) bs depth (line + 1) false (cond (depth == 0) (bs, line + 1) top) split (next_few above b line few)
    (either (IsBelow bytes) (depth == 0) _ _ (λ out. line_below bytes above bs b line e (eqb-true b 10 feed) few) (λ within. h)))
    (λ other. either (IsBelow bytes) (b == 40 && begins 42 bs) _ _
    (λ opens. below_from bytes (above ++ b ∷ []) bs (depth + 1) line true top split same h)
    (λ other. either (IsBelow bytes) (depth == 0) _ _
    (λ out. either (IsBelow bytes) (is_blank b) _ _ (λ blank. below_from bytes (above ++ b ∷ []) bs depth line false top split same h) (λ text. h))
    (λ within. either (IsBelow bytes) (b == 42 && begins 41 bs) _ _
    (λ closes. below_from bytes (above ++ b ∷ []) bs (depth - 1) line true top split same h)
    (λ other. below_from bytes (above ++ b ∷ []) bs depth line false top split same h))))

pub top_below : (bytes : List ℕ) → IsBelow bytes (top_of bytes)
top_below bytes =
    let whole : IsEndOf bytes bytes 1 = record { above = []; split = refl; few = omega arith } in
    below_from bytes [] bytes 0 1 false (bytes, 1) refl (omega arith) (record { is_end = whole; utf8 = λ u. u })

-- ---- the body

line_step : (b : ℕ) (bs rest : List ℕ) (r : Bool) → (b == 10) ≡ r → ((after_line bs ≡ Some rest) → (line : List ℕ) × (bs ≡ line ++ rest) × (1 ≤ length line)) → cond r (Some bs) (after_line bs) ≡ Some rest → (line : List ℕ) × (b ∷ bs ≡ line ++ rest) × (1 ≤ length line)
line_step b bs rest true e cut h =
    let same : bs ≡ rest = cc in
    (b ∷ [], ap (λ l. b ∷ l) same, omega arith)
line_step b bs rest false e cut h =
    let more = cut h in
    (b ∷ more.0, ap (λ l. b ∷ l) more.1, omega arith)

line_cut : (bs rest : List ℕ) → after_line bs ≡ Some rest → (line : List ℕ) × (bs ≡ line ++ rest) × (1 ≤ length line)
line_cut [] rest h = absurd (cc)
line_cut (b ∷ bs) rest h = line_step b bs rest (b == 10) refl (line_cut bs rest) h

past : (bytes above line rest : List ℕ) (bs : List ℕ) → bytes ≡ above ++ bs → bs ≡ line ++ rest → bytes ≡ (above ++ line) ++ rest
past bytes above line rest bs e f = e ∙ ap (λ l. above ++ l) f ∙ sym (append_assoc above line rest)

body_end : {bs body : List ℕ} {line at : ℕ} (bytes above : List ℕ) → bytes ≡ above ++ bs → line ≤ length above + 1 → IsBody bs line body at → IsEndOf bytes body at
body_end bytes above e few (here {bs = bs} {line = line} brace) =
    let indent = take (prefix_len is_blank bs) bs in
    let longer = length-append above indent in
    record {
      above = above ++ indent;
      split = past bytes above indent (unindented bs) bs e (sym (take-append-drop (prefix_len is_blank bs) bs));
      few = omega (arith, longer, few);
    }
body_end bytes above e few (later {bs = bs} {rest = rest} {line = line} other below h) =
    let cut = line_cut bs rest below in
    let longer = length-append above cut.0 in
    let some = cut.2 in
    body_end bytes (above ++ cut.0) (past bytes above cut.0 rest bs e cut.1) (omega (arith, longer, some, few)) h

pub body_ends : (bytes body : List ℕ) (line : ℕ) → HasBody bytes body line → IsEndOf bytes body line
body_ends bytes body line h =
    let top = (top_below bytes).is_end in
    let cut = line_cut (top_of bytes).0 h.doc h.after_title in
    let longer = length-append top.above cut.0 in
    let some = cut.2 in
    let few = top.few in
    body_end bytes (top.above ++ cut.0) (past bytes top.above cut.0 h.doc (top_of bytes).0 top.split cut.1) (omega (arith, longer, some, few)) h.is_body

-- the end of the bytes begins at this offset
pub end_at : (bytes text : List ℕ) (line : ℕ) → IsEndOf bytes text line → text ≡ drop (length bytes - length text) bytes
end_at bytes text line h =
    let all : length bytes ≡ length h.above + length text = ap length h.split ∙ length-append h.above text in
    let offset : length h.above ≡ length bytes - length text = omega (arith, all) in
    sym (drop-append_seam h.above text) ∙ ap (λ l. drop (length h.above) l) (sym h.split) ∙ ap (λ n. drop n bytes) offset

pub end_within : (bytes text : List ℕ) (line : ℕ) → IsEndOf bytes text line → (length text ≤ length bytes) × (line ≤ length bytes - length text + 1)
end_within bytes text line h =
    let all : length bytes ≡ length h.above + length text = ap length h.split ∙ length-append h.above text in
    let few = h.few in
    (omega (arith, all), omega (arith, all, few))

-- ---- below the title's line

module _ (bytes text : List ℕ) (line : ℕ) (is_top : (text, line) ≡ top_of bytes) where
  pub body_of : (doc body : List ℕ) (at : ℕ) → Some doc ≡ after_line text → IsBody doc (line + 1) body at → HasBody bytes body at
  body_of doc body at below h =
      record {
        doc = doc;
        after_title = ap (λ x. after_line x.0) (sym is_top) ∙ sym below;
        is_body = subst (λ x. IsBody doc (x.1 + 1) body at) is_top h;
      }

  pub body_below : (doc body : List ℕ) (at : ℕ) → Some doc ≡ after_line text → HasBody bytes body at → IsBody doc (line + 1) body at
  body_below doc body at below h =
      let its : after_line text ≡ Some h.doc = ap (λ x. after_line x.0) is_top ∙ h.after_title in
      let same : h.doc ≡ doc = cc in
      subst (λ d. IsBody d (line + 1) body at) same (subst (λ x. IsBody h.doc (x.1 + 1) body at) (sym is_top) h.is_body)

  pub no_body : None ≡ after_line text → (body : List ℕ) (at : ℕ) → HasBody bytes body at → ⊥
  no_body none body at h =
      let its : after_line text ≡ Some h.doc = ap (λ x. after_line x.0) is_top ∙ h.after_title in
      absurd (cc)
