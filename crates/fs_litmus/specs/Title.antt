-- What stands before the tokens of a test file (herd7's format of litmus tests): lines of blanks and comments, a line
-- with the architecture and the test's name, and lines of doc text up to the block of initial values.
use Rattle.std.specs.Prelude.{◌≡◌, ◌≢◌, ℕ, ◌+◌, ◌-◌, length, count_by, List, [], ◌∷◌, ◌++◌, Bool, true, false, Option, Some, None, ◌==◌, ◌&&◌, codes, drop, take, not, if◌then◌else◌}
use Rattle.std.specs.List.{prefix_len, list_all}
use Rattle.fs_litmus_tokens.specs.Bytes.{is_blank, begins}

abbrev pub is_within_line : ℕ → Bool
is_within_line b = not (b == 10)

-- the bytes up to the first LF, or all
abbrev pub line_of : List ℕ → List ℕ
line_of bs = take (prefix_len is_within_line bs) bs

-- the bytes after the first LF; nothing where there is none
abbrev pub after_line : List ℕ → Option (List ℕ)
after_line [] = None
after_line (b ∷ bs) = if b == 10 then Some bs else after_line bs

-- the number of the last line, where the first is line 1; an LF at the end of the text begins none
abbrev pub last_line : List ℕ → ℕ
last_line bs = count_by (λ b. b == 10) (take (length bs - 1) bs) + 1

-- the bytes without the blanks at their front
abbrev pub unindented : List ℕ → List ℕ
unindented bs = drop (prefix_len is_blank bs) bs

abbrev pub ends_in_blank : List ℕ → Bool
ends_in_blank [] = false
ends_in_blank (b ∷ []) = is_blank b
ends_in_blank (b ∷ c ∷ bs) = ends_in_blank (c ∷ bs)

abbrev pub begins_with_blank : List ℕ → Bool
begins_with_blank [] = false
begins_with_blank (b ∷ bs) = is_blank b

-- What stands below the lines at the top that have nothing but blanks and comments, and the number of its first line.
-- The bytes stand in this line, so many comments are open before them, and the first is the second of a (* or *), or
-- isn't; top is the last line that began outside comments.
abbrev pub top_from : ℕ → Bool → List ℕ → ℕ → List ℕ × ℕ → List ℕ × ℕ
top_from depth second [] line top = top
top_from depth true (b ∷ bs) line top = top_from depth false bs line top
top_from depth false (b ∷ bs) line top =
    if b == 10 then top_from depth false bs (line + 1) (if depth == 0 then (bs, line + 1) else top)
    else (if b == 40 && begins 42 bs then top_from (depth + 1) true bs line top
    else (if depth == 0 then (if is_blank b then top_from depth false bs line top else top)
    else (if b == 42 && begins 41 bs then top_from (depth - 1) true bs line top
    else top_from depth false bs line top)))

-- the title's line with all below it, and its number
abbrev pub top_of : List ℕ → List ℕ × ℕ
top_of bytes = top_from 0 false bytes 1 (bytes, 1)

-- the text is what stands between blanks, and neither begins nor ends with one
pub record IsTrimmed (line text : List ℕ) : Type 0 where
  pub before : List ℕ
  pub after : List ℕ
  pub split : line ≡ before ++ text ++ after
  pub blank_before : list_all is_blank before ≡ true
  pub blank_after : list_all is_blank after ≡ true
  pub first : begins_with_blank text ≡ false
  pub last : ends_in_blank text ≡ false

-- the first line is RISCV, a blank and a name: the rest of the line, blanks cut off at both ends, not empty
pub record IsTitled (text name : List ℕ) : Type 0 where
  pub blank : ℕ
  pub is_blank : is_blank blank ≡ true
  pub words : List ℕ
  pub line : line_of text ≡ codes "RISCV" ++ blank ∷ words
  pub trimmed : IsTrimmed words name
  pub some : name ≢ []

-- the file has this title, below lines of blanks and comments alone
abbrev pub HasTitle : List ℕ → List ℕ → Type 0
HasTitle bytes name = IsTitled (top_of bytes).0 name

-- The text from this line on is dropped up to the first line whose first character past blanks is {. The body begins
-- with it.
pub data IsBody : List ℕ → ℕ → List ℕ → ℕ → Type 0 where
  here : {bs : List ℕ} {line : ℕ} → begins 123 (unindented bs) ≡ true → IsBody bs line (unindented bs) line
  later : {bs rest body : List ℕ} {line at : ℕ} → begins 123 (unindented bs) ≡ false → after_line bs ≡ Some rest → IsBody rest (line + 1) body at → IsBody bs line body at

-- the body of the file, below the title's line, and the number of the line that it begins in
pub record HasBody (bytes body : List ℕ) (line : ℕ) : Type 0 where
  pub doc : List ℕ
  pub after_title : after_line (top_of bytes).0 ≡ Some doc
  pub is_body : IsBody doc ((top_of bytes).1 + 1) body line
