-- The tokens of a text (herd7's format of litmus tests): words, marks and comments.
use Rattle.std.specs.Prelude.{◌≡◌, ℕ, ◌+◌, ◌<◌, ◌≤◌, List, [], ◌∷◌, Option, Some, None, Bool, true, false, ◌==◌, ◌&&◌, if◌then◌else◌, length, map, take, drop}
use Rattle.std.specs.List.{prefix_len}
use Rattle.fs_litmus_tokens.specs.Bytes.{is_letter, is_blank, begins, tail, comment_end}
use Rattle.fs_litmus_tokens.specs.Words.{class_of}
use Rattle.fs_litmus_tokens.specs.declared.word.Class.{Class}
use Rattle.fs_litmus_tokens.specs.declared.token.Mark.{Mark}
use Rattle.fs_litmus_tokens.specs.declared.token.Mark.TheVariants as mark
use Rattle.fs_litmus_tokens.specs.declared.token.Kind.{Kind}
use Rattle.fs_litmus_tokens.specs.declared.token.Kind.TheVariants as kinds
use Rattle.fs_litmus_tokens.specs.declared.token.Token.{Token}
use Rattle.fs_litmus_tokens.specs.declared.token.Piece.{Piece}
use Rattle.fs_litmus_tokens.specs.declared.token.Piece.TheVariants as pieces

-- a token without its line
pub data Tok : Type 0 where
  Word : Class → List ℕ → Tok
  Sign : Mark → Tok
  Strange : Tok

-- a token with its line
abbrev pub Lined : Type 0
Lined = Tok × ℕ

-- the tokens alone
abbrev pub without_lines : List Lined → List Tok
without_lines ts = map (λ t. t.0) ts

abbrev pub word : List ℕ → Tok
word w = Word (class_of w) w

-- the mark that this byte is
abbrev pub mark_of : ℕ → Option Mark
mark_of b =
    if b == 123 then Some mark.OpenBrace
    else (if b == 125 then Some mark.CloseBrace
    else (if b == 59 then Some mark.Semicolon
    else (if b == 124 then Some mark.Bar
    else (if b == 44 then Some mark.Comma
    else (if b == 58 then Some mark.Colon
    else (if b == 61 then Some mark.Equals
    else (if b == 40 then Some mark.OpenParen
    else (if b == 41 then Some mark.CloseParen
    else (if b == 91 then Some mark.OpenBracket
    else (if b == 93 then Some mark.CloseBracket
    else (if b == 126 then Some mark.Tilde
    else (if b == 45 then Some mark.Minus
    else (if b == 42 then Some mark.Star
    else (if b == 38 then Some mark.Ampersand
    else (if b == 60 then Some mark.Less
    else (if b == 62 then Some mark.Greater
    else (if b == 33 then Some mark.Bang
    else None)))))))))))))))))

-- what stands at the front of a text: something to skip, with the bytes after it and their line; a token, with the
-- bytes after it; or a comment that isn't closed
pub data Front : Type 0 where
  Skip : List ℕ → ℕ → Front
  Take : Tok → List ℕ → Front
  Unclosed : Front

abbrev pub after_comment : Option (List ℕ × ℕ) → Front
after_comment None = Unclosed
after_comment (Some (rest, line)) = Skip rest line

-- a mark of one byte, or a character that belongs to no token
abbrev pub single : Option Mark → List ℕ → Front
single None bs = Take Strange bs
single (Some m) bs = Take (Sign m) bs

abbrev pub piece : ℕ → List ℕ → ℕ → Front
piece b bs line =
    if b == 10 then Skip bs (line + 1)
    else (if is_blank b then Skip bs line
    else (if is_letter b then Take (word (take (prefix_len is_letter (b ∷ bs)) (b ∷ bs))) (drop (prefix_len is_letter (b ∷ bs)) (b ∷ bs))
    else (if b == 47 && begins 92 bs then Take (Sign mark.And) (tail bs)
    else (if b == 92 && begins 47 bs then Take (Sign mark.Or) (tail bs)
    else (if b == 40 && begins 42 bs then after_comment (comment_end (tail bs) line)
    else single (mark_of b) bs)))))

-- fewer bytes are left than there were, and no more lines and bytes together
abbrev pub Shrinks : ℕ → ℕ → Front → Type 0
Shrinks line n (Skip rest next) = (length rest < n) × (next + length rest ≤ line + n)
Shrinks line n (Take t rest) = length rest < n
Shrinks line n Unclosed = Unit {0}

-- The bytes from this line on are these tokens with their lines; closed says that no comment is open at the end.
pub data AreTokens : List ℕ → ℕ → List Lined → Bool → Type 0 where
  none : {line : ℕ} → AreTokens [] line [] true
  skip : {b line next : ℕ} {bs rest : List ℕ} {ts : List Lined} {closed : Bool} → piece b bs line ≡ Skip rest next → AreTokens rest next ts closed → AreTokens (b ∷ bs) line ts closed
  token : {b line : ℕ} {bs rest : List ℕ} {t : Tok} {ts : List Lined} {closed : Bool} → piece b bs line ≡ Take t rest → AreTokens rest line ts closed → AreTokens (b ∷ bs) line ((t, line) ∷ ts) closed
  unclosed : {b line : ℕ} {bs : List ℕ} → piece b bs line ≡ Unclosed → AreTokens (b ∷ bs) line [] false

-- ---- what the reader's values stand for

abbrev pub kind_of : Kind → Tok
kind_of (kinds.Word c w) = Word c w.now
kind_of (kinds.Sign m) = Sign m
kind_of kinds.Strange = Strange

abbrev pub view : Token → Lined
view t = (kind_of t.kind, t.line)

abbrev pub views : List Token → List Lined
views ts = map view ts

abbrev pub piece_of : Piece → Front
piece_of (pieces.Skip rest line) = Skip rest.now line
piece_of (pieces.Take t rest) = Take (kind_of t) rest.now
piece_of pieces.Unclosed = Unclosed
