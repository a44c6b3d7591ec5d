-- Lines that are no title.
use Rattle.std.proofs.Common.{◌≡◌, ℕ, List, [], ◌∷◌, ◌++◌, length, drop, true, false, refl, sym, ap, ◌∙◌, subst, append-nil, arith, codes, IsUtf8, Result, Ok, Err, MatchResult, is_ok}
use Rattle.std.specs.List.{list_all}
use Rattle.fs_litmus_tokens.specs.Bytes.{is_blank}
use Rattle.fs_litmus.specs.Title.{line_of, begins_with_blank, IsTrimmed, IsTitled}
use Rattle.fs_litmus.proofs.Bools.{both, both_true}

all_blank : (before text after : List ℕ) → list_all is_blank (before ++ text ++ after) ≡ true → begins_with_blank text ≡ false → text ≡ []
all_blank [] [] after h f = refl
all_blank [] (b ∷ bs) after h f = absurd (cc)
all_blank (b ∷ before) text after h f = all_blank before text after (both (is_blank b) _ h).1 f

all_joined : (xs ys : List ℕ) → list_all is_blank xs ≡ true → list_all is_blank ys ≡ true → list_all is_blank (xs ++ ys) ≡ true
all_joined [] ys h k = k
all_joined (x ∷ xs) ys h k = both_true (is_blank x) _ (both (is_blank x) _ h).0 (all_joined xs ys (both (is_blank x) _ h).1 k)

-- words of blanks alone have no name
pub only_blanks : (words text name : List ℕ) → length text ≡ 0 → IsTrimmed words text → IsTrimmed words name → name ≡ []
only_blanks words [] name e h k =
    let line : words ≡ h.before ++ h.after = h.split ∙ ap (λ l. l ++ h.after) (append-nil h.before) in
    let blank = subst (λ l. list_all is_blank l ≡ true) (sym line ∙ k.split) (all_joined h.before h.after h.blank_before h.blank_after) in
    all_blank k.before name k.after blank k.first
only_blanks words (b ∷ bs) name e h k = absurd (omega arith)

past_word : (blank : ℕ) (words : List ℕ) → drop 5 (codes "RISCV" ++ blank ∷ words) ≡ blank ∷ words
past_word blank words = refl

same_rest : (a b : ℕ) (xs ys : List ℕ) → a ∷ xs ≡ b ∷ ys → xs ≡ ys
same_rest a b xs ys e = cc

-- a line whose words are blanks is no title
pub untitled : (bytes line words rest text name : List ℕ) (blank : ℕ) → line ≡ line_of bytes → words ≡ drop 5 line → words ≡ blank ∷ rest → length text ≡ 0 → IsTrimmed rest text → IsTitled bytes name → ⊥
untitled bytes line words rest text name blank at cut split none trimmed h =
    let all : blank ∷ rest ≡ h.blank ∷ h.words = sym split ∙ cut ∙ ap (drop 5) (at ∙ h.line) ∙ past_word h.blank h.words in
    let same = same_rest blank h.blank rest h.words all in
    h.some (only_blanks h.words text name none (subst (λ l. IsTrimmed l text) same trimmed) h.trimmed)

-- what is UTF-8 is a text
pub is_text : {S E : Type 0} (P : S → Type 0) (Q : E → Type 0) (bytes : List ℕ) (r : Result S E) → MatchResult r P (λ e. ¬ IsUtf8 bytes × Q e) → IsUtf8 bytes → is_ok r ≡ true
is_text P Q bytes (Ok s) h u = refl
is_text P Q bytes (Err e) h u = absurd (h.0 u)
