-- The condition has its tokens.
use Rattle.std.proofs.Common.{◌≡◌, ℕ, zero, suc, ◌<◌, ◌≤◌, ◌^◌, List, [], ◌∷◌, ◌++◌, true, false, refl, sym, subst, append_assoc, append-nil, length, arith, eqb}
use Rattle.std.proofs.lemmas.Bool.Decides.{nat_tests}
use Rattle.std.proofs.lemmas.Bool.{and_parts}
use Rattle.std.proofs.lemmas.Grind.{common_steps}
use Rattle.std.specs.Prelude.{IsTrue, codes}
use Rattle.std.specs.Fmt.{decimal}
use Rattle.fs_litmus_tokens.specs.Bytes.{is_letter, begins}
use Rattle.fs_litmus_tokens.specs.Tokens.{Tok, Sign}
use Rattle.fs_litmus_tokens.specs.declared.token.Mark.{Mark}
use Rattle.fs_litmus_tokens.specs.declared.token.Mark.TheVariants as mark
use Rattle.fs_instr.specs.PrintedTokens.{IsApart}
use Rattle.fs_instr.proofs.PrintedWords.{is_word, decimal_word}
use Rattle.fs_model.specs.Test.{is_name}
use Rattle.fs_model.specs.Condition.{Condition, Always, Never, RegisterIs, LocationIs, Deny, Both, Either, SpeaksOf}
use Rattle.fs_model.specs.Printed.{name_of, value_text, quantifier_text, condition_text}
use Rattle.fs_model.specs.declared.test.Location.{Location}
use Rattle.fs_model.specs.declared.test.Quantifier.{Quantifier}
use Rattle.fs_model.specs.declared.test.Quantifier.TheVariants.{Exists, NotExists, Forall}
use Rattle.fs_litmus.specs.inner.Written.{syntax_of, syntax_toks, quantifier_toks}
use Rattle.fs_litmus.proofs.PrintedBytes.{Prints, Opens, opened, then, then_open, closed_by, word_opens, blank, equals, tilde, close_paren, and_sign, or_sign, open_paren_tokens, cons_ascii}
use Rattle.fs_litmus.proofs.PrintedBytesValues.{AreNamed, first_of, rest_of, name_word, name_opens, value_opens, register_is_opens}

-- ---- what begins with no *

-- whatever follows it, the text begins with something other than *
abbrev BeginsPlain : List ℕ → Type 0
BeginsPlain text = (rest : List ℕ) → begins 42 (text ++ rest) ≡ false

more_plain : (a b : List ℕ) → BeginsPlain a → BeginsPlain (a ++ b)
more_plain a b h rest = subst (λ l. begins 42 l ≡ false) (sym (append_assoc a b rest)) (h (b ++ rest))

letter_plain : (b : ℕ) → is_letter b ≡ true → eqb b 42 ≡ false
letter_plain b e = grind (arith, nat_tests, common_steps)

word_plain : (w : List ℕ) → is_word w ≡ true → BeginsPlain w
word_plain [] e rest = absurd (cc)
word_plain (b ∷ bs) e rest = letter_plain b (and_parts _ _ e).0

-- ---- atoms

name_at : (ls : List Location) (location : ℕ) → location < length ls → AreNamed ls → IsTrue (is_name (name_of ls location))
name_at [] location small named = absurd (omega arith)
name_at (x ∷ xs) zero small named = first_of (λ x. IsTrue (is_name x.name)) x xs named
name_at (x ∷ xs) (suc location) small named = name_at xs location (omega arith) (rest_of (λ x. IsTrue (is_name x.name)) x xs named)

-- ---- parentheses

in_parentheses : (text : List ℕ) (toks : List Tok) → BeginsPlain text → Prints text toks → Prints (40 ∷ text) (Sign mark.OpenParen ∷ toks)
in_parentheses text toks plain p = record {
  ascii = cons_ascii 40 text (omega arith) p.ascii;
  tokens = λ rest more h. open_paren_tokens (text ++ rest) (toks ++ more) (plain rest) (p.tokens rest more h);
}

-- two conditions with a connective between them, in parentheses
joined_opens : (m : Mark) (a b between : List ℕ) (x y : List Tok) → BeginsPlain a → Opens a x → Opens b y → ((rest : List ℕ) → IsApart (between ++ rest)) → Prints between (Sign m ∷ []) → Opens (codes "(" ++ a ++ between ++ b ++ codes ")") (Sign mark.OpenParen ∷ ((x ++ Sign m ∷ y) ++ Sign mark.CloseParen ∷ []))
joined_opens m a b between x y plain p q apart sign =
    let inner : Prints (a ++ between ++ b ++ codes ")") ((x ++ Sign m ∷ []) ++ y ++ Sign mark.CloseParen ∷ []) = closed_by (then_open (closed_by p apart sign) q) (λ rest. refl) close_paren in
    let toks = subst (λ l. Prints (a ++ between ++ b ++ codes ")") (l ++ Sign mark.CloseParen ∷ [])) (append_assoc x (Sign m ∷ []) y) inner in
    opened (in_parentheses (a ++ between ++ b ++ codes ")") ((x ++ Sign m ∷ y) ++ Sign mark.CloseParen ∷ []) (more_plain (a ++ between ++ b) (codes ")") (more_plain (a ++ between) b (more_plain a between plain))) toks)

-- ---- conditions

module _ (ls : List Location) (named : AreNamed ls) (harts : ℕ) (few : harts ≤ 2 ^ 32) where
  plain : (c : Condition) → SpeaksOf harts (length ls) c → BeginsPlain (condition_text ls c)
  plain Always h = λ rest. refl
  plain Never h = λ rest. refl
  plain (RegisterIs hart reg w) h =
      let number : BeginsPlain (decimal hart) = word_plain (decimal hart) (decimal_word hart (omega (arith, h.0))) in
      more_plain (decimal hart ++ codes ":x" ++ decimal reg ++ codes "=") (value_text ls w) (more_plain (decimal hart ++ codes ":x" ++ decimal reg) (codes "=") (more_plain (decimal hart ++ codes ":x") (decimal reg) (more_plain (decimal hart) (codes ":x") number)))
  plain (LocationIs location w) h =
      let name : BeginsPlain (name_of ls location) = word_plain (name_of ls location) (name_word (name_of ls location) (name_at ls location h.0 named)) in
      more_plain (name_of ls location ++ codes "=") (value_text ls w) (more_plain (name_of ls location) (codes "=") name)
  plain (Deny c) h = λ rest. refl
  plain (Both c d) h = λ rest. refl
  plain (Either c d) h = λ rest. refl

  pub condition_opens : (c : Condition) → SpeaksOf harts (length ls) c → Opens (condition_text ls c) (syntax_toks (syntax_of ls c))
  condition_opens Always h = word_opens (codes "true") refl
  condition_opens Never h = word_opens (codes "false") refl
  condition_opens (RegisterIs hart reg w) h = register_is_opens ls named hart reg w (omega (arith, h.0)) (omega (arith, h.1)) h.2
  condition_opens (LocationIs location w) h = then_open (closed_by (name_opens (name_of ls location) (name_at ls location h.0 named)) (λ rest. refl) equals) (value_opens ls named w h.1)
  condition_opens (Deny c) h = then_open tilde (condition_opens c h)
  condition_opens (Both c d) h =
      joined_opens mark.And (condition_text ls c) (condition_text ls d) (codes " /\\ ") (syntax_toks (syntax_of ls c)) (syntax_toks (syntax_of ls d))
      (plain c h.0) (condition_opens c h.0) (condition_opens d h.1) (λ rest. refl) (then (then blank and_sign) blank)
  condition_opens (Either c d) h =
      joined_opens mark.Or (condition_text ls c) (condition_text ls d) (codes " \\/ ") (syntax_toks (syntax_of ls c)) (syntax_toks (syntax_of ls d))
      (plain c h.0) (condition_opens c h.0) (condition_opens d h.1) (λ rest. refl) (then (then blank or_sign) blank)

quantifier_opens : (q : Quantifier) → Opens (quantifier_text q) (quantifier_toks q)
quantifier_opens Exists = word_opens (codes "exists") refl
quantifier_opens NotExists = then_open tilde (word_opens (codes "exists") refl)
quantifier_opens Forall = word_opens (codes "forall") refl

pub quantifier_prints : (q : Quantifier) → Prints (quantifier_text q ++ codes " ") (quantifier_toks q)
quantifier_prints q = subst (Prints (quantifier_text q ++ codes " ")) (append-nil (quantifier_toks q)) (closed_by (quantifier_opens q) (λ rest. refl) blank)
