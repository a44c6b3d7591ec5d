-- Words that name labels of numbers, and the operands of an instruction.
use Rattle.std.proofs.Common.{rules, ◌≡◌, ◌≢◌, ◌<◌, ℕ, ◌+◌, length, Option, Some, None, MatchOption, option_map, List, [], ◌∷◌, ◌++◌, drop, get_or, refl, sym, ap, ◌∙◌, append_assoc, arith}
use denote.Ref.{Bor}
use Rattle.std.proofs.lemmas.Bool.Decides.{nat_tests}
use Rattle.std.proofs.lemmas.List.{map-append, at_drop_more}
use Rattle.fs_litmus_tokens.specs.Tokens.{Tok, kind_of, views}
use Rattle.fs_litmus_tokens.specs.declared.token.Token.{Token}
use Rattle.fs_instr.specs.Operands.{toks}
use Rattle.fs_litmus_syntax.specs.Numbered.{before_last, named, operands}

-- ---- the last byte

before_last_ends : (c : ℕ) (front : List ℕ) → before_last c (front ++ c ∷ []) ≡ Some front
before_last_ends c [] = grind (arith, nat_tests)
before_last_ends c (b ∷ []) = grind (arith, nat_tests)
before_last_ends c (b ∷ d ∷ front) = ap (option_map (λ front. b ∷ front)) (before_last_ends c (d ∷ front))

mapped_some : (b : ℕ) (o : Option (List ℕ)) (front : List ℕ) → option_map (λ front. b ∷ front) o ≡ Some front
    → (rest : List ℕ) × (o ≡ Some rest) × (front ≡ b ∷ rest)
mapped_some b None front e = absurd (cc)
mapped_some b (Some rest) front e = (rest, refl, search rules)

before_last_is : (c : ℕ) (bs front : List ℕ) → before_last c bs ≡ Some front → bs ≡ front ++ c ∷ []
before_last_is c [] front e = absurd (cc)
before_last_is c (b ∷ []) front e = grind (arith, nat_tests)
before_last_is c (b ∷ d ∷ bs) front e =
    let m = mapped_some b (before_last c (d ∷ bs)) front e in
    rw m.2 (ap (λ r. b ∷ r) (before_last_is c (d ∷ bs) m.0 m.1))

lacks_end : (c : ℕ) (bs : List ℕ) (o : Option (List ℕ)) → before_last c bs ≡ o → ((front : List ℕ) → bs ≢ front ++ (c ∷ [])) → o ≡ None
lacks_end c bs None e lacks = refl
lacks_end c bs (Some front) e lacks = absurd (lacks front (before_last_is c bs front e))

-- what `strip_suffix` gives
pub stripped : (c : ℕ) (bs : List ℕ) (r : Option (Bor (List ℕ)))
    → MatchOption r ((front : List ℕ) → bs ≢ front ++ (c ∷ [])) (λ x. bs ≡ x.now ++ (c ∷ []))
    → option_map (λ x. x.now) r ≡ before_last c bs
stripped c bs None lacks = sym (lacks_end c bs (before_last c bs) refl lacks)
stripped c bs (Some x) e = rw e (sym (before_last_ends c x.now))

-- ---- operands

-- one token more is named
pub name_more : (made new : List Token) (rest : List Token) (i : ℕ) (d x t : Token) (whole : List Tok) → i < length rest → get_or rest i d ≡ x → new ≡ made ++ t ∷ [] → kind_of t.kind ≡ named (kind_of x.kind)
    → toks made ++ operands (views (drop i rest)) ≡ whole → toks new ++ operands (views (drop (i + 1) rest)) ≡ whole
name_more made new rest i d x t whole low at pushed same before =
    let more = operands (views (drop (i + 1) rest)) in
    ap (λ l. toks l ++ more) pushed
    ∙ ap (λ l. l ++ more) (map-append (λ t. kind_of t.kind) made (t ∷ []))
    ∙ append_assoc (toks made) (kind_of t.kind ∷ []) more
    ∙ ap (λ k. toks made ++ k ∷ more) (same ∙ ap (λ y. named (kind_of y.kind)) (sym at))
    ∙ ap (λ l. toks made ++ l) (sym (at_drop_more (λ xs. operands (views xs)) rest i d low))
    ∙ before
