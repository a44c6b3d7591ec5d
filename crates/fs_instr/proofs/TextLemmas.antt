-- From the first tokens of a text to the text.
use Rattle.std.proofs.Common.{◌≡◌, ℕ, ◌<◌, List, [], ◌∷◌, Option, Bool, true, false, Result, Ok, Err, refl, sym, ap, ◌∙◌, subst, length, take, map, min, arith, ◌⊎◌, inl, inr}
use Rattle.std.proofs.lemmas.List.{take_all, length-take, take-map, take_min}
use Rattle.fs_litmus_tokens.specs.Tokens.{Tok, Lined, AreTokens, view, kind_of, without_lines}
use Rattle.fs_litmus_tokens.specs.declared.token.Token.{Token}
use Rattle.fs_litmus_tokens.specs.Few.{AreFirst, IsFew, are_plain}
use Rattle.fs_litmus_tokens.specs.declared.few.Few.{Few}
use Rattle.fs_instr.specs.Operands.{toks}
use Rattle.fs_instr.specs.Reading.{Outcome}
use Rattle.fs_instr.specs.Spelled.{Spells, IsUnsupported, IsUnknown, unknown, Answers}
use Rattle.fs_instr.specs.Texts.{HasTokens, SpellsText, IsNoForm, TextAnswers}
use Rattle.fs_instr.specs.declared.instr.Instr.{Instr}
use Rattle.fs_instr.specs.declared.reading.Refused.TheVariants.{Form, Name, Suffix}
use Rattle.fs_kinds.specs.declared.fault.Fault.{Fault}
use Rattle.fs_instr.specs.OfTable.{IsOfTable}
use Rattle.fs_instr.specs.declared.reading.Refused.{Refused}
use Rattle.fs_instr.proofs.OfTableLemmas.{spelled_of_table}
use Rattle.fs_instr.proofs.Lengths.{spelled_length, unsupported_length}
use Rattle.fs_instr.proofs.PlainTokens.{spelled_plain, unsupported_plain}

short : (W : List Tok) → length (take 20 W) < 20 → take 20 W ≡ W
short W h = take_all 20 W (omega (arith, length-take 20 W))

-- what holds of short lists alone holds of the kept tokens where it holds of all
whole : (P : List Tok → Type 0) → ((ts : List Tok) → P ts → length ts < 20) → (W kept : List Tok) → kept ≡ take 20 W → P kept → P W
whole P long W kept e h =
    let p = subst P e h in
    subst P (short W (long (take 20 W) p)) p

back : (P : List Tok → Type 0) → ((ts : List Tok) → P ts → length ts < 20) → (W kept : List Tok) → kept ≡ take 20 W → P W → P kept
back P long W kept e h =
    let n = long W h in
    let all = take_all 20 W (omega arith) in
    subst P (sym (e ∙ all)) h

unknown_front : {t : Tok} {ts us : List Tok} → IsUnknown (t ∷ ts) → IsUnknown (t ∷ us)
unknown_front (unknown e) = unknown e

unknown_whole : (W kept : List Tok) → kept ≡ take 20 W → IsUnknown kept → IsUnknown W
unknown_whole [] kept e h = subst IsUnknown e h
unknown_whole (t ∷ ts) kept e h = unknown_front (subst IsUnknown e h)

unknown_back : (W kept : List Tok) → kept ≡ take 20 W → IsUnknown W → IsUnknown kept
unknown_back [] kept e h = subst IsUnknown (sym e) h
unknown_back (t ∷ ts) kept e h = subst IsUnknown (sym e) (unknown_front h)

module _ (text : List ℕ) (all : List Lined) (kept : List Tok) (are : AreTokens text 0 all true) (no_other : (ts : List Lined) (d : Bool) → AreTokens text 0 ts d → (all ≡ ts) × (true ≡ d)) (first : kept ≡ take 20 (without_lines all)) (plain : are_plain (without_lines all) ≡ true) where
  from_text : (P : List Tok → Type 0) → HasTokens text P → P (without_lines all)
  from_text P h = subst (λ ts. P (without_lines ts)) (sym (no_other h.0 true h.1).0) h.2

  pub text_answers : (x : Outcome) → Answers kept x → TextAnswers text x
  text_answers (Ok x) h = (all, are, whole (λ ts. Spells ts x.0 x.1) (λ ts s. spelled_length s) _ kept first h)
  text_answers (Err Name) h = (all, are, (plain, unknown_whole _ kept first h))
  text_answers (Err Suffix) h = (all, are, whole IsUnsupported (λ ts s. unsupported_length s) _ kept first h)
  text_answers (Err Form) h = (
    λ i l s. h.0 i l (back (λ ts. Spells ts i l) (λ ts k. spelled_length k) _ kept first (from_text (λ ts. Spells ts i l) s)),
    λ s. h.1 (unknown_back _ kept first (from_text (λ ts. (are_plain ts ≡ true) × IsUnknown ts) s).1),
    λ s. h.2 (back IsUnsupported (λ ts k. unsupported_length k) _ kept first (from_text IsUnsupported s)),
  )

  pub text_only : (x : Outcome) → ((i : Instr) (l : Option (List ℕ)) → Spells kept i l → x ≡ Ok (i, l)) → (i : Instr) (l : Option (List ℕ)) → SpellsText text i l → x ≡ Ok (i, l)
  text_only x only i l s = only i l (back (λ ts. Spells ts i l) (λ ts k. spelled_length k) _ kept first (from_text (λ ts. Spells ts i l) s))

-- ---- the kept places

toks_lines : (xs : List Token) → toks xs ≡ without_lines (map view xs)
toks_lines [] = refl
toks_lines (x ∷ xs) = ap (λ l. kind_of x.kind ∷ l) (toks_lines xs)

lines_take : (n : ℕ) (ts : List Lined) → without_lines (take n ts) ≡ take n (without_lines ts)
lines_take n ts = sym (take-map (λ (t : Lined). t.0) n ts)

same_take : (xs : List Token) (n : ℕ) → length xs ≡ 20 → take (min n 20) xs ≡ take n xs
same_take xs n room = subst (λ k. take (min n k) xs ≡ take n xs) room (take_min n xs)

pub kept_first : (xs : List Token) (n : ℕ) (all : List Lined) (kept : List Token) → AreFirst xs n all → kept ≡ take (min n 20) xs → toks kept ≡ take 20 (without_lines all)
kept_first xs n all kept h e =
    ap toks (e ∙ same_take xs n h.room) ∙ toks_lines (take n xs) ∙ ap without_lines h.kept ∙ lines_take 20 all

closed_are : (text : List ℕ) (few : Few) (h : IsFew text few) → few.closed ≡ true → AreTokens text 0 h.all true
closed_are text few h e = subst (λ d. AreTokens text 0 h.all d) e h.are

closed_only : (text : List ℕ) (few : Few) (h : IsFew text few) → few.closed ≡ true → (ts : List Lined) (d : Bool) → AreTokens text 0 ts d → (h.all ≡ ts) × (true ≡ d)
closed_only text few h e ts d k = let both = h.only ts d k in (both.0, sym e ∙ both.1)

all_plain : (text : List ℕ) (few : Few) (h : IsFew text few) → few.plain ≡ true → are_plain (without_lines h.all) ≡ true
all_plain text few h e = sym h.plain ∙ e

few_kept : (text : List ℕ) (few : Few) (k : ℕ) (h : IsFew text few) → k ≡ min few.len 20 → toks (take k few.tokens) ≡ take 20 (without_lines h.all)
few_kept text few k h e = kept_first few.tokens few.len h.all (take k few.tokens) h.first (ap (λ n. take n few.tokens) e)

pub few_answers : (text bytes : List ℕ) (few : Few) (k : ℕ) (x : Outcome) → bytes ≡ text → IsFew bytes few → few.closed ≡ true → few.plain ≡ true → k ≡ min few.len 20 → Answers (toks (take k few.tokens)) x → TextAnswers text x
few_answers text bytes few k x same h e p n a =
    subst (λ t. TextAnswers t x) same (text_answers bytes h.all _ (closed_are bytes few h e) (closed_only bytes few h e) (few_kept bytes few k h n) (all_plain bytes few h p) x a)

pub few_only : (text bytes : List ℕ) (few : Few) (k : ℕ) (x : Outcome) → bytes ≡ text → IsFew bytes few → few.closed ≡ true → few.plain ≡ true → k ≡ min few.len 20 → ((i : Instr) (l : Option (List ℕ)) → Spells (toks (take k few.tokens)) i l → x ≡ Ok (i, l)) → (i : Instr) (l : Option (List ℕ)) → SpellsText text i l → x ≡ Ok (i, l)
few_only text bytes few k x same h e p n a i l s =
    text_only bytes h.all _ (closed_are bytes few h e) (closed_only bytes few h e) (few_kept bytes few k h n) (all_plain bytes few h p) x a i l (subst (λ t. SpellsText t i l) (sym same) s)

-- in a text that spells or names something each comment is closed, and each token is a word or a mark
few_fine : (text : List ℕ) (few : Few) (P : List Tok → Type 0) → ((ts : List Tok) → P ts → are_plain ts ≡ true) → IsFew text few → HasTokens text P → (few.closed ≡ true) × (few.plain ≡ true)
few_fine text few P plain h s =
    let same = h.only s.0 true s.1 in
    (same.1, h.plain ∙ ap (λ ts. are_plain (without_lines ts)) same.0 ∙ plain (without_lines s.0) s.2)

not_both : (c p : Bool) → (c ≡ false) ⊎ (p ≡ false) → (c ≡ true) × (p ≡ true) → ⊥
not_both c p (inl e) h = absurd (cc (h.0))
not_both c p (inr e) h = absurd (cc (h.1))

broken : (text : List ℕ) (few : Few) → IsFew text few → ((few.closed ≡ true) × (few.plain ≡ true) → ⊥) → IsNoForm text
broken text few h bad = (
  λ i l s. bad (few_fine text few (λ ts. Spells ts i l) (λ ts k. spelled_plain k) h s),
  λ s. bad (few_fine text few (λ ts. (are_plain ts ≡ true) × IsUnknown ts) (λ ts k. k.0) h s),
  λ s. bad (few_fine text few IsUnsupported (λ ts k. unsupported_plain k) h s),
)

pub few_broken : (text bytes : List ℕ) (few : Few) → bytes ≡ text → IsFew bytes few → (few.closed ≡ false) ⊎ (few.plain ≡ false) → IsNoForm text
few_broken text bytes few same h bad = subst IsNoForm same (broken bytes few h (not_both few.closed few.plain bad))

-- ---- with faults

pub text_of_table : {text : List ℕ} {i : Instr} {l : Option (List ℕ)} → SpellsText text i l → IsOfTable i
text_of_table h = spelled_of_table h.2

abbrev Read : Type 0
Read = Instr × Option (List ℕ)

abbrev ok : {E : Type 0} → Read → Result Read E
ok x = Ok x

pub with_faults : (x y : Read) → ok {E = Refused} x ≡ Ok y → ok {E = Fault} x ≡ Ok y
with_faults x y e = let same : x ≡ y = cc in ap ok same

abbrev refusal : Refused → Outcome
refusal e = Err e

pub no_fault : (refused : Refused) (fault : Fault) (x : Read) → refusal refused ≡ Ok x → (Err fault) ≡ ok {E = Fault} x
no_fault refused fault x e = absurd (cc)
