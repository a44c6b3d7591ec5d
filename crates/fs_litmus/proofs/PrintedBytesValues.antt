-- The block of initial values has the tokens of its bindings.
use Rattle.std.proofs.Common.{◌≡◌, ℕ, zero, suc, ◌+◌, ◌<◌, ◌≤◌, ◌^◌, List, [], ◌∷◌, ◌++◌, Bool, true, false, cond, ◌||◌, refl, sym, subst, append_assoc, length, arith, eqb}
use Rattle.std.proofs.lemmas.Bool.Decides.{nat_tests}
use Rattle.std.proofs.lemmas.Bool.{and_parts}
use Rattle.std.proofs.lemmas.Grind.{common_steps, flat_map-append}
use Rattle.std.proofs.lemmas.List.Folds.{flat_map-map}
use Rattle.std.proofs.lemmas.List.Elements.{All-filter}
use Rattle.std.specs.Prelude.{All, IsTrue, codes, map}
use Rattle.std.specs.Char.{is_ascii_alphabetic, is_ascii_alphanumeric}
use Rattle.std.specs.List.{flat_map, enumerate_from, list_all}
use Rattle.std.specs.Fmt.{decimal}
use Rattle.fs_litmus_tokens.specs.Bytes.{is_letter}
use Rattle.fs_litmus_tokens.specs.Tokens.{Tok, Sign, word}
use Rattle.fs_litmus_tokens.specs.declared.token.Mark.TheVariants as mark
use Rattle.fs_litmus_tokens.specs.Values.{Value, Address}
use Rattle.fs_instr.proofs.PrintedWords.{all_letters, is_word, decimal_word, lettered_word}
use Rattle.fs_model.specs.Test.{is_name, IsStart, address_of}
use Rattle.fs_model.specs.declared.test.Location.{Location}
use Rattle.fs_model.specs.Printed.{value_from, value_text, location_text, locations_text, register_is, register_text, set_registers, start_text, starts_text, line_of}
use Rattle.fs_litmus.specs.inner.Written as written
use Rattle.fs_litmus.specs.inner.Written.{entry_toks, binding_toks, value_toks, location_binding, register_binding, start_bindings}
use Rattle.fs_litmus.proofs.PrintedBytes.{Prints, Opens, nothing, opened, then, then_open, closed_by, parted_from, word_opens, blank, semicolon, colon, equals, ended_line}

-- ---- lists

pub first_of : {X : Type 0} (P : X → Type 0) (x : X) (xs : List X) → All P (x ∷ xs) → P x
first_of P x xs h = h zero x (omega arith)

pub rest_of : {X : Type 0} (P : X → Type 0) (x : X) (xs : List X) → All P (x ∷ xs) → All P xs
rest_of P x xs h k d below = h (suc k) d (omega arith)

-- ---- names

name_first : (c : ℕ) → (is_ascii_alphabetic c || eqb c 95) ≡ true → is_letter c ≡ true
name_first c e = grind (arith, nat_tests, common_steps)

name_next : (c : ℕ) → (is_ascii_alphanumeric c || eqb c 95) ≡ true → is_letter c ≡ true
name_next c e = grind (arith, nat_tests, common_steps)

name_rest : (cs : List ℕ) → list_all (λ d. is_ascii_alphanumeric d || eqb d 95) cs ≡ true → all_letters cs ≡ true
name_rest [] e = refl
name_rest (c ∷ cs) e =
    let both = and_parts _ _ e in
    rw (name_next c both.0) (name_rest cs both.1)

pub name_word : (w : List ℕ) → IsTrue (is_name w) → is_word w ≡ true
name_word [] e = absurd (cc)
name_word (c ∷ cs) e =
    let both = and_parts _ _ e in
    rw (name_first c both.0) (name_rest cs both.1)

-- ---- values

-- the locations have names
abbrev pub AreNamed : List Location → Type 0
AreNamed ls = All (λ x. IsTrue (is_name x.name)) ls

number_opens : (n : ℕ) → n < 2 ^ 32 → Opens (decimal n) (word (decimal n) ∷ [])
number_opens n small = word_opens (decimal n) (decimal_word n small)

pub name_opens : (w : List ℕ) → IsTrue (is_name w) → Opens w (word w ∷ [])
name_opens w e = word_opens w (name_word w e)

either_opens : (c : Bool) (a b : List ℕ) (v u : Value) → Opens a (value_toks v) → Opens b (value_toks u) → Opens (cond c a b) (value_toks (cond c v u))
either_opens true a b v u p q = p
either_opens false a b v u p q = q

from_opens : (location : ℕ) (ls : List Location) (w : ℕ) → AreNamed ls → w < 2 ^ 32 → Opens (value_from location ls w) (value_toks (written.value_from location ls w))
from_opens location [] w named small = number_opens w small
from_opens location (x ∷ xs) w named small =
    either_opens (eqb (address_of location) w) x.name (value_from (location + 1) xs w) (Address x.name) (written.value_from (location + 1) xs w)
    (name_opens x.name (first_of (λ x. IsTrue (is_name x.name)) x xs named))
    (from_opens (location + 1) xs w (rest_of (λ x. IsTrue (is_name x.name)) x xs named) small)

-- ---- bindings

register_opens : (hart reg : ℕ) → hart < 2 ^ 32 → reg < 2 ^ 32 → Opens (decimal hart ++ codes ":x" ++ decimal reg) (word (decimal hart) ∷ Sign mark.Colon ∷ word (120 ∷ decimal reg) ∷ [])
register_opens hart reg h r =
    let toks : List Tok = word (decimal hart) ∷ Sign mark.Colon ∷ word (120 ∷ decimal reg) ∷ [] in
    subst (λ l. Opens l toks) (sym (append_assoc (decimal hart) (codes ":x") (decimal reg)))
    (parted_from (number_opens hart h) (λ rest. refl) (then_open colon (word_opens (120 ∷ decimal reg) (lettered_word 120 reg refl r))))

module _ (ls : List Location) (named : AreNamed ls) where
  pub value_opens : (w : ℕ) → w < 2 ^ 32 → Opens (value_text ls w) (value_toks (written.written_value ls w))
  value_opens w small = from_opens 0 ls w named small

  pub register_is_opens : (hart reg w : ℕ) → hart < 2 ^ 32 → reg < 2 ^ 32 → w < 2 ^ 32 → Opens (register_is ls hart (reg, w)) (binding_toks (register_binding ls hart (reg, w)))
  register_is_opens hart reg w h r small = then_open (closed_by (register_opens hart reg h r) (λ rest. refl) equals) (value_opens w small)

  register_prints : (hart reg w : ℕ) → hart < 2 ^ 32 → reg < 2 ^ 32 → w < 2 ^ 32 → Prints (register_text ls hart (reg, w)) (entry_toks (register_binding ls hart (reg, w)))
  register_prints hart reg w h r small = closed_by (register_is_opens hart reg w h r small) (λ rest. refl) semicolon

location_prints : (x : Location) → IsTrue (is_name x.name) → x.word < 2 ^ 32 → Prints (location_text x) (entry_toks (location_binding x))
location_prints x named small = closed_by (then_open (closed_by (name_opens x.name named) (λ rest. refl) equals) (number_opens x.word small)) (λ rest. refl) semicolon

-- ---- lines

module _ {X : Type 0} (f : X → List ℕ) (g : X → List Tok) where
  later_prints : (xs : List X) → All (λ x. Prints (f x) (g x)) xs → Prints (flat_map (λ y. codes " " ++ y) (map f xs)) (flat_map g xs)
  later_prints [] h = nothing
  later_prints (x ∷ xs) h = then (then blank (first_of (λ x. Prints (f x) (g x)) x xs h)) (later_prints xs (rest_of (λ x. Prints (f x) (g x)) x xs h))

  line_prints : (xs : List X) → All (λ x. Prints (f x) (g x)) xs → Prints (line_of (map f xs)) (flat_map g xs)
  line_prints [] h = nothing
  line_prints (x ∷ xs) h = ended_line (opened (then (first_of (λ x. Prints (f x) (g x)) x xs h) (later_prints xs (rest_of (λ x. Prints (f x) (g x)) x xs h))))

pub locations_print : (ls : List Location) → AreNamed ls → All (λ x. x.word < 2 ^ 32) ls → Prints (locations_text ls) (flat_map entry_toks (map location_binding ls))
locations_print ls named small =
    subst (Prints (locations_text ls)) (sym (flat_map-map entry_toks location_binding ls))
    (line_prints location_text (λ x. entry_toks (location_binding x)) ls (λ k d below. location_prints _ (named k d below) (small k d below)))

abbrev IsSmall : ℕ × ℕ → Type 0
IsSmall numbered = (numbered.0 < 2 ^ 32) × (numbered.1 < 2 ^ 32)

numbered_small : (k : ℕ) (ws : List ℕ) → All (λ w. w < 2 ^ 32) ws → k + length ws ≤ 2 ^ 32 → All IsSmall (enumerate_from k ws)
numbered_small k [] h few i d below = absurd (omega arith)
numbered_small k (w ∷ ws) h few zero d below = (omega arith, first_of (λ w. w < 2 ^ 32) w ws h)
numbered_small k (w ∷ ws) h few (suc i) d below = numbered_small (k + 1) ws (rest_of (λ w. w < 2 ^ 32) w ws h) (omega arith) i d (omega arith)

module _ (ls : List Location) (named : AreNamed ls) where
  start_prints : (hart : ℕ) (ws : List ℕ) → hart < 2 ^ 32 → IsStart ws → Prints (start_text ls (hart, ws)) (flat_map entry_toks (start_bindings ls (hart, ws)))
  start_prints hart ws h start =
      let small : All IsSmall (set_registers ws) = All-filter _ IsSmall (enumerate_from 0 ws) (numbered_small 0 ws start.fit (omega (arith, start.registers))) in
      subst (Prints (start_text ls (hart, ws))) (sym (flat_map-map entry_toks (register_binding ls hart) (set_registers ws)))
      (line_prints (register_text ls hart) (λ n. entry_toks (register_binding ls hart n)) (set_registers ws) (λ k d below. register_prints ls named hart _ _ h (small k d below).0 (small k d below).1))

  from_prints : (hart : ℕ) (starts : List (List ℕ)) → hart + length starts ≤ 2 ^ 32 → All IsStart starts → Prints (flat_map (start_text ls) (enumerate_from hart starts)) (flat_map entry_toks (flat_map (start_bindings ls) (enumerate_from hart starts)))
  from_prints hart [] few all = nothing
  from_prints hart (ws ∷ rest) few all =
      let later = from_prints (hart + 1) rest (omega arith) (rest_of IsStart ws rest all) in
      subst (Prints (flat_map (start_text ls) (enumerate_from hart (ws ∷ rest)))) (sym (flat_map-append entry_toks (start_bindings ls (hart, ws)) (flat_map (start_bindings ls) (enumerate_from (hart + 1) rest))))
      (then (start_prints hart ws (omega arith) (first_of IsStart ws rest all)) later)

  pub starts_print : (starts : List (List ℕ)) → length starts ≤ 2 ^ 32 → All IsStart starts → Prints (starts_text ls starts) (flat_map entry_toks (flat_map (start_bindings ls) (enumerate_from 0 starts)))
  starts_print starts few all = from_prints 0 starts (omega arith) all
