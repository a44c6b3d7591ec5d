-- The names of a test are those of its memory instructions.
use Rattle.std.proofs.Common.{◌≡◌, ℕ, suc, ◌+◌, ◌<◌, inl, inr, true, Some, List, [], ◌∷◌, length, get_or, filter, refl, sym, ◌∙◌, ap, subst, arith}
use Rattle.std.specs.List.{Contains, enumerate_from, flat_map}
use Rattle.std.proofs.lemmas.Bool.{false≢true, cases_lt}
use Rattle.std.proofs.lemmas.List.{get_or_past, get_or-map, length-map}
use Rattle.std.proofs.lemmas.List.Elements.{Contains-append_cases, filter_passes}
use Rattle.std.proofs.lemmas.List.FromFn.{length-enumerate_from, get_or-enumerate_from}
use Rattle.std.proofs.lemmas.Option.{slice_get-get_or}
use Rattle.fs_instr.specs.declared.instr.Instr.{Instr}
use Rattle.fs_kinds.specs.declared.reason.OperationName.{OperationName as Name}
use Rattle.fs_model.specs.declared.test.Test.{Test}
use Rattle.fs_model.specs.Execution.{code_of}
use Rattle.fs_model.specs.Numbers.{numbers_below}
use Rattle.fs_model.specs.Slots.{is_memory_at}
use Rattle.fs_model.proofs.AccessSteps.{is_memory_at-past}
use Rattle.fs_cert_evidence.specs.Regions.{names_in, names}
use Rattle.fs_cert_evidence.specs.Trees.{is_name}
use Rattle.fs_verdict_laws.proofs.Lists.{in_filter, in_numbered}
use Rattle.fs_values.proofs.Contained.{none_in, in_map, in_parts}
use Rattle.fs_verdict_laws.proofs.Names.{number_in}

-- ---- the name of a memory instruction is one of them

memory_low : (code : List Instr) (at : ℕ) → is_memory_at code at ≡ true → at < length code
memory_low code at e = elim (cases_lt at (length code)) [
  | inl low ↦ low
  | inr past ↦ absurd (false≢true (sym (is_memory_at-past code at past) ∙ e))
]

hart_low : (t : Test) (n : Name) → is_name t n ≡ true → n.hart < length t.codes
hart_low t n e = elim (cases_lt n.hart (length t.codes)) [
  | inl low ↦ low
  | inr past ↦ absurd (false≢true (sym (ap (λ (code : List Instr). is_memory_at code n.at) (get_or_past t.codes n.hart [] past)) ∙ e))
]

pub named_in : (t : Test) (n : Name) → is_name t n ≡ true → Contains (names t) n
named_in t n e =
    let low = hart_low t n e in
    let code = code_of t n.hart in
    in_parts names_in (enumerate_from 0 t.codes) (n.hart, code_of t n.hart) n
    (subst (λ (k : ℕ). Contains (enumerate_from 0 t.codes) (k, code_of t n.hart)) (omega arith) (in_numbered 0 t.codes n.hart [] low))
    (in_map (λ at. record { hart = n.hart; at = at }) (filter (is_memory_at (code_of t n.hart)) (numbers_below (length (code_of t n.hart)))) n.at
    (in_filter (is_memory_at (code_of t n.hart)) (numbers_below (length (code_of t n.hart))) n.at (number_in (length (code_of t n.hart)) n.at (memory_low (code_of t n.hart) n.at e)) e))

-- ---- and each of them is one

from_flat_map : {X Y : Type 0} (f : X → List Y) (xs : List X) (y : Y) → Contains (flat_map f xs) y → (x : X) × Contains xs x × Contains (f x) y
from_flat_map f [] y has = absurd (none_in y has)
from_flat_map f (x ∷ xs) y has = elim (Contains-append_cases (f x) (flat_map f xs) y has) [
  | inl here ↦ (x, (0, omega arith, refl), here)
  | inr later ↦ (
      let rest = from_flat_map f xs y later in
      let at = rest.1 in
      let low = at.1 in
      (rest.0, (suc at.0, omega (arith, low), at.2), rest.2))
]

-- the names of a hart's code have its number, and stand at memory instructions
record IsOf (hart : ℕ) (code : List Instr) (n : Name) : Type 0 where
  pub hart_is : n.hart ≡ hart
  pub memory : is_memory_at code n.at ≡ true

from_code : (hart : ℕ) (code : List Instr) (n : Name) → Contains (names_in (hart, code)) n → IsOf hart code n
from_code hart code n has =
    let ats = filter (is_memory_at code) (numbers_below (length code)) in
    let low : has.0 < length ats = (let few = has.1 in let long = length-map {B = Name} ats (λ at. record { hart = hart; at = at }) in omega (arith, few, long)) in
    let is : record { hart = hart; at = get_or ats has.0 0 } ≡ n = sym (get_or-map {Y = Name} (λ at. record { hart = hart; at = at }) ats has.0 0 n low) ∙ has.2 in
    record {
      hart_is = sym (ap (λ (m : Name). m.hart) is);
      memory = subst (λ (k : ℕ). is_memory_at code k ≡ true) (ap (λ (m : Name). m.at) is)
          (filter_passes (is_memory_at code) (numbers_below (length code)) has.0 0 low);
    }

-- what stands in a list, whatever stands past it
pub any_default : {X : Type 0} (xs : List X) (k : ℕ) (d e : X) → k < length xs → get_or xs k d ≡ get_or xs k e
any_default xs k d e low = let both : Some (get_or xs k d) ≡ Some (get_or xs k e) = sym (slice_get-get_or xs k d low) ∙ slice_get-get_or xs k e low in cc

pub from_names : (t : Test) (n : Name) → Contains (names t) n → is_name t n ≡ true
from_names t n has =
    let part = from_flat_map names_in (enumerate_from 0 t.codes) n has in
    let numbered = part.0 in
    let at = part.1 in
    let is = from_code numbered.0 numbered.1 n part.2 in
    let low : at.0 < length t.codes = (let few = at.1 in let long = length-enumerate_from 0 t.codes in omega (arith, few, long)) in
    let pair : (0 + at.0, get_or t.codes at.0 numbered.1) ≡ numbered = sym (get_or-enumerate_from 0 t.codes at.0 numbered low) ∙ at.2 in
    let hart : n.hart ≡ at.0 = is.hart_is ∙ sym (ap (λ p. p.0) pair) ∙ omega arith in
    let code : code_of t n.hart ≡ numbered.1 =
    ap (λ (k : ℕ). get_or t.codes k []) hart ∙ any_default t.codes at.0 [] numbered.1 low ∙ ap (λ p. p.1) pair in
    ap (λ (c : List Instr). is_memory_at c n.at) code ∙ is.memory
