-- Joined pieces, and what the pieces of a printed test are.
use Rattle.std.proofs.Common.{◌≡◌, ℕ, ◌+◌, ◌<◌, ◌≤◌, List, [], ◌∷◌, ◌++◌, length, get_or, drop, map, cond, Bool, false, refl, ap, sym, ◌∙◌, decimal, ◌==◌, eq-eqb, codes}
use Rattle.std.specs.List.{join_by, enumerate_from}
use Rattle.std.proofs.lemmas.List.{at_drop_more, at_drop_all}
use Rattle.std.proofs.lemmas.List.Folds.{flat_map-map}
use Rattle.fs_instr.specs.declared.instr.Instr.{Instr}
use Rattle.fs_model.specs.declared.test.Location.{Location}
use Rattle.fs_model.specs.Printed.{joined, line_of, value_from, value_text, cell, is_target, label, column}
use Rattle.fs_model.specs.Test.{address_of}

pub joined-map : {X : Type 0} (v : X → List ℕ) (separator : List ℕ) (xs : List X) → join_by v separator xs ≡ joined separator (map v xs)
joined-map v separator [] = refl
joined-map v separator (x ∷ xs) = ap (λ rest. v x ++ rest) (sym (flat_map-map (λ piece. separator ++ piece) v xs))

pub value_text-found : (locations : List Location) (i word : ℕ) (x : Location) → i < length locations → x ≡ get_or locations i x → address_of i ≡ word → value_from i (drop i locations) word ≡ value_text locations word → value_text locations word ≡ x.name
value_text-found locations i word x h at same before =
    sym before
    ∙ at_drop_more (λ rest. value_from i rest word) locations i x h
    ∙ ap (λ b. cond b (get_or locations i x).name (value_from (i + 1) (drop (i + 1) locations) word)) (eq-eqb (address_of i) word same)
    ∙ ap (λ y. y.name) (sym at)

pub value_text-none : (locations : List Location) (i word : ℕ) → length locations ≤ i → value_from i (drop i locations) word ≡ value_text locations word → value_text locations word ≡ decimal word
value_text-none locations i word h before = sym before ∙ at_drop_all (λ rest. value_from i rest word) locations i h

pub column-made : (code : List Instr) (b : Bool) (cells : List (List ℕ)) → is_target code (length code) ≡ b → cells ≡ map (cell code) (enumerate_from 0 code) ++ cond b (label (length code) ∷ []) [] → cells ≡ column code
column-made code b cells e made = made ∙ ap (λ b. map (cell code) (enumerate_from 0 code) ++ cond b (label (length code) ∷ []) []) (sym e)

pub line_of-some : {X : Type 0} (v : X → List ℕ) (xs : List X) → (length xs == 0) ≡ false → joined (codes " ") (map v xs) ++ 10 ∷ [] ≡ line_of (map v xs)
line_of-some v [] some = cc
line_of-some v (x ∷ xs) some = refl
