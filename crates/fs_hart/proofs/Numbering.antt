-- The operations of runs, one after the other.
use Rattle.std.proofs.Common.{◌≡◌, ℕ, ◌+◌, ◌<◌, Bool, true, false, List, [], ◌∷◌, ◌++◌, length, get_or, take, map, filter, cond, ap, sym, ◌∙◌, append_assoc}
use Rattle.std.specs.Prelude.{is_some}
use Rattle.std.specs.List.{enumerate_from}
use Rattle.std.proofs.lemmas.List.{append-nil, length-map, map-append}
use Rattle.std.proofs.Math.ListN.{get_or-map}
use Rattle.fs_model.proofs.Numbered.{filter_numbered, map_numbered}
use Rattle.fs_model.specs.declared.operation.Operation.{Operation}
use Rattle.fs_model.specs.declared.step.Step.{Step}
use Rattle.fs_model.specs.Operations.{access_of}

abbrev pub does_access : ℕ × Step → Bool
does_access numbered = is_some numbered.1.address

kept : (hart : ℕ) (steps : List Step) (i : ℕ) (s : Step) (b : Bool) → i < length steps → s ≡ get_or steps i s → is_some s.address ≡ b
    → map (access_of hart) (filter does_access (take (i + 1) (enumerate_from 0 steps)))
    ≡ map (access_of hart) (filter does_access (take i (enumerate_from 0 steps))) ++ map (access_of hart) (cond b ((i, s) ∷ []) [])
kept hart steps i s b l at e =
    ap (map (access_of hart)) (filter_numbered does_access steps i s l)
    ∙ ap (λ x. map (access_of hart) (filter does_access (take i (enumerate_from 0 steps)) ++ cond (is_some x.address) ((i, x) ∷ []) [])) (sym at)
    ∙ ap (λ c. map (access_of hart) (filter does_access (take i (enumerate_from 0 steps)) ++ cond c ((i, s) ∷ []) [])) e
    ∙ map-append (access_of hart) (filter does_access (take i (enumerate_from 0 steps))) (cond b ((i, s) ∷ []) [])

pub access_added : (hart : ℕ) (steps : List Step) (i : ℕ) (s : Step) (start old new : List Operation) → i < length steps → s ≡ get_or steps i s → is_some s.address ≡ true
    → new ≡ old ++ access_of hart (i, s) ∷ [] → old ≡ start ++ map (access_of hart) (filter does_access (take i (enumerate_from 0 steps)))
    → new ≡ start ++ map (access_of hart) (filter does_access (take (i + 1) (enumerate_from 0 steps)))
access_added hart steps i s start old new l at e pushed before =
    pushed ∙ ap (λ xs. xs ++ access_of hart (i, s) ∷ []) before ∙ append_assoc start _ _ ∙ ap (λ xs. start ++ xs) (sym (kept hart steps i s true l at e))

pub access_skipped : (hart : ℕ) (steps : List Step) (i : ℕ) (s : Step) (start old : List Operation) → i < length steps → s ≡ get_or steps i s → is_some s.address ≡ false
    → old ≡ start ++ map (access_of hart) (filter does_access (take i (enumerate_from 0 steps)))
    → old ≡ start ++ map (access_of hart) (filter does_access (take (i + 1) (enumerate_from 0 steps)))
access_skipped hart steps i s start old l at e before =
    before ∙ ap (λ xs. start ++ xs) (sym (append-nil _) ∙ sym (kept hart steps i s false l at e))

pub mapped_at : {X Z : Type 0} (v : X → Z) (xs : List X) (i : ℕ) (x : X) → x ≡ get_or xs i x → v x ≡ get_or (map v xs) i (v x)
mapped_at v xs i x at = ap v at ∙ sym (get_or-map v xs i x)

-- one more item, read through f, behind a start
pub mapped_push : {X Z Y : Type 0} (v : X → Z) (f : ℕ × Z → Y) (xs : List X) (i : ℕ) (x : X) (start old new : List Y) → i < length xs → x ≡ get_or xs i x
    → new ≡ old ++ f (i, v x) ∷ [] → old ≡ start ++ map f (take i (enumerate_from 0 (map v xs)))
    → new ≡ start ++ map f (take (i + 1) (enumerate_from 0 (map v xs)))
mapped_push v f xs i x start old new l at pushed before =
    pushed ∙ ap (λ ys. ys ++ f (i, v x) ∷ []) before ∙ append_assoc start _ _
    ∙ ap (λ ys. start ++ ys) (sym (map_numbered f (map v xs) i (v x) (rw length-map l) ∙ ap (λ z. map f (take i (enumerate_from 0 (map v xs))) ++ f (i, z) ∷ []) (sym (mapped_at v xs i x at))))
