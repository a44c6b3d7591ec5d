-- Each edge of the judged relation has a cause.
use Rattle.std.proofs.Common.{◌≡◌, ℕ, Bool, true, false, ◌||◌, List, [], ◌∷◌, map, refl, sym, ◌∙◌, ap}
use Rattle.std.specs.List.{list_any}
use Rattle.std.proofs.lemmas.List.Folds.{list_any-append}
use Rattle.fs_kinds.specs.declared.placement.Entry.{Entry}
use Rattle.fs_model.specs.Operations.{PreExecution}
use Rattle.fs_model.specs.Preserved.{all_rules, ppo}
use Rattle.fs_cert_evidence.specs.Candidates.{Candidate, rf, co}
use Rattle.fs_cert_evidence.specs.Judged.{Preserved, ReadsFrom, Coherence, FromReads, all_causes, is_edge, is_judged, rfe, fr}

any-map : {X Y : Type 0} (f : Y → Bool) (g : X → Y) (xs : List X) → list_any f (map g xs) ≡ list_any (λ z. f (g z)) xs
any-map f g [] = refl
any-map f g (z ∷ zs) = ap (λ b. f (g z) || b) (any-map f g zs)

or_false : (b : Bool) → (b || false) ≡ b
or_false true = refl
or_false false = refl

pub judged_by_causes : (x : PreExecution) (p : List Entry) (c : Candidate) (a b : ℕ)
    → is_judged x p c a b ≡ list_any (is_edge x p c a b) all_causes
judged_by_causes x p c a b =
    ap (λ d. ppo x p (rf c) a b || (rfe x c a b || (co c a b || d))) (sym (or_false (fr c a b)))
    ∙ sym (list_any-append (is_edge x p c a b) (map Preserved all_rules) (ReadsFrom ∷ Coherence ∷ FromReads ∷ [])
    ∙ ap (λ d. d || (rfe x c a b || (co c a b || (fr c a b || false)))) (any-map (is_edge x p c a b) Preserved all_rules))
