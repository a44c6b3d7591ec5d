-- The form of a text that is known to have one.
use Rattle.std.proofs.Common.{◌≡◌, ℕ, List, [], ◌∷◌, Bool, true, Result, Ok, Err, IfErr, sym, subst, append-nil, ◌∙◌}
use Rattle.std.specs.Result.{IsErrAnd}
use Rattle.fs_kinds.specs.declared.fault.Fault.{Fault}
use Rattle.fs_litmus_tokens.specs.Tokens.{Lined}
use Rattle.fs_litmus_tokens.specs.Sections.{Takes, Stops}
use Rattle.fs_litmus_syntax.specs.Form.{Form, IsForm}
use Rattle.fs_litmus_syntax.specs.Grammar.{Syntax}
use Rattle.fs_litmus.specs.Reads.{HasTokens, HasForm}
use Rattle.fs_litmus.proofs.FrontFaults.{tokens_once}

-- what holds of the error handed on holds of the result
pub IfErr-handed : {T : Type 0} (r : Result T Fault) (fault : Fault) (P : Fault → Type 0)
    → IsErrAnd r (λ f. f ≡ fault) → P fault → IfErr r P
IfErr-handed (Ok x) fault P h p = tt
IfErr-handed (Err f) fault P h p = subst P (sym h) p

stops_never : {A : Type 0} (L : List Lined → A → List Lined → Type 0) (ts rest m : List Lined) (a : A) → Stops L ts rest → L ts a m → ⊥
stops_never L ts [] m a h k = h.dead a m (subst (λ l. L l a m) (h.split ∙ append-nil h.front) k)
stops_never L ts (t ∷ rest) m a h k = h.dead rest a m (subst (λ l. L l a m) h.split k)

module _ (bytes : List ℕ) (ts : List Lined) (closed : Bool) (there : HasTokens bytes ts closed) (g : Form) (s : Syntax) (h : HasForm bytes g s) where
  same_tokens : h.tokens ≡ ts
  same_tokens = (tokens_once bytes h.tokens ts true closed h.has_tokens there).0

  -- its tokens don't stop being of the form
  pub form_stands : (rest : List Lined) → Stops IsForm ts rest → ⊥
  form_stands rest stops = stops_never IsForm ts rest h.rest g stops (subst (λ l. IsForm l g h.rest) same_tokens h.is_form)

  -- and what is read is its form
  pub form_read : (f : Form) (mid : List Lined) → Takes IsForm ts f mid → HasForm bytes f s
  form_read f mid takes =
      let same = takes.only mid g h.rest (subst (λ l. IsForm l g h.rest) (same_tokens ∙ takes.split) h.is_form) in
      subst (λ x. HasForm bytes x s) same.0 h
