-- Where a text stops: at one place, and nowhere if it is whole.
use Rattle.std.proofs.Common.{◌≡◌, ◌⊎◌, inl, inr, List, [], ◌∷◌, ◌++◌, refl, sym, ap, ◌∙◌, subst, append_assoc, append-nil}
use Rattle.fs_litmus_tokens.specs.Sections.{BeginsText, IsDeadText, StopsText}

-- one front is longer than the other, by t and more
abbrev Longer : {T : Type 0} → List T → List T → List T → List T → Type 0
Longer {T = T} f r g q = (t : T) × (more : List T) × (g ≡ f ++ t ∷ more) × (r ≡ t ∷ (more ++ q))

abbrev Cuts : {T : Type 0} → List T → List T → List T → List T → Type 0
Cuts f r g q = ((f ≡ g) × (r ≡ q)) ⊎ (Longer f r g q ⊎ Longer g q f r)

one_on : {T : Type 0} (x y : T) (f r g q : List T) → x ≡ y → Cuts f r g q → Cuts (x ∷ f) r (y ∷ g) q
one_on x y f r g q e (inl h) = inl (ap (λ z. z ∷ f) e ∙ ap (λ l. y ∷ l) h.0, h.1)
one_on x y f r g q e (inr (inl (t, more, s, k))) = inr (inl (t, more, ap (λ z. z ∷ g) (sym e) ∙ ap (λ l. x ∷ l) s, k))
one_on x y f r g q e (inr (inr (t, more, s, k))) = inr (inr (t, more, ap (λ z. z ∷ f) e ∙ ap (λ l. y ∷ l) s, k))

-- two ways to cut a list in two
cuts : {T : Type 0} (f r g q : List T) → f ++ r ≡ g ++ q → Cuts f r g q
cuts [] r [] q e = inl (refl, e)
cuts [] r (t ∷ g) q e = inr (inl (t, g, refl, e))
cuts (t ∷ f) r [] q e = inr (inr (t, f, refl, sym e))
cuts (t ∷ f) r (u ∷ g) q e = one_on t u f r g q (cc) (cuts f r g q (cc))

module _ {T B : Type 0} (K : List T → B → Type 0) where
  regrouped : (f more m : List T) (t : T) → (f ++ t ∷ more) ++ m ≡ (f ++ t ∷ []) ++ (more ++ m)
  regrouped f more m t = simp append_assoc

  -- past a token that can't stand there
  past : (f rest more : List T) (t : T) → IsDeadText K f (t ∷ rest) → BeginsText K (f ++ t ∷ more) → ⊥
  past f rest more t dead x = dead (more ++ x.0, x.1, subst (λ l. K l x.1) (regrouped f more x.0 t) x.2)

  longer : (f r g q : List T) → IsDeadText K f r → BeginsText K g → Longer f r g q → ⊥
  longer f [] g q dead x (t, more, e, k) = absurd (cc)
  longer f (u ∷ r) g q dead x (t, more, e, k) =
      let same : t ≡ u = cc in
      past f r more u dead (subst (λ l. BeginsText K l) (e ∙ ap (λ z. f ++ z ∷ more) same) x)

  once : (f r g q : List T) → IsDeadText K f r → BeginsText K f → IsDeadText K g q → BeginsText K g → Cuts f r g q → r ≡ q
  once f r g q df bf dg bg (inl h) = h.1
  once f r g q df bf dg bg (inr (inl h)) = absurd (longer f r g q df bg h)
  once f r g q df bf dg bg (inr (inr h)) = absurd (longer g q f r dg bf h)

  -- a text stops at one place
  pub stops_once : (ts r q : List T) → StopsText K ts r → StopsText K ts q → r ≡ q
  stops_once ts r q h k = once h.front r k.front q h.dead h.begins k.dead k.begins (cuts h.front r k.front q (sym h.split ∙ k.split))

  at_end : (ts f r : List T) → ts ≡ f ++ r → IsDeadText K f r → BeginsText K ts → r ≡ []
  at_end ts f [] e dead x = refl
  at_end ts f (t ∷ r) e dead x = absurd (past f r r t dead (subst (λ l. BeginsText K l) e x))

  -- tokens that begin a text stop at the end, if at all
  pub stops_at_end : (ts r : List T) → BeginsText K ts → StopsText K ts r → r ≡ []
  stops_at_end ts r x h = at_end ts h.front r h.split h.dead x

  never : (ts f r : List T) (b : B) → ts ≡ f ++ r → IsDeadText K f r → K ts b → ⊥
  never ts f [] b e dead k = dead b (subst (λ l. K l b) (e ∙ append-nil f) k)
  never ts f (t ∷ r) b e dead k = past f r r t dead ([], b, subst (λ l. K l b) (e ∙ sym (append-nil (f ++ t ∷ r))) k)

  -- a whole text stops nowhere
  pub whole_never_stops : (ts r : List T) (b : B) → K ts b → StopsText K ts r → ⊥
  whole_never_stops ts r b k h = never ts h.front r b h.split h.dead k
