-- A section and what follows it: where the whole stops.
use Rattle.std.proofs.Common.{◌≡◌, List, [], ◌∷◌, ◌++◌, sym, ap, ◌∙◌, subst, append_assoc, append-nil}
use Rattle.fs_litmus_tokens.specs.Sections.{Takes, IsDead, Stops, Then, BeginsText, IsDeadText, StopsText}

module _ {T A B : Type 0} (L : List T → A → List T → Type 0) (K : A → List T → B → Type 0) where
  -- the section itself stops
  first_dead : (front rest : List T) → IsDead L front rest → IsDeadText (Then L K) front rest
  first_dead front [] h = λ b x. h x.0 x.1 x.2
  first_dead front (t ∷ rest) h = λ x. h x.0 x.2.0 x.2.1 (subst (λ l. L l x.2.0 x.2.1) (append_assoc front (t ∷ []) x.0) x.2.2)

  pub stops_first : (ts rest : List T) → ((a : A) → BeginsText (K a) []) → Stops L ts rest → StopsText (Then L K) ts rest
  stops_first ts rest live h =
      let more = h.alive.0 in
      let a = h.alive.1 in
      let k = live a in
      record {
        front = h.front;
        split = h.split;
        begins = (more ++ k.0, k.1, (a, k.0, h.alive.2 k.0, k.2));
        dead = first_dead h.front rest h.dead;
      }

  -- what follows the section stops
  later_one : (front f2 : List T) (a : A) → ((q : List T) (b : A) (m : List T) → L (front ++ q) b m → (b ≡ a) × (m ≡ q)) → (us : List T) (b : B) → Then L K ((front ++ f2) ++ us) b → K a (f2 ++ us) b
  later_one front f2 a only us b (a', m, l, k) =
      let same = only (f2 ++ us) a' m (subst (λ x. L x a' m) (append_assoc front f2 us) l) in
      subst (λ x. K a x b) same.1 (subst (λ x. K x m b) same.0 k)

  later_dead : (front f2 rest : List T) (a : A) → ((q : List T) (b : A) (m : List T) → L (front ++ q) b m → (b ≡ a) × (m ≡ q)) → IsDeadText (K a) f2 rest → IsDeadText (Then L K) (front ++ f2) rest
  later_dead front f2 [] a only h = λ b x.
      h b (subst (λ l. K a l b) (append-nil f2) (later_one front f2 a only [] b (subst (λ l. Then L K l b) (sym (append-nil (front ++ f2))) x)))
  later_dead front f2 (t ∷ rest) a only h = λ x.
      h (x.0, x.1, subst (λ l. K a l x.1) (sym (append_assoc f2 (t ∷ []) x.0)) (later_one front f2 a only (t ∷ x.0) x.1 (subst (λ l. Then L K l x.1) (append_assoc (front ++ f2) (t ∷ []) x.0) x.2)))

  pub stops_later : (ts mid rest : List T) (a : A) → Takes L ts a mid → StopsText (K a) mid rest → StopsText (Then L K) ts rest
  stops_later ts mid rest a h k =
      record {
        front = h.front ++ k.front;
        split = h.split ∙ ap (λ l. h.front ++ l) k.split ∙ sym (append_assoc h.front k.front rest);
        begins = (k.begins.0, k.begins.1, (a, k.front ++ k.begins.0, subst (λ l. L l a (k.front ++ k.begins.0)) (sym (append_assoc h.front k.front k.begins.0)) (h.is (k.front ++ k.begins.0)), k.begins.2));
        dead = later_dead h.front k.front rest a h.only k.dead;
      }

  -- the whole means what the rest means
  pub means_then : (ts mid : List T) (a : A) (b : B) → Takes L ts a mid → K a mid b → Then L K ts b
  means_then ts mid a b h k = subst (λ l. Then L K l b) (sym h.split) (a, mid, h.is mid, k)

  pub means_only : (ts mid : List T) (a : A) (b : B) → Takes L ts a mid → Then L K ts b → K a mid b
  means_only ts mid a b h x =
      let y = subst (λ l. Then L K l b) h.split x in
      let same = h.only mid y.0 y.1 y.2 in
      subst (λ l. K a l b) same.1 (subst (λ z. K z y.1 b) same.0 y.3)
