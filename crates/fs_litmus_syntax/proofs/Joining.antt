-- A section, and then another whose form the first one's meaning may decide.
use Rattle.std.proofs.Common.{◌≡◌, List, [], ◌∷◌, ◌++◌, sym, ap, ◌∙◌, subst, append_assoc}
use Rattle.fs_litmus_tokens.specs.Sections.{Takes, IsDead, IsAlive, Stops}

abbrev pub Both : {T A B : Type 0} → (List T → A → List T → Type 0) → (A → List T → B → List T → Type 0) → List T → A × B → List T → Type 0
Both {T = T} L M ts x rest = (mid : List T) × L ts x.0 mid × M x.0 mid x.1 rest

module _ {T A B : Type 0} (L : List T → A → List T → Type 0) (M : A → List T → B → List T → Type 0) where
  pub takes_both : (ts mid rest : List T) (a : A) (b : B) → Takes L ts a mid → Takes (M a) mid b rest → Takes (Both L M) ts (a, b) rest
  takes_both ts mid rest a b h k =
      record {
        front = h.front ++ k.front;
        split = h.split ∙ ap (λ l. h.front ++ l) k.split ∙ sym (append_assoc h.front k.front rest);
        is = λ q. (k.front ++ q, subst (λ l. L l a (k.front ++ q)) (sym (append_assoc h.front k.front q)) (h.is (k.front ++ q)), k.is q);
        only = λ q x m l.
            let s = h.only (k.front ++ q) x.0 l.0 (subst (λ z. L z x.0 l.0) (append_assoc h.front k.front q) l.1) in
            let second = subst (λ z. M z (k.front ++ q) x.1 m) s.0 (subst (λ z. M x.0 z x.1 m) s.1 l.2) in
            let o = k.only q x.1 m second in
            (ap (λ z. (z, x.1)) s.0 ∙ ap (λ z. (a, z)) o.0, o.1);
      }

  one_dead : (front rest : List T) → IsDead L front rest → IsDead (Both L M) front rest
  one_dead front [] h = λ x m l. h x.0 l.0 l.1
  one_dead front (t ∷ rest) h = λ more x m l. h more x.0 l.0 l.1

  -- the first section stops
  pub stops_one : (ts rest : List T) → ((a : A) → IsAlive (M a) []) → Stops L ts rest → Stops (Both L M) ts rest
  stops_one ts rest live h =
      let more = h.alive.0 in
      let a = h.alive.1 in
      let k = live a in
      record {
        front = h.front;
        split = h.split;
        alive = (more ++ k.0, (a, k.1), λ q. (k.0 ++ q, subst (λ l. L (h.front ++ l) a (k.0 ++ q)) (sym (append_assoc more k.0 q)) (h.alive.2 (k.0 ++ q)), k.2 q));
        dead = one_dead h.front rest h.dead;
      }

  second_of : (f g : List T) (a : A) → ((q : List T) (b : A) (m : List T) → L (f ++ q) b m → (b ≡ a) × (m ≡ q)) → (q : List T) (x : A × B) (m : List T) → Both L M ((f ++ g) ++ q) x m → M a (g ++ q) x.1 m
  second_of f g a only q x m l =
      let s = only (g ++ q) x.0 l.0 (subst (λ z. L z x.0 l.0) (append_assoc f g q) l.1) in
      subst (λ z. M z (g ++ q) x.1 m) s.0 (subst (λ z. M x.0 z x.1 m) s.1 l.2)

  two_dead : (f g rest : List T) (a : A) → ((q : List T) (b : A) (m : List T) → L (f ++ q) b m → (b ≡ a) × (m ≡ q)) → IsDead (M a) g rest → IsDead (Both L M) (f ++ g) rest
  two_dead f g [] a only h = λ x m l.
      let s = only g x.0 l.0 l.1 in
      h x.1 m (subst (λ z. M z g x.1 m) s.0 (subst (λ z. M x.0 z x.1 m) s.1 l.2))
  two_dead f g (t ∷ rest) a only h = λ more x m l. h more x.1 m (second_of f g a only (t ∷ more) x m l)

  -- the second section stops
  pub stops_two : (ts mid rest : List T) (a : A) → Takes L ts a mid → Stops (M a) mid rest → Stops (Both L M) ts rest
  stops_two ts mid rest a h k =
      let more = k.alive.0 in
      record {
        front = h.front ++ k.front;
        split = h.split ∙ ap (λ l. h.front ++ l) k.split ∙ sym (append_assoc h.front k.front rest);
        alive = (more, (a, k.alive.1), λ q. (k.front ++ (more ++ q), subst (λ l. L l a (k.front ++ (more ++ q))) (sym (append_assoc h.front k.front (more ++ q))) (h.is (k.front ++ (more ++ q))), k.alive.2 q));
        dead = two_dead h.front k.front rest a h.only k.dead;
      }
