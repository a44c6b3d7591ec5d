-- The first of several faults.
use Rattle.std.proofs.Common.{◌≡◌, ℕ, ◌<◌, ◌≤◌, ◌⊎◌, inl, inr, Bool, true, false, ◌&&◌, ◌||◌, nat_lt, nat_eq, cond, Option, Some, None, refl, sym, subst, arith}
use Rattle.std.proofs.lemmas.Bool.Decides.{nat_tests}
use Rattle.fs_kinds.specs.FaultLine.{number}
use Rattle.fs_kinds.specs.declared.fault.Fault.{Fault}
use Rattle.fs_kinds.specs.FaultOrder.{rank_of, IsNoLater, IsFirst, IsFirstOf, is_earlier, earliest}

abbrev pub NoLater : ℕ → ℕ → ℕ → ℕ → Type 0
NoLater a x b y = (a < b) ⊎ ((a ≡ b) × (x ≤ y))

lesser : (a b x y : ℕ) → (nat_lt a b || (nat_eq a b && nat_lt x y)) ≡ true → NoLater a x b y
lesser a b x y h = grind (arith, nat_tests)

not_lesser : (a b x y : ℕ) → (nat_lt a b || (nat_eq a b && nat_lt x y)) ≡ false → NoLater b y a x
not_lesser a b x y h = grind (arith, nat_tests)

joined : (a b c x y z : ℕ) → NoLater a x b y → NoLater b y c z → NoLater a x c z
joined a b c x y z (inl h) (inl k) = inl (omega arith)
joined a b c x y z (inl h) (inr k) = inl (omega arith)
joined a b c x y z (inr h) (inl k) = inl (omega arith)
joined a b c x y z (inr h) (inr k) = inr (omega arith, omega arith)

then : (f g h : Fault) → IsNoLater f g → IsNoLater g h → IsNoLater f h
then f g h p q = joined (number f) (number g) (number h) (rank_of f) (rank_of g) (rank_of h) p q

-- ---- one kind of fault for another

pub same_first : (P Q : Fault → Type 0) (o : Option Fault) → ((f : Fault) → P f → Q f) → ((f : Fault) → Q f → P f) → IsFirstOf P o → IsFirstOf Q o
same_first P Q None pq qp h = λ f q. h f (qp f q)
same_first P Q (Some f) pq qp h = record { is = pq f h.is; first = λ g q. h.first g (qp g q) }

-- the first of a kind that has one fault
pub only_first : (P : Fault → Type 0) (f : Fault) → P f → ((g : Fault) → P g → g ≡ f) → IsFirst P f
only_first P f is only = record { is = is; first = λ g p. subst (λ x. IsNoLater f x) (sym (only g p)) (inr (refl, omega arith)) }

-- the first of one fault or none
pub this_first : (o : Option Fault) → IsFirstOf (λ g. o ≡ Some g) o
this_first None = λ g e. cc
this_first (Some f) = only_first (λ g. Some f ≡ Some g) f refl (λ g e. cc)

module _ (P R Q : Fault → Type 0) (pq : (g : Fault) → P g → Q g) (rq : (g : Fault) → R g → Q g) (qs : (g : Fault) → Q g → P g ⊎ R g) where
  no_left : ((g : Fault) → ¬ P g) → (g : Fault) → P g ⊎ R g → R g
  no_left p g (inl h) = absurd (p g h)
  no_left p g (inr h) = h

  no_right : ((g : Fault) → ¬ R g) → (g : Fault) → P g ⊎ R g → P g
  no_right r g (inl h) = h
  no_right r g (inr h) = absurd (r g h)

  right_first : (f e : Fault) → IsFirst R f → IsFirst P e → IsNoLater f e → (g : Fault) → P g ⊎ R g → IsNoLater f g
  right_first f e r p h g (inl k) = then f e g h (p.first g k)
  right_first f e r p h g (inr k) = r.first g k

  left_first : (f e : Fault) → IsFirst R f → IsFirst P e → IsNoLater e f → (g : Fault) → P g ⊎ R g → IsNoLater e g
  left_first f e r p h g (inl k) = p.first g k
  left_first f e r p h g (inr k) = then e f g h (r.first g k)

  first_of_two : (f e : Fault) → IsFirst R f → IsFirst P e → (b : Bool) → is_earlier f e ≡ b → IsFirst Q (cond b f e)
  first_of_two f e r p true h = record { is = rq f r.is; first = λ g q. right_first f e r p (lesser (number f) (number e) (rank_of f) (rank_of e) h) g (qs g q) }
  first_of_two f e r p false h = record { is = pq e p.is; first = λ g q. left_first f e r p (not_lesser (number f) (number e) (rank_of f) (rank_of e) h) g (qs g q) }

  -- the first of two kinds
  pub first_join : (o r : Option Fault) → IsFirstOf P o → IsFirstOf R r → IsFirstOf Q (earliest o r)
  first_join None r p h = same_first R Q r rq (λ g q. no_left p g (qs g q)) h
  first_join (Some e) None p h = same_first P Q (Some e) pq (λ g q. no_right h g (qs g q)) p
  first_join (Some e) (Some f) p h = first_of_two f e h p (is_earlier f e) refl
