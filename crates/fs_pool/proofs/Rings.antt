-- Hands in a ring, one after the other.
use Rattle.std.proofs.Common.{◌≡◌, ◌<◌, ◌≤◌, ◌+◌, ℕ, zero, suc, Some, List, [], ◌∷◌, ◌++◌, length, true, false, refl, sym, ap, ◌∙◌, subst, ap₂, inl, inr, ◌⊎◌, ⊎_elim, arith, length-append}
use Rattle.std.specs.Prelude.{slice_get, ◌==◌, if◌then◌else◌}
use Rattle.std.proofs.lemmas.Bool.Decides.{nat_tests}
use Rattle.std.proofs.lemmas.Option.{slice_get_within}
use Rattle.fs_pool.specs.Ring.{Deque, Hand, after, AreLinked, AreAll, IsFresh, IsSameHand, count_of, total_of}

after_same : (g h : Hand) → IsSameHand g h → after h ≡ after g
after_same g h s = let a = s.0 in let b = s.1 in cc

-- hands that are the same as some linked ones are linked
pub linked_same : (olds news : List Hand) → ((k : ℕ) (h : Hand) → slice_get news k ≡ Some h → (j : ℕ) × (g : Hand) × (slice_get olds j ≡ Some g) × IsSameHand g h) → AreLinked olds → AreLinked news
linked_same olds news from linked i k g h at_g at_h number =
    let a = from i g at_g in
    let b = from k h at_h in
    let link : a.1.victim ≡ b.1.own = linked a.0 b.0 a.1 b.1 a.2 b.2 (sym b.3.0 ∙ (number ∙ after_same a.1 g a.3)) in
    a.3.3 ∙ (link ∙ sym b.3.2)

-- the deque of the hand at this place, or else this one
abbrev own_at : List Hand → ℕ → Deque → Deque
own_at [] j d = d
own_at (h ∷ hs) zero d = h.own
own_at (h ∷ hs) (suc j) d = own_at hs j d

snoc_at : (hs : List Hand) (h g : Hand) (k : ℕ) → slice_get (hs ++ h ∷ []) k ≡ Some g → ((k < length hs) × (slice_get hs k ≡ Some g)) ⊎ ((k ≡ length hs) × (h ≡ g))
snoc_at [] h g zero e = inr (refl, cc)
snoc_at [] h g (suc k) e = absurd (cc)
snoc_at (x ∷ xs) h g zero e = inl (omega arith, e)
snoc_at (x ∷ xs) h g (suc k) e =
    ⊎_elim (λ (y : (k < length xs) × (slice_get xs k ≡ Some g)). inl ((let l = y.0 in omega arith), y.1)) (λ (y : (k ≡ length xs) × (h ≡ g)). inr (ap suc y.0, y.1)) (snoc_at xs h g k e)

own_snoc : (hs : List Hand) (h : Hand) (j : ℕ) (d : Deque) → j ≤ length hs → own_at (hs ++ h ∷ []) j d ≡ own_at hs j h.own
own_snoc [] h zero d l = refl
own_snoc [] h (suc j) d l = absurd (omega arith)
own_snoc (x ∷ xs) h zero d l = refl
own_snoc (x ∷ xs) h (suc j) d l = own_snoc xs h j d (omega arith)

own_past : (hs : List Hand) (j : ℕ) (d : Deque) → length hs ≤ j → own_at hs j d ≡ d
own_past [] j d l = refl
own_past (x ∷ xs) zero d l = absurd (omega arith)
own_past (x ∷ xs) (suc j) d l = own_past xs j d (omega arith)

own_is : (hs : List Hand) (k : ℕ) (h : Hand) (d : Deque) → slice_get hs k ≡ Some h → own_at hs k d ≡ h.own
own_is [] k h d e = absurd (cc)
own_is (x ∷ xs) zero h d e = let i : x ≡ h = cc in ap (λ (y : Hand). y.own) i
own_is (x ∷ xs) (suc k) h d e = own_is xs k h d e

-- the first hands of a ring: each steals from the deque of the one after it, the last of them from d, and e is the
-- deque of the first
pub record AreChained (workers : ℕ) (hs : List Hand) (d e : Deque) : Type 0 where
  pub each : (k : ℕ) (h : Hand) → slice_get hs k ≡ Some h → (h.number ≡ k) × (h.count ≡ workers) × IsFresh h × (h.victim ≡ own_at hs (k + 1) d)
  pub first : own_at hs 0 d ≡ e

chained_push : (workers : ℕ) (hs : List Hand) (h : Hand) (d d' e : Deque) → AreChained workers hs d e → h.number ≡ length hs → h.count ≡ workers → IsFresh h → h.own ≡ d → h.victim ≡ d' → AreChained workers (hs ++ h ∷ []) d' e
chained_push workers hs h d d' e c number count fresh own victim =
    record {
      each = λ k g at.
          ⊎_elim
          (λ (y : (k < length hs) × (slice_get hs k ≡ Some g)).
          let old = c.each k g y.1 in
          (old.0, old.1, old.2, old.3 ∙ (ap (own_at hs (k + 1)) (sym own) ∙ sym (own_snoc hs h (k + 1) d' (let b = y.0 in omega arith)))))
          (λ (y : (k ≡ length hs) × (h ≡ g)).
          subst (λ (z : Hand). (z.number ≡ k) × (z.count ≡ workers) × IsFresh z × (z.victim ≡ own_at (hs ++ h ∷ []) (k + 1) d')) y.1
          (number ∙ sym y.0, count, fresh, victim ∙ sym (own_past (hs ++ h ∷ []) (k + 1) d' (let b = y.0 in let long = length-append hs (h ∷ []) in omega arith))))
          (snoc_at hs h g k at);
      first = own_snoc hs h 0 d' (omega arith) ∙ (ap (own_at hs 0) own ∙ c.first);
    }

own_after : (hs : List Hand) (e : Deque) (k n : ℕ) → length hs ≡ n → own_at hs 0 e ≡ e → own_at hs (k + 1) e ≡ own_at hs (if k + 1 == n then 0 else k + 1) e
own_after hs e k n len first =
    elim (k + 1 == n) as (λ b. (k + 1 == n) ≡ b → own_at hs (k + 1) e ≡ own_at hs (if b then 0 else k + 1) e) [
      | true ↦ λ t. own_past hs (k + 1) e (grind (arith, nat_tests, t, len)) ∙ sym first
      | false ↦ λ _. refl
    ] refl

pub chained_linked : (workers : ℕ) (hs : List Hand) (e : Deque) → AreChained workers hs e e → length hs ≡ workers → AreLinked hs
chained_linked workers hs e c len i k g h at_g at_h number =
    let this = c.each i g at_g in
    let next : k ≡ (if i + 1 == workers then 0 else i + 1) = sym (c.each k h at_h).0 ∙ (number ∙ ap₂ (λ (m n : ℕ). if m + 1 == n then 0 else m + 1) this.0 this.1) in
    this.3 ∙ (own_after hs e i workers len c.first ∙ (ap (λ j. own_at hs j e) (sym next) ∙ own_is hs k h e at_h))

pub chained_all : (workers : ℕ) (hs : List Hand) (d e : Deque) → AreChained workers hs d e → length hs ≡ workers → 0 < workers → AreAll hs
chained_all workers hs d e c len some = (omega arith, λ k h at. let this = c.each k h at in (this.0, this.1 ∙ sym len))

-- what `pop` of a `Vec` leaves
pub front_at : (xs ys : List Hand) (h : Hand) → xs ≡ ys ++ h ∷ [] → (k : ℕ) (g : Hand) → slice_get ys k ≡ Some g → slice_get xs k ≡ Some g
front_at xs ys h is k g at = subst (λ (zs : List Hand). slice_get zs k ≡ Some g) (sym is) (get_front ys (h ∷ []) k g at)
  where
    get_front : (xs ys : List Hand) (k : ℕ) (h : Hand) → slice_get xs k ≡ Some h → slice_get (xs ++ ys) k ≡ Some h
    get_front [] ys k h e = absurd (cc)
    get_front (x ∷ xs) ys zero h e = e
    get_front (x ∷ xs) ys (suc k) h e = get_front xs ys k h e

pub last_at : (xs ys : List Hand) (h : Hand) → xs ≡ ys ++ h ∷ [] → slice_get xs (length ys) ≡ Some h
last_at xs ys h is = subst (λ (zs : List Hand). slice_get zs (length ys) ≡ Some h) (sym is) (get_last ys h)
  where
    get_last : (ys : List Hand) (h : Hand) → slice_get (ys ++ h ∷ []) (length ys) ≡ Some h
    get_last [] h = refl
    get_last (y ∷ ys) h = get_last ys h

pub total_last : (x : ℕ) (f : Hand → List ℕ) (xs ys : List Hand) (h : Hand) → xs ≡ ys ++ h ∷ [] → total_of x f xs ≡ total_of x f ys + count_of x (f h)
total_last x f xs ys h is = ap (total_of x f) is ∙ total_snoc ys h
  where
    total_snoc : (ys : List Hand) (h : Hand) → total_of x f (ys ++ h ∷ []) ≡ total_of x f ys + count_of x (f h)
    total_snoc [] h = omega arith
    total_snoc (y ∷ ys) h = let e = total_snoc ys h in omega arith

pub total_none : (x : ℕ) (f : Hand → List ℕ) (hs : List Hand) → length hs ≡ 0 → total_of x f hs ≡ 0
total_none x f [] l = refl
total_none x f (y ∷ ys) l = absurd (omega arith)

-- among all hands of a ring, each steals from the next one's deque
pub next_linked : (hs : List Hand) → AreLinked hs → AreAll hs → (k : ℕ) (g h : Hand) → slice_get hs k ≡ Some g → slice_get hs (k + 1) ≡ Some h → g.victim ≡ h.own
next_linked hs linked all k g h at_g at_h =
    let a = all.1 k g at_g in
    let b = all.1 (k + 1) h at_h in
    let within = slice_get_within hs (k + 1) h at_h in
    linked k (k + 1) g h at_g at_h (b.0 ∙ sym (ap₂ (λ (m n : ℕ). if m + 1 == n then 0 else m + 1) a.0 a.1 ∙ ap (λ t. if t then 0 else k + 1) (differ (k + 1) (length hs) within)))
  where
    differ : (a b : ℕ) → a < b → (a == b) ≡ false
    differ a b l = grind (arith, nat_tests)

-- and the last one from the first one's
pub last_linked : (hs : List Hand) → AreLinked hs → AreAll hs → (k : ℕ) (g h : Hand) → slice_get hs k ≡ Some g → k + 1 ≡ length hs → slice_get hs 0 ≡ Some h → g.victim ≡ h.own
last_linked hs linked all k g h at_g len at_h =
    let a = all.1 k g at_g in
    let b = all.1 0 h at_h in
    linked k 0 g h at_g at_h (b.0 ∙ sym (ap₂ (λ (m n : ℕ). if m + 1 == n then 0 else m + 1) a.0 a.1 ∙ ap (λ t. if t then 0 else k + 1) (same (k + 1) (length hs) len)))
  where
    same : (a b : ℕ) → a ≡ b → (a == b) ≡ true
    same a b e = grind (arith, nat_tests)

-- one more hand, made of its parts
pub chained_more : (workers : ℕ) (hs rs : List Hand) (h : Hand) (d victim d' e : Deque) (n : ℕ) (pushed popped stolen : List ℕ) → AreChained workers hs d e
    → h ≡ record { number = n; count = workers; own = d; victim = victim; pushed = pushed; popped = popped; stolen = stolen } → n ≡ length hs → pushed ≡ [] → popped ≡ [] → stolen ≡ [] → victim ≡ d'
    → rs ≡ hs ++ h ∷ [] → AreChained workers rs d' e
chained_more workers hs rs h d victim d' e n pushed popped stolen c is number a b s to rest =
    subst (λ (ys : List Hand). AreChained workers ys d' e) (sym rest)
    (chained_push workers hs h d d' e c (ap (λ (y : Hand). y.number) is ∙ number) (ap (λ (y : Hand). y.count) is) (ap (λ (y : Hand). y.pushed) is ∙ a, ap (λ (y : Hand). y.popped) is ∙ b, ap (λ (y : Hand). y.stolen) is ∙ s)
    (ap (λ (y : Hand). y.own) is) (ap (λ (y : Hand). y.victim) is ∙ to))

long_last : (xs ys : List Hand) (h : Hand) → xs ≡ ys ++ h ∷ [] → length ys + 1 ≡ length xs
long_last xs ys h is = let a = ap length is in let b = length-append ys (h ∷ []) in omega arith

-- of hands that are taken from the end, the one taken steals from the one taken before it
pub taken_linked : (hs rest left : List Hand) (g h : Hand) → AreLinked hs → AreAll hs → ((k : ℕ) (x : Hand) → slice_get rest k ≡ Some x → slice_get hs k ≡ Some x) → rest ≡ left ++ g ∷ [] → slice_get hs (length rest) ≡ Some h
    → g.victim ≡ h.own
taken_linked hs rest left g h linked all front is at =
    next_linked hs linked all (length left) g h (front (length left) g (last_at rest left g is)) (subst (λ (n : ℕ). slice_get hs n ≡ Some h) (sym (long_last rest left g is)) at)

-- and the one taken first from the one taken last
pub ends_linked : (hs rest : List Hand) (n : ℕ) (g h : Hand) → AreLinked hs → AreAll hs → hs ≡ rest ++ g ∷ [] → slice_get hs n ≡ Some h → n ≡ 0 → g.victim ≡ h.own
ends_linked hs rest n g h linked all is at none =
    last_linked hs linked all (length rest) g h (last_at hs rest g is) (long_last hs rest g is) (subst (λ (m : ℕ). slice_get hs m ≡ Some h) none at)
