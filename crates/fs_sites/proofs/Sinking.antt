-- A bar that is broken is paid for: what is left to pay sinks by as much.
use Rattle.std.proofs.Common.{◌≡◌, ℕ, zero, suc, ◌+◌, ◌-◌, ◌≤◌, Bool, true, false, ◌&&◌, not, Option, None, Some, is_some, unwrap_or, option_map, List, [], ◌∷◌, ◌++◌, length, take, set, get_or, ◌<◌, refl, sym, ap, ap₂, subst, ◌∙◌, arith}
use Rattle.std.specs.Prelude.{if◌then◌else◌, slice_get, min}
use Rattle.std.proofs.lemmas.Bool.{and_parts, false≢true, true≢false, false_from_ne_true}
use Rattle.std.proofs.lemmas.List.{take_all}
use Rattle.fs_kinds.specs.declared.kind.Kind.{Kind}
use Rattle.fs_kinds.specs.declared.kind.Kind.TheVariants.{RR, RW, RRw, WR, WW, WRw, RwR, RwW, RwRw, Tso}
use Rattle.fs_kinds.specs.declared.placement.Entry.{Entry}
use Rattle.fs_kinds.specs.Placement.{rank}
use Rattle.fs_cert_evidence.specs.declared.evidence.Pairs.{Pairs}
use Rattle.fs_board_offers.specs.Offers.{Offer, price_of, is_offered, kind_cost}
use Rattle.fs_board_offers.specs.Breaks.{fits, break_cost, lesser_of, least_of, all_options}
use Rattle.fs_board_offers.specs.Pruning.{lesser}
use Rattle.fs_sites.specs.Plans.{is_within, breaks_all}
use Rattle.fs_sites.specs.Sinking.{Fills, paid, unbroken_rest, keeps_all, least_at, least_in, sunk_price, cheaper_offer, sunk_offer, sunk, IsAtMost}

-- ---- one site

itself : (n : ℕ) → n ≤ n
itself n = omega arith

-- where all pairs are kept each kind fits
fits-all : (pairs : Pairs) (kind : Option Kind) → keeps_all pairs ≡ true → fits pairs kind ≡ true
fits-all pairs None all = refl
fits-all pairs (Some RR) all = grind (arith, all)
fits-all pairs (Some RW) all = grind (arith, all)
fits-all pairs (Some RRw) all = grind (arith, all)
fits-all pairs (Some WR) all = grind (arith, all)
fits-all pairs (Some WW) all = grind (arith, all)
fits-all pairs (Some WRw) all = grind (arith, all)
fits-all pairs (Some RwR) all = grind (arith, all)
fits-all pairs (Some RwW) all = grind (arith, all)
fits-all pairs (Some RwRw) all = all
fits-all pairs (Some Tso) all = grind (arith, all)

not-all : (pairs : Pairs) (kind : Option Kind) → fits pairs kind ≡ false → keeps_all pairs ≡ false
not-all pairs kind broken =
    false_from_ne_true (keeps_all pairs) (λ all. true≢false (sym (fits-all pairs kind all) ∙ broken))

module _ (d : ℕ) (pairs : Pairs) (o : Offer) where
  price-cheaper : (kind : Kind) → price_of (cheaper_offer d pairs o) kind ≡ sunk_price d pairs o kind
  price-cheaper RR = refl
  price-cheaper RW = refl
  price-cheaper RRw = refl
  price-cheaper WR = refl
  price-cheaper WW = refl
  price-cheaper WRw = refl
  price-cheaper RwR = refl
  price-cheaper RwW = refl
  price-cheaper RwRw = refl
  price-cheaper Tso = refl

  there-or-not : (f : ℕ → ℕ) (price : Option ℕ) → is_some (option_map f price) ≡ is_some price
  there-or-not f None = refl
  there-or-not f (Some n) = refl

  offered-cheaper : (kind : Option Kind) → is_offered (cheaper_offer d pairs o) kind ≡ is_offered o kind
  offered-cheaper None = refl
  offered-cheaper (Some kind) =
      ap is_some (price-cheaper kind) ∙ there-or-not (λ n. if fits pairs (Some kind) then n else n - d) (price_of o kind)

  less-or-same : (b : Bool) (n : ℕ) → (if b then n else n - d) ≤ n
  less-or-same true n = omega arith
  less-or-same false n = omega arith

  price-below : (b : Bool) (price : Option ℕ) → unwrap_or (option_map (λ n. if b then n else n - d) price) 0 ≤ unwrap_or price 0
  price-below b None = omega arith
  price-below b (Some n) = less-or-same b n

  cheaper-below : (kind : Option Kind) → kind_cost (cheaper_offer d pairs o) kind ≤ kind_cost o kind
  cheaper-below None = omega arith
  cheaper-below (Some kind) =
      let same = ap (λ n. unwrap_or n 0) (price-cheaper kind) in
      let low = price-below (fits pairs (Some kind)) (price_of o kind) in
      omega (arith, same, low)

  price-sinks : (b : Bool) (price : Option ℕ) → b ≡ false → d ≤ unwrap_or price 0
      → d + unwrap_or (option_map (λ n. if b then n else n - d) price) 0 ≤ unwrap_or price 0
  price-sinks true price broken low = absurd (true≢false broken)
  price-sinks false None broken low = omega (arith, low)
  price-sinks false (Some n) broken low = omega (arith, low)

  cheaper-sinks : (kind : Option Kind) → fits pairs kind ≡ false → d ≤ kind_cost o kind
      → d + kind_cost (cheaper_offer d pairs o) kind ≤ kind_cost o kind
  cheaper-sinks None broken low = absurd (true≢false broken)
  cheaper-sinks (Some kind) broken low =
      let same = ap (λ n. unwrap_or n 0) (price-cheaper kind) in
      let sinks = price-sinks (fits pairs (Some kind)) (price_of o kind) broken low in
      omega (arith, same, sinks)

  -- where all pairs are kept the offer stays as it is
  pub slot-sunk : (sunk_offer d pairs o).slot ≡ o.slot
  slot-sunk = slot-by (keeps_all pairs)
    where
      slot-by : (b : Bool) → (if b then o else cheaper_offer d pairs o).slot ≡ o.slot
      slot-by true = refl
      slot-by false = refl

  pub offered-sunk : (kind : Option Kind) → is_offered (sunk_offer d pairs o) kind ≡ is_offered o kind
  offered-sunk kind = offered-by (keeps_all pairs)
    where
      offered-by : (b : Bool) → is_offered (if b then o else cheaper_offer d pairs o) kind ≡ is_offered o kind
      offered-by true = refl
      offered-by false = offered-cheaper kind

  pub cost-below : (kind : Option Kind) → kind_cost (sunk_offer d pairs o) kind ≤ kind_cost o kind
  cost-below kind = below-by (keeps_all pairs)
    where
      below-by : (b : Bool) → kind_cost (if b then o else cheaper_offer d pairs o) kind ≤ kind_cost o kind
      below-by true = itself (kind_cost o kind)
      below-by false = cheaper-below kind

  pub cost-sinks : (kind : Option Kind) → fits pairs kind ≡ false → d ≤ kind_cost o kind
      → d + kind_cost (sunk_offer d pairs o) kind ≤ kind_cost o kind
  cost-sinks kind broken low = sinks-by (keeps_all pairs) (not-all pairs kind broken)
    where
      sinks-by : (b : Bool) → b ≡ false → d + kind_cost (if b then o else cheaper_offer d pairs o) kind ≤ kind_cost o kind
      sinks-by true is = absurd (true≢false is)
      sinks-by false is = cheaper-sinks kind broken low

-- ---- the least of costs

lesser-left : (m n k : ℕ) → m ≤ k → lesser m (Some n) ≤ k
lesser-left m n k low = omega (arith, low)

pub at-most-left : (first second : Option ℕ) (k : ℕ) → IsAtMost first k → IsAtMost (lesser_of first second) k
at-most-left None second k low = absurd low
at-most-left (Some m) None k low = low
at-most-left (Some m) (Some n) k low = lesser-left m n k low

lesser-right : (m n k : ℕ) → n ≤ k → lesser m (Some n) ≤ k
lesser-right m n k low = omega (arith, low)

pub at-most-right : (first second : Option ℕ) (k : ℕ) → IsAtMost second k → IsAtMost (lesser_of first second) k
at-most-right first None k low = absurd low
at-most-right None (Some n) k low = low
at-most-right (Some m) (Some n) k low = lesser-right m n k low

least-found : {A : Type 0} (f : A → Option ℕ) (xs : List A) (i : ℕ) (x : A) (k : ℕ) → slice_get xs i ≡ Some x → IsAtMost (f x) k
    → IsAtMost (least_of f xs) k
least-found f [] i x k at low = absurd (cc)
least-found {A} f (y ∷ xs) zero x k at low =
    let same : x ≡ y = cc in
    at-most-left (f y) (least_of f xs) k (subst (λ (z : A). IsAtMost (f z) k) same low)
least-found f (y ∷ xs) (suc i) x k at low = at-most-right (f y) (least_of f xs) k (least-found f xs i x k at low)

option-at : (kind : Option Kind) → slice_get all_options (rank kind) ≡ Some kind
option-at None = refl
option-at (Some RR) = refl
option-at (Some RW) = refl
option-at (Some RRw) = refl
option-at (Some WR) = refl
option-at (Some WW) = refl
option-at (Some WRw) = refl
option-at (Some RwR) = refl
option-at (Some RwW) = refl
option-at (Some RwRw) = refl
option-at (Some Tso) = refl

break-by : (offered fitting : Bool) (n : ℕ) → offered ≡ true → fitting ≡ false → IsAtMost (if offered && not fitting then Some n else None) n
break-by false fitting n is broken = absurd (false≢true is)
break-by true true n is broken = absurd (true≢false broken)
break-by true false n is broken = omega arith

break-most : (o : Offer) (pairs : Pairs) (kind : Option Kind) → is_offered o kind ≡ true → fits pairs kind ≡ false
    → IsAtMost (least_at pairs o) (kind_cost o kind)
break-most o pairs kind offered broken = most-by (keeps_all pairs) (not-all pairs kind broken)
  where
    most-by : (b : Bool) → b ≡ false → IsAtMost (if b then None else least_of (break_cost o pairs) all_options) (kind_cost o kind)
    most-by true is = absurd (true≢false is)
    most-by false is =
        least-found (break_cost o pairs) all_options (rank kind) kind (kind_cost o kind) (option-at kind)
        (break-by (is_offered o kind) (fits pairs kind) (kind_cost o kind) offered broken)

-- ---- all sites

pub fills-sunk : (d : ℕ) (bar : List Pairs) (offers : List Offer) (p : List Entry) → Fills offers p → Fills (sunk d bar offers) p
fills-sunk d [] offers p fills = fills
fills-sunk d (pairs ∷ bar) [] p fills = fills
fills-sunk d (pairs ∷ bar) (o ∷ offers) [] fills = fills
fills-sunk d (pairs ∷ bar) (o ∷ offers) (e ∷ p) fills =
    (fills.0 ∙ sym (slot-sunk d pairs o), offered-sunk d pairs o e.kind ∙ fills.1, fills-sunk d bar offers p fills.2)

add-below : (a b c d : ℕ) → a ≤ b → c ≤ d → a + c ≤ b + d
add-below a b c d first second = omega (arith, first, second)

pub paid-below : (d : ℕ) (bar : List Pairs) (offers : List Offer) (p : List Entry) → paid (sunk d bar offers) p ≤ paid offers p
paid-below d [] offers p = itself (paid offers p)
paid-below d (pairs ∷ bar) [] p = itself (paid [] p)
paid-below d (pairs ∷ bar) (o ∷ offers) [] = omega arith
paid-below d (pairs ∷ bar) (o ∷ offers) (e ∷ p) =
    add-below (kind_cost (sunk_offer d pairs o) e.kind) (kind_cost o e.kind) (paid (sunk d bar offers) p) (paid offers p)
    (cost-below d pairs o e.kind) (paid-below d bar offers p)

-- where the bar is broken, what is left to pay sinks by anything up to the least way
pub record Sinks (bar : List Pairs) (offers : List Offer) (p : List Entry) : Type 0 where
  pub least : ℕ
  pub is : least_in bar offers ≡ Some least
  pub sinks : (d : ℕ) → d ≤ least → d + paid (sunk d bar offers) p ≤ paid offers p

sinks-here : (d a b x y : ℕ) → d + a ≤ b → x ≤ y → d + (a + x) ≤ b + y
sinks-here d a b x y first second = omega (arith, first, second)

sinks-later : (d a b x y : ℕ) → a ≤ b → d + x ≤ y → d + (a + x) ≤ b + y
sinks-later d a b x y first second = omega (arith, first, second)

there : (m : Option ℕ) (k : ℕ) → IsAtMost m k → (n : ℕ) × (m ≡ Some n) × (n ≤ k)
there None k low = absurd low
there (Some n) k low = (n, refl, low)

through : (a b c : ℕ) → a ≤ b → b ≤ c → a ≤ c
through a b c first second = omega (arith, first, second)

module _ (pairs : Pairs) (bar : List Pairs) (o : Offer) (offers : List Offer) (e : Entry) (p : List Entry) where
  here-sinks : is_offered o e.kind ≡ true → fits pairs e.kind ≡ false → Sinks (pairs ∷ bar) (o ∷ offers) (e ∷ p)
  here-sinks offered broken =
      let found = there (least_in (pairs ∷ bar) (o ∷ offers)) (kind_cost o e.kind)
      (at-most-left (least_at pairs o) (least_in bar offers) (kind_cost o e.kind) (break-most o pairs e.kind offered broken)) in
      record {
        least = found.0;
        is = found.1;
        sinks = λ d low.
            sinks-here d (kind_cost (sunk_offer d pairs o) e.kind) (kind_cost o e.kind) (paid (sunk d bar offers) p) (paid offers p)
            (cost-sinks d pairs o e.kind broken (through d found.0 (kind_cost o e.kind) low found.2)) (paid-below d bar offers p);
      }

  later-sinks : Sinks bar offers p → Sinks (pairs ∷ bar) (o ∷ offers) (e ∷ p)
  later-sinks later =
      let found = there (least_in (pairs ∷ bar) (o ∷ offers)) later.least
      (at-most-right (least_at pairs o) (least_in bar offers) later.least
      (subst (λ (m : Option ℕ). IsAtMost m later.least) (sym later.is) (itself later.least))) in
      record {
        least = found.0;
        is = found.1;
        sinks = λ d low.
            sinks-later d (kind_cost (sunk_offer d pairs o) e.kind) (kind_cost o e.kind) (paid (sunk d bar offers) p) (paid offers p)
            (cost-below d pairs o e.kind) (later.sinks d (through d found.0 later.least low found.2));
      }

  by-test : (b : Bool) → fits pairs e.kind ≡ b → is_offered o e.kind ≡ true → (b && is_within bar p) ≡ false
      → (is_within bar p ≡ false → Sinks bar offers p) → Sinks (pairs ∷ bar) (o ∷ offers) (e ∷ p)
  by-test true is offered broken later = later-sinks (later broken)
  by-test false is offered broken later = here-sinks offered is

pub broken-sinks : (bar : List Pairs) (offers : List Offer) (p : List Entry) → Fills offers p → is_within bar p ≡ false → Sinks bar offers p
broken-sinks [] offers p fills broken = absurd (true≢false broken)
broken-sinks (pairs ∷ bar) offers [] fills broken = absurd (true≢false broken)
broken-sinks (pairs ∷ bar) [] (e ∷ p) fills broken = absurd fills
broken-sinks (pairs ∷ bar) (o ∷ offers) (e ∷ p) fills broken =
    by-test pairs bar o offers e p (fits pairs e.kind) refl fills.1 broken (broken-sinks bar offers p fills.2)

-- ---- what is left of a bar

rest-by : (b : Bool) (pairs : Pairs) (bar : List Pairs) (rest : Option (List Pairs)) (left : List Pairs) (within : Bool) (w : Bool)
    → (if b then rest else None) ≡ Some left → (rest ≡ Some left → within ≡ w) → (b && within) ≡ w
rest-by true pairs bar rest left within w is same = same is
rest-by false pairs bar rest left within w is same = absurd (cc)

pub rest-within : (bar : List Pairs) (decided rest : List Entry) (left : List Pairs) → unbroken_rest bar decided ≡ Some left
    → is_within bar (decided ++ rest) ≡ is_within left rest
rest-within bar [] rest left is = let same : bar ≡ left = cc in ap (λ b. is_within b rest) same
rest-within [] (e ∷ p) rest left is = let same : [] ≡ left = cc in ap (λ b. is_within b rest) same
rest-within (pairs ∷ bar) (e ∷ p) rest left is =
    rest-by (fits pairs e.kind) pairs bar (unbroken_rest bar p) left (is_within bar (p ++ rest)) (is_within left rest) is
    (rest-within bar p rest left)

-- ---- one bar after the other

not-true : (b : Bool) → not b ≡ true → b ≡ false
not-true true is = absurd (false≢true is)
not-true false is = refl

pub never-paid : (bar : List Pairs) (decided : List Entry) (left : List Pairs) (offers : List Offer) (rest : List Entry)
    → unbroken_rest bar decided ≡ Some left → least_in left offers ≡ None → Fills offers rest
    → is_within bar (decided ++ rest) ≡ false → ⊥
never-paid bar decided left offers rest behind none fills broken =
    let sinks = broken-sinks left offers rest fills (sym (rest-within bar decided rest left behind) ∙ broken) in
    let is = sinks.is in
    cc

pub paid-once : (bar : List Pairs) (decided : List Entry) (left : List Pairs) (offers new : List Offer) (rest : List Entry) (d : ℕ)
    → unbroken_rest bar decided ≡ Some left → least_in left offers ≡ Some d → new ≡ sunk d left offers → Fills offers rest
    → is_within bar (decided ++ rest) ≡ false → Fills new rest × (d + paid new rest ≤ paid offers rest)
paid-once bar decided left offers new rest d behind least sank fills broken =
    let sinks = broken-sinks left offers rest fills (sym (rest-within bar decided rest left behind) ∙ broken) in
    let is = sinks.is in
    let same : d ≡ sinks.least = cc in
    subst (λ (us : List Offer). Fills us rest × (d + paid us rest ≤ paid offers rest)) (sym sank)
    (fills-sunk d left offers rest fills, sinks.sinks d (no-more d sinks.least same))
  where
    no-more : (m n : ℕ) → m ≡ n → m ≤ n
    no-more m n same = omega (arith, same)

-- what is paid for one more bar
pub paid-more : (least d most new old left cost whole : ℕ) → new ≡ min (least + d) most → d + left ≤ old → least + old ≤ cost + whole
    → new + left ≤ cost + whole
paid-more least d most new old left cost whole is paid low = omega (arith, is, paid, low)

-- ---- site by site

nothing-sunk : (d : ℕ) (bar : List Pairs) → sunk d bar [] ≡ []
nothing-sunk d [] = refl
nothing-sunk d (pairs ∷ bar) = refl

pub sunk-more : (d : ℕ) (bar : List Pairs) (offers : List Offer) (k : ℕ) (pairs : Pairs) (o : Offer) → k < length bar → k < length offers
    → set (sunk d (take k bar) offers) k (sunk_offer d (get_or bar k pairs) (get_or (sunk d (take k bar) offers) k o))
    ≡ sunk d (take (suc k) bar) offers
sunk-more d [] offers k pairs o low below = absurd (omega (arith, low))
sunk-more d (first ∷ bar) [] k pairs o low below = absurd (omega (arith, below))
sunk-more d (first ∷ bar) (u ∷ offers) zero pairs o low below = refl
sunk-more d (first ∷ bar) (u ∷ offers) (suc k) pairs o low below =
    ap (λ us. sunk_offer d first u ∷ us) (sunk-more d bar offers k pairs o (omega (arith, low)) (omega (arith, below)))

pub sunk-next : (d : ℕ) (bar : List Pairs) (offers now : List Offer) (k : ℕ) (pairs : Pairs) (o new : Offer) → k < length bar → k < length offers
    → now ≡ sunk d (take k bar) offers → new ≡ sunk_offer d (get_or bar k pairs) (get_or now k o)
    → set now k new ≡ sunk d (take (k + 1) bar) offers
sunk-next d bar offers now k pairs o new low below so_far is =
    let one : k + 1 ≡ suc k = omega arith in
    ap₂ (λ us u. set us k u) so_far (is ∙ ap (λ us. sunk_offer d (get_or bar k pairs) (get_or us k o)) so_far)
    ∙ (sunk-more d bar offers k pairs o low below ∙ ap (λ n. sunk d (take n bar) offers) (sym one))

pub sunk-whole : (d : ℕ) (bar : List Pairs) (offers : List Offer) (n : ℕ) → n ≡ min (length bar) (length offers)
    → sunk d (take n bar) offers ≡ sunk d bar offers
sunk-whole d [] offers n is = ap (λ b. sunk d b offers) (take_all n [] (omega arith))
sunk-whole d (first ∷ bar) [] n is = nothing-sunk d (take n (first ∷ bar)) ∙ sym (nothing-sunk d (first ∷ bar))
sunk-whole d (first ∷ bar) (u ∷ offers) zero is = absurd (omega (arith, is))
sunk-whole d (first ∷ bar) (u ∷ offers) (suc n) is =
    ap (λ us. sunk_offer d first u ∷ us) (sunk-whole d bar offers n (omega (arith, is)))

-- each bar is broken where all are
pub bar-broken : (bars : List (List Pairs)) (p : List Entry) (k : ℕ) (bar d : List Pairs) → breaks_all bars p ≡ true → k < length bars
    → bar ≡ get_or bars k d → is_within bar p ≡ false
bar-broken [] p k bar d breaks low is = absurd (omega (arith, low))
bar-broken (first ∷ bars) p zero bar d breaks low is =
    ap (λ b. is_within b p) is ∙ not-true (is_within first p) (and_parts (not (is_within first p)) (breaks_all bars p) breaks).0
bar-broken (first ∷ bars) p (suc k) bar d breaks low is =
    bar-broken bars p k bar d (and_parts (not (is_within first p)) (breaks_all bars p) breaks).1 (omega (arith, low)) is
