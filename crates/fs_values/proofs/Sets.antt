-- Two sets of words with the same words at each location: runs over them fail alike.
use Rattle.std.proofs.Common.{◌≡◌, ◌↔◌, ℕ, zero, suc, ◌+◌, ◌-◌, ◌≤◌, inl, inr, List, arith, refl, subst}
use Rattle.fs_kinds.specs.declared.fault.Fault.{Fault}
use Rattle.fs_kinds.specs.declared.fault.Fault.TheVariants as fault
use Rattle.fs_model.specs.declared.test.Test.{Test}
use Rattle.fs_model.specs.declared.step.Step.{Step}
use Rattle.fs_model.specs.declared.step.Choice.{Choice}
use Rattle.fs_model.specs.Values.{IsValueAfter, LoadsFrom}
use Rattle.fs_model.specs.TooMany.{AreMoreThan, most_choice_lists, EndsAstray, Ends, IsFirstAstray, IsHartFault}
use Rattle.fs_values.specs.Rounds.{AreSameSets, IsInNext, AddsNothing}

-- the words of V are words of W
abbrev pub AreAmong : (V W : ℕ → ℕ → Type 0) → Type 0
AreAmong V W = (k word : ℕ) → V k word → W k word

pub forth : (V W : ℕ → ℕ → Type 0) → AreSameSets V W → AreAmong V W
forth V W same k word = (same k word).0

pub back : (V W : ℕ → ℕ → Type 0) → AreSameSets V W → AreAmong W V
back V W same k word = (same k word).1

pub turned : (V W : ℕ → ℕ → Type 0) → AreSameSets V W → AreSameSets W V
turned V W same k word = ((same k word).1, (same k word).0)

pub joined : (U V W : ℕ → ℕ → Type 0) → AreSameSets U V → AreSameSets V W → AreSameSets U W
joined U V W a b k word = ((λ u. (b k word).0 ((a k word).0 u)), (λ w. (a k word).1 ((b k word).1 w)))

pub loads : (V W : ℕ → ℕ → Type 0) → AreAmong V W → (steps : List Step) → LoadsFrom V steps → LoadsFrom W steps
loads V W more steps all i d low k word address loaded = more k word (all i d low k word address loaded)

module _ (t : Test) (V W : ℕ → ℕ → Type 0) (more : AreAmong V W) (hart : ℕ) where
  astray : (choices : List Choice) (at : ℕ) → EndsAstray t V hart choices at → EndsAstray t W hart choices at
  astray choices at h = record { steps = h.steps; astray = h.astray; all_taken = h.all_taken; loads = loads V W more h.steps h.loads }

  ends : (choices : List Choice) → Ends t V hart choices → Ends t W hart choices
  ends choices (inl whole) = inl (whole.0, whole.1, loads V W more whole.0 whole.2)
  ends choices (inr h) = inr (h.0, astray choices h.0 h.1)

  many : AreMoreThan most_choice_lists (Ends t V hart) → AreMoreThan most_choice_lists (Ends t W hart)
  many h = (h.0, h.1, (λ k d low. ends _ (h.2 k d low)), h.3)

module _ (t : Test) (V W : ℕ → ℕ → Type 0) (same : AreSameSets V W) (hart : ℕ) where
  first_astray : (at : ℕ) → IsFirstAstray t V hart at → IsFirstAstray t W hart at
  first_astray at h = (
    h.0,
    astray t V W (forth V W same) hart h.0 at h.1,
    λ others k x. h.2 others k (astray t W V (back V W same) hart others k x),
  )

  pub hart_fault : (f : Fault) → IsHartFault t V hart f → IsHartFault t W hart f
  hart_fault fault.TooManyTraces h = many t V W (forth V W same) hart h
  hart_fault (fault.Astray g at) h = (
    h.0,
    (λ x. h.1 (many t W V (back V W same) hart x)),
    first_astray at h.2,
  )
  hart_fault other h = h

pub same_fault : (t : Test) (V W : ℕ → ℕ → Type 0) → AreSameSets V W → (hart : ℕ) (f : Fault) → IsHartFault t V hart f ↔ IsHartFault t W hart f
same_fault t V W same hart f = (hart_fault t V W same hart f, hart_fault t W V (turned V W same) hart f)

-- ---- rounds

-- what a round makes of more words has more words
pub next_more : (t : Test) (V W : ℕ → ℕ → Type 0) → AreAmong V W → AreAmong (IsInNext t V) (IsInNext t W)
next_more t V W more k word (inl there) = inl (more k word there)
next_more t V W more k word (inr (hart, steps, low, run, from, stored)) =
    inr (hart, steps, low, run, loads V W more steps from, stored)

pub next_same : (t : Test) (V W : ℕ → ℕ → Type 0) → AreSameSets V W → AreSameSets (IsInNext t V) (IsInNext t W)
next_same t V W same k word = (next_more t V W (forth V W same) k word, next_more t W V (back V W same) k word)

module _ (t : Test) (n : ℕ) (nothing : AddsNothing t n) where
  abbrev EndsAt : ℕ → Type 0
  EndsAt m = AreSameSets (IsValueAfter t n) (IsValueAfter t m)

  one_more : (m : ℕ) → EndsAt m → EndsAt (suc m)
  one_more m same k word = (
    (λ v. inl ((same k word).0 v)),
    (λ v. nothing k word (next_more t (IsValueAfter t m) (IsValueAfter t n) (back (IsValueAfter t n) (IsValueAfter t m) same) k word v)),
  )

  after : (d m : ℕ) → m ≡ n + d → EndsAt m
  after zero m e = let same : n ≡ m = omega (arith, e) in subst EndsAt same (λ k word. ((λ v. v), (λ v. v)))
  after (suc d) m e =
      let here : suc (n + d) ≡ m = omega (arith, e) in
      subst EndsAt here (one_more (n + d) (after d (n + d) refl))

  pub ended : (m : ℕ) → n ≤ m → EndsAt m
  ended m low = after (m - n) m (omega (arith, low))

  pub ended_faults : (m : ℕ) → n ≤ m → (hart : ℕ) (f : Fault) → IsHartFault t (IsValueAfter t n) hart f ↔ IsHartFault t (IsValueAfter t m) hart f
  ended_faults m low = same_fault t (IsValueAfter t n) (IsValueAfter t m) (ended m low)
