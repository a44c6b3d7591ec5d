-- Each call on a deque keeps what is conserved.
use Rattle.std.proofs.Common.{◌≡◌, ◌≢◌, ℕ, zero, suc, ◌+◌, true, false, true≢false, List, [], ◌∷◌, ◌++◌, length, set, sym, refl, ap, ◌∙◌, subst, ⊎_elim, arith}
use mathlib.Core.Option.{some, some-ne-none}
use lib.ListN.{get_elem?}
use Rattle.crossbeam_deque.specs.Tasks.{Pushes, Takes, Forks, Merges, Finds}
use Rattle.crossbeam_deque.proofs.Lists.{at_set, at_snoc}
use Rattle.fs_pool.specs.declared.deque.Tally.{Tally}
use Rattle.fs_pool.specs.Ring.{count_of}
use Rattle.fs_pool.specs.inner.Conserved.{tally, Fits, Conserves}

pub count_append : (x : ℕ) (xs ys : List ℕ) → count_of x (xs ++ ys) ≡ count_of x xs + count_of x ys
count_append x [] ys = omega arith
count_append x (z ∷ zs) ys = let e = count_append x zs ys in omega arith

at_end : (l : List Tally) (a b : Tally) (j : ℕ) → get_elem? l j ≢ some b → get_elem? (l ++ a ∷ []) j ≡ some b → j ≡ length l
at_end [] a b zero n e = refl
at_end [] a b (suc j) n e = absurd (some-ne-none b (sym e))
at_end (x ∷ xs) a b zero n e = absurd (n e)
at_end (x ∷ xs) a b (suc j) n e = ap suc (at_end xs a b j n e)

abbrev AllFit : (ℕ → Tally → Type 0) → List Tally → Type 0
AllFit F views = (port : ℕ) (v : Tally) → get_elem? views port ≡ some v → F port v

all_set : (F : ℕ → Tally → Type 0) (views : List Tally) (port : ℕ) (w : Tally) → F port w → ((j : ℕ) (u : Tally) → j ≢ port → get_elem? views j ≡ some u → F j u) → AllFit F (set views port w)
all_set F views port w mine others j u e = ⊎_elim (λ (x : (j ≡ port) × (w ≡ u)). subst (λ (y : ℕ × Tally). F y.0 y.1) (λ i. (sym x.0 i, x.1 i)) mine)
    (λ (x : (j ≢ port) × (get_elem? views j ≡ some u)). others j u x.0 x.1) (at_set views port j w u e)

pub begins : Conserves [] (tally true true [] [] [] ∷ [])
begins =
    let v : Tally = tally true true [] [] [] in
    record {
      owner = 0;
      thief = 0;
      pushed = [];
      popped = [];
      stolen = [];
      balance = λ x. refl;
      fits = all_set (Fits 0 0 [] [] []) (v ∷ []) 0 v ((λ _. (refl, refl, refl)), λ _. (refl, refl)) (λ j u other e. absurd (other (at_end [] v u j (λ x. some-ne-none u (sym x)) e)));
    }

pub pushes : (port : ℕ) (v : Tally) (xs : List ℕ) → v.owns ≡ true → Pushes Conserves port v xs (λ w. w ≡ record v { pushed = v.pushed ++ xs })
pushes port v xs may items views h at =
    let w : Tally = record v { pushed = v.pushed ++ xs } in
    let mine = h.fits port v at in
    let owns = mine.0 may in (
      w,
      record {
        owner = h.owner;
        thief = h.thief;
        pushed = h.pushed ++ xs;
        popped = h.popped;
        stolen = h.stolen;
        balance = λ x. let b = h.balance x in omega (arith, count_append x h.pushed xs, count_append x items xs);
        fits = all_set (Fits h.owner h.thief (h.pushed ++ xs) h.popped h.stolen) views port w ((λ _. (owns.0, ap (λ l. l ++ xs) owns.1, owns.2)), mine.1)
            (λ j u other e. ((λ p. absurd (other (((h.fits j u e).0 p).0 ∙ sym owns.0))), (h.fits j u e).1));
      },
      refl,
    )

pub pops : (port : ℕ) (v : Tally) → v.owns ≡ true → Takes Conserves port v 1 (λ xs w. w ≡ record v { popped = v.popped ++ xs })
pops port v may xs items views _ _ h at =
    let w : Tally = record v { popped = v.popped ++ xs } in
    let mine = h.fits port v at in
    let owns = mine.0 may in (
      w,
      record {
        owner = h.owner;
        thief = h.thief;
        pushed = h.pushed;
        popped = h.popped ++ xs;
        stolen = h.stolen;
        balance = λ x. let b = h.balance x in omega (arith, count_append x h.popped xs, count_append x xs items);
        fits = all_set (Fits h.owner h.thief h.pushed (h.popped ++ xs) h.stolen) views port w ((λ _. (owns.0, owns.1, ap (λ l. l ++ xs) owns.2)), mine.1)
            (λ j u other e. ((λ p. absurd (other (((h.fits j u e).0 p).0 ∙ sym owns.0))), (h.fits j u e).1));
      },
      refl,
    )

pub steals : (port : ℕ) (v : Tally) → v.steals ≡ true → Takes Conserves port v 1 (λ xs w. w ≡ record v { stolen = v.stolen ++ xs })
steals port v may xs items views _ _ h at =
    let w : Tally = record v { stolen = v.stolen ++ xs } in
    let mine = h.fits port v at in
    let thief = mine.1 may in (
      w,
      record {
        owner = h.owner;
        thief = h.thief;
        pushed = h.pushed;
        popped = h.popped;
        stolen = h.stolen ++ xs;
        balance = λ x. let b = h.balance x in omega (arith, count_append x h.stolen xs, count_append x xs items);
        fits = all_set (Fits h.owner h.thief h.pushed h.popped (h.stolen ++ xs)) views port w (mine.0, λ _. (thief.0, ap (λ l. l ++ xs) thief.1))
            (λ j u other e. ((h.fits j u e).0, λ p. absurd (other (((h.fits j u e).1 p).0 ∙ sym thief.0))));
      },
      refl,
    )

-- where the deque is empty, and the two passes are one
pub finds : (port : ℕ) (v : Tally) → v.owns ≡ true → Finds Conserves port v (v.steals ≡ true → (x : ℕ) → count_of x v.pushed ≡ count_of x v.popped + count_of x v.stolen)
finds port v may views h at both x =
    let mine = h.fits port v at in
    let b = h.balance x in
    rw ((mine.0 may).1, (mine.0 may).2, (mine.1 both).1) (omega arith)

pub forks : (port : ℕ) (v : Tally) → v.owns ≡ true → v.steals ≡ true → Forks Conserves port v (tally true false v.pushed v.popped []) (tally false true [] [] v.stolen)
forks port v a b items views h at =
    let l : Tally = tally true false v.pushed v.popped [] in
    let r : Tally = tally false true [] [] v.stolen in
    let mine = h.fits port v at in
    let vs : List Tally = set views port l in
    let Old : ℕ → Tally → Type 0 = λ j u. (u.owns ≡ true → (j ≡ h.owner) × (u.pushed ≡ h.pushed) × (u.popped ≡ h.popped)) × (u.steals ≢ true) in
    let old : AllFit Old vs = all_set Old views port l ((λ _. mine.0 a), λ p. true≢false (sym p)) (λ j u other e. ((h.fits j u e).0, λ p. other (((h.fits j u e).1 p).0 ∙ sym (mine.1 b).0))) in
    record {
      owner = h.owner;
      thief = length vs;
      pushed = h.pushed;
      popped = h.popped;
      stolen = h.stolen;
      balance = h.balance;
      fits = λ j u e.
          ⊎_elim (λ x. ((old j u x).0, λ p. absurd ((old j u x).1 p)))
          (λ (is : r ≡ u). ((λ p. absurd (true≢false (sym (ap (λ (y : Tally). y.owns) is ∙ p)))), λ p. (at_end vs r u j (λ x. (old j u x).1 p) e, ap (λ (y : Tally). y.stolen) (sym is) ∙ (mine.1 b).1)))
          (at_snoc vs r u j e);
    }

pub merges : (port : ℕ) (v : Tally) (other : ℕ) (u : Tally) → v.owns ≡ true → u.steals ≡ true → Merges Conserves port v other u (tally true true v.pushed v.popped u.stolen) (tally false false [] [] [])
merges port v other u a b items views h at two at' =
    let both : Tally = tally true true v.pushed v.popped u.stolen in
    let mine = h.fits port v at in
    let vs : List Tally = set views port both in
    let was : get_elem? views other ≡ some u = ⊎_elim (λ x. absurd (two x.0)) (λ x. x.1) (at_set views port other both u at') in
    let theirs = (h.fits other u was).1 b in
    let Now : ℕ → Tally → Type 0 = λ j y. j ≢ other → Fits h.owner port h.pushed h.popped h.stolen j y in
    let now : AllFit Now vs = all_set Now views port both (λ _. ((λ _. mine.0 a), λ _. (refl, theirs.1))) (λ j y _ e apart. ((h.fits j y e).0, λ p. absurd (apart (((h.fits j y e).1 p).0 ∙ sym theirs.0)))) in
    record {
      owner = h.owner;
      thief = port;
      pushed = h.pushed;
      popped = h.popped;
      stolen = h.stolen;
      balance = h.balance;
      fits = all_set (Fits h.owner port h.pushed h.popped h.stolen) vs other (tally false false [] [] []) ((λ p. absurd (true≢false (sym p))), λ p. absurd (true≢false (sym p))) (λ j y apart e. now j y e apart);
    }
