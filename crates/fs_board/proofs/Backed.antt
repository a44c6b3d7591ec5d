-- What backs the bound and the witnesses stays.
use Rattle.std.proofs.Common.{◌≡◌, ℕ, zero, suc, ◌+◌, arith, Bool, true, false, Option, None, Some, List, [], ◌∷◌, ◌++◌, map, refl, sym, ap, subst, inl, inr}
use Rattle.std.specs.Prelude.{Result, Ok, Err, IfOk, if◌then◌else◌, option_map, slice_get, drop}
use Rattle.fs_kinds.specs.declared.slot.Slot.{Slot}
use Rattle.fs_model.specs.declared.test.Test.{Test}
use Rattle.std.specs.declared.sync.Arc.{Arc}
use Rattle.std.specs.Arc.{arc_value}
use Rattle.fs_cert_evidence.specs.Evidence.{Shown, Refuted, ShowsForbidden, witness_in, placement_in}
use Rattle.fs_model_laws.proofs.Places.{at-append}
use Rattle.fs_board.specs.Growth.{AreWitnesses, IsBacked}

pub best_kept : (better : Bool) (f : Refuted) (bound : Option Refuted)
    → option_map (λ g. g.placement) (if better then Some f else bound) ≡ (if better then Some f.placement else option_map (λ g. g.placement) bound)
best_kept true f bound = refl
best_kept false f bound = refl

pub backed_bound : (t : Test) (ss : List Slot) (f : Refuted) (bound : Option Refuted) (ws : List Shown) (better : Bool) → ShowsForbidden t f
    → IsBacked t ss bound ws → IsBacked t ss (if better then Some f else bound) ws
backed_bound t ss f bound ws true is was = record { bound = is; witnesses = was.witnesses }
backed_bound t ss f bound ws false is was = was

pub backed_more : (t : Test) (ss : List Slot) (bound : Option Refuted) (ws more : List Shown) → AreWitnesses t ss more → IsBacked t ss bound ws
    → IsBacked t ss bound (ws ++ more)
backed_more t ss bound ws more are was = record {
  bound = was.bound;
  witnesses = λ k w at. elim (at-append ws more k w at) [
    | inl old ↦ was.witnesses k w old
    | inr new ↦ are new.0 w new.1
  ];
}

pub plain_witnesses : {A : Type 0} (ws : List (Arc Shown A)) → map (λ (w : Shown). w.witness) (map arc_value ws) ≡ map witness_in ws
plain_witnesses [] = refl
plain_witnesses (w ∷ ws) = ap (λ l. witness_in w ∷ l) (plain_witnesses ws)

pub more_witnesses : {A : Type 0} (xs : List Shown) (ws : List (Arc Shown A))
    → map (λ (w : Shown). w.witness) (xs ++ map arc_value ws) ≡ map (λ (w : Shown). w.witness) xs ++ map witness_in ws
more_witnesses [] ws = plain_witnesses ws
more_witnesses (x ∷ xs) ws = ap (λ l. x.witness ∷ l) (more_witnesses xs ws)

drop_get : (n : ℕ) (xs : List Shown) (k : ℕ) (x : Shown) → slice_get (drop n xs) k ≡ Some x → slice_get xs (n + k) ≡ Some x
drop_get zero xs k x at = let e : 0 + k ≡ k = omega arith in rw e at
drop_get (suc n) [] k x at = absurd (cc)
drop_get (suc n) (y ∷ xs) k x at = let e : suc n + k ≡ suc (n + k) = omega arith in rw e (drop_get n xs k x at)

pub witnesses_from : (t : Test) (ss : List Slot) (n : ℕ) (xs : List Shown) → AreWitnesses t ss xs → AreWitnesses t ss (drop n xs)
witnesses_from t ss n xs are = λ k x at. are (n + k) x (drop_get n xs k x at)

pub ok_given : {R E : Type 0} (result : Result R E) (r : R) (P : R → Type 0) → IfOk result (λ x. x ≡ r) → P r → IfOk result P
ok_given (Ok x) r P same is = subst P (sym same) is
ok_given (Err e) r P same is = tt

pub plain_bound : {A : Type 0} (b : Option (Arc Refuted A)) → option_map (λ (f : Refuted). f.placement) (option_map arc_value b) ≡ option_map placement_in b
plain_bound None = refl
plain_bound (Some f) = refl
