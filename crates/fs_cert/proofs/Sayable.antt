-- Items that a file can say.
use Rattle.std.proofs.Common.{◌≡◌, ℕ, zero, suc, ◌+◌, ◌<◌, ◌≤◌, ◌++◌, Bool, true, false, cond, Some, List, [], ◌∷◌, map, length, take, drop, refl, sym, subst, arith}
use Rattle.std.specs.Prelude.{filter, count_by}
use Rattle.fs_kinds.specs.declared.kind.Kind.{Kind}
use Rattle.fs_kinds.specs.Kind.{all_kinds}
use Rattle.fs_board_offers.specs.Offers.{is_offered, Offer, options}
use Rattle.fs_cert_evidence.specs.Certificate.{Bounded}
use Rattle.fs_cert_evidence.specs.CertificateFile.{most_number}
use Rattle.fs_cert_json.specs.Kept.{item_of}
use Rattle.fs_cert_json.specs.declared.certificate.Item.{Item as CodeItem}
use Rattle.fs_board_offers.specs.Board as board
use Rattle.fs_model_laws.proofs.Places.{count_one, count-cons}
use Rattle.fs_cert.specs.inner.Items.{AreSmall, AreBelow, AreSayable, HasNumbers, IsSayable}

take_small : (ns : List ℕ) (n : ℕ) → AreSmall ns → AreSmall (take n ns)
take_small ns zero small = tt
take_small [] (suc n) small = tt
take_small (m ∷ ns) (suc n) small = (small.0, take_small ns n small.1)

-- a run of numbers, the first of which is there
run_said : (ns : List ℕ) (first count : ℕ) → AreSmall ns → first < length ns → IsSayable (Bounded (take (suc count) (drop first ns)))
run_said [] first count small low = absurd (omega (arith, low))
run_said (n ∷ ns) zero count small low = (refl, (small.0, take_small ns count small.1))
run_said (n ∷ ns) (suc first) count small low = run_said ns first count small.1 (omega (arith, low))

pub run_sayable : (ns : List ℕ) (first count : ℕ) (run : List ℕ) → run ≡ take count (drop first ns) → AreSmall ns → HasNumbers (length ns) (board.Bounded first count)
    → (count ≡ 0 → ⊥) → IsSayable (Bounded run)
run_sayable ns first zero run is small low some = absurd (some refl)
run_sayable ns first (suc count) run is small low some = subst (λ js. IsSayable (Bounded js)) (sym is) (run_said ns first count small low)

pub sayable_more : (items : List CodeItem) (item : CodeItem) → AreSayable (map item_of items) → IsSayable (item_of item)
    → AreSayable (map item_of (items ++ item ∷ []))
sayable_more [] item each here = (here, tt)
sayable_more (i ∷ items) item each here = (each.0, sayable_more items item each.1 here)

pub below_most : (ways n : ℕ) (status : board.Status) → n ≤ most_number → AreBelow ways n status → AreBelow ways most_number status
below_most ways n (board.Split slot first) most low = omega (arith, most, low)
below_most ways n board.Open most low = tt
below_most ways n (board.Held w) most low = tt
below_most ways n board.Costly most low = tt
below_most ways n (board.Witnessed j) most low = tt
below_most ways n (board.Bounded first count) most low = tt
below_most ways n board.Posted most low = tt

-- ---- the ways to decide a slot

lengths : {X : Type 0} (b : Bool) (y : X) (ys : List X) → length (cond b (y ∷ ys) ys) ≡ count_one b + length ys
lengths true y ys = omega arith
lengths false y ys = omega arith

counted : {X Y : Type 0} (f : Y → Bool) (g : X → Y) (xs : List X) → length (filter f (map g xs)) ≡ count_by (λ x. f (g x)) xs
counted f g [] = refl
counted f g (x ∷ xs) =
    let first = lengths (f (g x)) (g x) (filter f (map g xs)) in
    let rest = counted f g xs in
    let all = count-cons (λ y. f (g y)) x xs in
    omega (arith, first, rest, all)

pub ways_are : (offer : Offer) (n : ℕ) → n ≡ count_by (λ kind. is_offered offer (Some kind)) all_kinds → 1 + n ≡ length (options offer)
ways_are offer n is =
    let all = counted (is_offered offer) (λ (kind : Kind). Some kind) all_kinds in
    omega (arith, all, is)
