-- The operations of the runs without a turn: those of the whole runs without the turn's, at their places there.
use Rattle.std.proofs.Common.{◌≡◌, ℕ, suc, ◌+◌, ◌-◌, ◌<◌, ◌≤◌, List, [], ◌++◌, length, map, get_or, refl, ap, sym, ◌∙◌, arith, append_assoc, length-append}
use Rattle.std.specs.Prelude.{slice_set, take, drop}
use Rattle.std.specs.List.{enumerate_from}
use Rattle.std.proofs.lemmas.List.{map-append, length-map, length-take-le, set-get_or}
use Rattle.fs_model.specs.declared.operation.Operation.{Operation}
use Rattle.fs_model.specs.declared.step.Step.{Step}
use Rattle.fs_model.specs.Operations.{PreExecution, accesses, operations, operation, nothing, initial_store, steps_of}
use Rattle.fs_app_plain.specs.Turns.{without_turn}
use Rattle.fs_app_plain.proofs.Cut.{whole, short}
use Rattle.fs_app_plain.proofs.Shortened.{there, IsGone}
use Rattle.fs_app_plain.proofs.FewerThere.{there_low, there_high, index_there, index_in_part}
use Rattle.fs_app_plain.proofs.FewerMoved.{accesses_from, accesses_append, accesses_moved, moved, own_place, stores_stay, harts_from, harts_split, others_stay}

-- ---- lists of which the first has a part that the second lacks

regroup_short : {X : Type 0} (front before after others initial : List X)
    → front ++ ((before ++ after) ++ others) ++ initial ≡ (front ++ before) ++ (after ++ (others ++ initial))
regroup_short front before after others initial = simp append_assoc

regroup_whole : {X : Type 0} (front before turn after others initial : List X)
    → front ++ ((before ++ (turn ++ after)) ++ others) ++ initial
    ≡ (front ++ before) ++ (turn ++ (after ++ (others ++ initial)))
regroup_whole front before turn after others initial = simp append_assoc

length_short : {X : Type 0} (front before after others : List X)
    → length (front ++ ((before ++ after) ++ others)) ≡ length (front ++ before) + (length after + length others)
length_short front before after others = simp length-append (omega arith)

length_whole : {X : Type 0} (front before turn after others : List X)
    → length (front ++ ((before ++ (turn ++ after)) ++ others))
    ≡ length (front ++ before) + (length turn + (length after + length others))
length_whole front before turn after others = simp length-append (omega arith)

-- ---- how many operations come before the turn, and how many are its own

-- those of the harts before, and of the steps before the turn
abbrev pub operations_before : (traces : List (List Step)) (hart : ℕ) (before : List Step) → List Operation
operations_before traces hart before = harts_from 0 (take hart traces) ++ accesses_from hart 0 before

abbrev pub operations_of_turn : (hart : ℕ) (before turn : List Step) → List Operation
operations_of_turn hart before turn = accesses_from hart (length before) turn

abbrev pub number_from : (traces : List (List Step)) (hart : ℕ) (before : List Step) → ℕ
number_from traces hart before = length (operations_before traces hart before)

abbrev pub count_of_turn : (hart : ℕ) (before turn : List Step) → ℕ
count_of_turn hart before turn = length (operations_of_turn hart before turn)

abbrev pub with_turn : (traces : List (List Step)) (words : List ℕ) → PreExecution
with_turn traces words = record { traces = traces; words = words }

abbrev pub shortened_pre : (traces : List (List Step)) (words : List ℕ) (hart : ℕ) (before after : List Step)
    → PreExecution
shortened_pre traces words hart before after = record { traces = without_turn traces hart before after; words = words }

module _ (traces : List (List Step)) (words : List ℕ) (hart : ℕ) (before turn after : List Step)
    (low : hart < length traces) (run : steps_of traces hart ≡ whole before turn after) where
  abbrev x : PreExecution
  x = with_turn traces words

  abbrev y : PreExecution
  y = shortened_pre traces words hart before after

  abbrev front : List Operation
  front = operations_before traces hart before

  abbrev part : List Operation
  part = operations_of_turn hart before turn

  -- those of the harts before, and of the steps before the turn
  abbrev earlier : List Operation
  earlier = harts_from 0 (take hart traces)

  abbrev begun : List Operation
  begun = accesses_from hart 0 before

  -- those after it, of this hart and of later ones
  abbrev tail : List Operation
  tail = accesses_from hart (length before) after

  abbrev others : List Operation
  others = harts_from (hart + 1) (drop (suc hart) traces)

  abbrev initial : List Operation
  initial = map initial_store (enumerate_from 0 words)

  abbrev rest : List Operation
  rest = tail ++ (others ++ initial)

  abbrev to : Operation → Operation
  to = moved hart (length before) (length turn)

  tail_moved : accesses_from hart (length before + length turn) after ≡ map to tail
  tail_moved =
      accesses_moved hart (length before) (length turn) hart (length before) (length before + length turn) after
      (λ k small. own_place hart (length before) (length turn) (length before + k)
      ∙ there_high (length before) (length turn) (length before + k) (omega arith)
      ∙ omega arith)

  before_stays : begun ≡ map to begun
  before_stays =
      accesses_moved hart (length before) (length turn) hart 0 0 before
      (λ k small. own_place hart (length before) (length turn) (0 + k)
      ∙ there_low (length before) (length turn) (0 + k) (omega (arith, small)))

  harts_before_stay : earlier ≡ map to earlier
  harts_before_stay =
      let long = length-take-le hart traces (omega (arith, low)) in
      others_stay hart (length before) (length turn) 0 (take hart traces) (λ k small e. omega (arith, small, e, long))

  front_stays : front ≡ map to front
  front_stays =
      ap (λ os. os ++ begun) harts_before_stay
      ∙ ap (λ os. map to earlier ++ os) before_stays
      ∙ sym (map-append to earlier begun)

  others_moved : others ≡ map to others
  others_moved =
      others_stay hart (length before) (length turn) (hart + 1) (drop (suc hart) traces) (λ k small e. omega (arith, e))

  rest_moved : map to tail ++ (others ++ initial) ≡ map to rest
  rest_moved =
      ap (λ os. map to tail ++ (os ++ initial)) others_moved
      ∙ ap (λ os. map to tail ++ (map to others ++ os))
      (stores_stay hart (length before) (length turn) (enumerate_from 0 words))
      ∙ ap (λ os. map to tail ++ os) (sym (map-append to others initial))
      ∙ sym (map-append to tail (others ++ initial))

  pub accesses_short : accesses y ≡ earlier ++ ((begun ++ tail) ++ others)
  accesses_short =
      harts_split 0 hart hart traces (short before turn after) low (omega arith)
      ∙ ap (λ os. earlier ++ (os ++ others))
      (accesses_append hart 0 (length before) before after (omega arith))

  pub accesses_whole : accesses x ≡ earlier ++ ((begun ++ (part ++ map to tail)) ++ others)
  accesses_whole =
      ap (harts_from 0) (sym (set-get_or traces hart []))
      ∙ ap (λ steps. harts_from 0 (slice_set traces hart steps)) run
      ∙ harts_split 0 hart hart traces (whole before turn after) low (omega arith)
      ∙ ap (λ os. earlier ++ (os ++ others))
      (accesses_append hart 0 (length before) before (turn ++ after) (omega arith))
      ∙ ap (λ os. earlier ++ ((begun ++ os) ++ others))
      (accesses_append hart (length before) (length before + length turn) turn after refl)
      ∙ ap (λ os. earlier ++ ((begun ++ (part ++ os)) ++ others)) tail_moved

  operations_short : operations y ≡ front ++ rest
  operations_short =
      ap (λ os. os ++ initial) accesses_short
      ∙ regroup_short earlier begun tail others initial

  operations_whole : operations x ≡ front ++ (part ++ map to rest)
  operations_whole =
      ap (λ os. os ++ initial) accesses_whole
      ∙ regroup_whole earlier begun part (map to tail) others initial
      ∙ ap (λ os. front ++ (part ++ os)) rest_moved

  -- the operations that stay
  pub operation_there : (a : ℕ)
      → operation x (there (number_from traces hart before) (count_of_turn hart before turn) a)
      ≡ to (operation y a)
  operation_there a =
      ap (λ os. get_or os (there (length front) (length part) a) nothing) operations_whole
      ∙ index_there to nothing refl front part rest front_stays a
      ∙ ap (λ os. to (get_or os a nothing)) (sym operations_short)

  -- those that are gone
  pub operation_gone : (g : ℕ) → IsGone (number_from traces hart before) (count_of_turn hart before turn) g
      → operation x g ≡ get_or part (g - length front) nothing
  operation_gone g gone =
      ap (λ os. get_or os g nothing) operations_whole ∙ index_in_part front part (map to rest) nothing g gone.0 gone.1

  -- how many there are
  pub fewer : length (accesses x) ≡ length (accesses y) + count_of_turn hart before turn
  fewer =
      let shorter = length_short earlier begun tail others in
      let longer = length_whole earlier begun part (map to tail) others in
      let same = length-map tail to in
      let first = ap length accesses_short in
      let second = ap length accesses_whole in
      omega (arith, shorter, longer, same, first, second)

  pub from_inside : number_from traces hart before ≤ length (accesses y)
  from_inside =
      let shorter = length_short earlier begun tail others in
      let first = ap length accesses_short in
      omega (arith, shorter, first)
