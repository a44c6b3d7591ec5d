-- Refutations by parts of a tree of inferences, put together.
use Rattle.std.proofs.Common.{◌≡◌, ℕ, ◌+◌, ◌-◌, ◌<◌, ◌≤◌, true, List, [], ◌∷◌, ◌++◌, length, get_or, sym, ◌∙◌, ap, subst, arith}
use Rattle.std.specs.Prelude.{drop, take, map, All, slice_range}
use Rattle.std.specs.List.{slice_index_or}
use Rattle.std.proofs.lemmas.Bool.{false≢true, and_parts}
use Rattle.std.proofs.lemmas.List.{append_assoc, drop_more, drop_all, drop-drop, take-append-drop, take-map, drop-map}
use Rattle.std.proofs.lemmas.List.Elements.{All-nil, All-from_get_or}
use Rattle.fs_kinds.specs.declared.placement.Entry.{Entry}
use Rattle.fs_model.specs.declared.test.Test.{Test}
use Rattle.fs_cert_evidence.specs.Regions.{Region}
use Rattle.fs_cert_evidence.specs.Certificate.{Inference}
use Rattle.fs_cert_evidence.specs.Trees.{follows, left_after, refutes}

module _ {X : Type 0} where
  -- what begins here, cut there
  pub cut_at : (xs : List X) (from to : ℕ) → from ≤ to → drop from xs ≡ slice_range xs from to ++ drop to xs
  cut_at xs from to low =
      let there : from + (to - from) ≡ to = omega (arith, low) in
      sym (take-append-drop (to - from) (drop from xs))
      ∙ ap (λ rest. slice_range xs from to ++ rest) (drop-drop (to - from) from xs ∙ ap (λ n. drop n xs) there)

  pub all_of_each : (P : X → Type 0) (xs : List X) → ((k : ℕ) (d : X) → k < length xs → P (slice_index_or xs k d)) → All P xs
  all_of_each P [] each = All-nil P
  all_of_each P (x ∷ xs) each = All-from_get_or P (x ∷ xs) x (λ k low. each k x low)

pub map_range : {X Y : Type 0} (f : X → Y) (xs : List X) (from to : ℕ) → slice_range (map f xs) from to ≡ map f (slice_range xs from to)
map_range f xs from to = ap (take (to - from)) (drop-map f from xs) ∙ take-map f (to - from) (drop from xs)

module _ (t : Test) (p : List Entry) where
  -- of some regions, and then of others
  pub refutes_both : (rs os : List Region) (is js : List Inference) → refutes t p rs is ≡ true → refutes t p os js ≡ true
      → refutes t p (rs ++ os) (is ++ js) ≡ true
  refutes_both [] os [] js one other = other
  refutes_both [] os (i ∷ is) js one other = absurd (false≢true one)
  refutes_both (r ∷ rs) os [] js one other = absurd (false≢true one)
  refutes_both (r ∷ rs) os (i ∷ is) js one other =
      let parts = and_parts (follows t p r i) (refutes t p (left_after t r i ++ rs) is) one in
      let later = refutes_both (left_after t r i ++ rs) os is js parts.1 other in
      let moved : refutes t p (left_after t r i ++ (rs ++ os)) (is ++ js) ≡ true =
      subst (λ regions. refutes t p regions (is ++ js) ≡ true) (append_assoc (left_after t r i) rs os) later in
      rw parts.0 moved

  module _ (is : List Inference) (k : ℕ) (region : Region) (others : List Region) where
    -- a subtree for the first region, and then the rest for the others
    pub with_subtree : (to : ℕ) → k ≤ to → refutes t p (region ∷ []) (slice_range is k to) ≡ true
        → refutes t p others (drop to is) ≡ true → refutes t p (region ∷ others) (drop k is) ≡ true
    with_subtree to low own rest =
        subst (λ js. refutes t p (region ∷ others) js ≡ true) (sym (cut_at is k to low))
        (refutes_both (region ∷ []) others (slice_range is k to) (drop to is) own rest)

    -- an inference for the first region, and then the rest for what it leaves and the others
    pub with_inference : (d : Inference) → k < length is → follows t p region (get_or is k d) ≡ true
        → refutes t p (left_after t region (get_or is k d) ++ others) (drop (k + 1) is) ≡ true
        → refutes t p (region ∷ others) (drop k is) ≡ true
    with_inference d low holds rest =
        subst (λ js. refutes t p (region ∷ others) js ≡ true) (sym (drop_more is k d low)) (rw holds rest)

  -- no region is left, and no inference
  pub with_nothing : (is : List Inference) (k : ℕ) → length is ≤ k → refutes t p [] (drop k is) ≡ true
  with_nothing is k high = ap (refutes t p []) (drop_all k is high)
