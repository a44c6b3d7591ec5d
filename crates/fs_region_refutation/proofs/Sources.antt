-- Sources by the numbers that rules see.
use Rattle.std.proofs.Common.{◌≡◌, ℕ, ◌+◌, ◌<◌, ◌≤◌, ◌==◌, inl, inr, Bool, true, false, ◌&&◌, not, Option, None, Some, is_some, unwrap_or, List, length, get_or, refl, sym, ◌∙◌, ap, subst, arith}
use Rattle.std.specs.List.{position_or_len}
use Rattle.std.proofs.lemmas.Bool.{false≢true, cases_lt, and_parts, and_from, or_cases, or_left, or_right, eqb-true, eq-eqb}
use Rattle.std.proofs.lemmas.List.Sums.{fails_before_first, passes_at_first, prefix_len-le-length}
use Rattle.fs_kinds.specs.declared.reason.OperationName.{OperationName as Name}
use Rattle.fs_model.specs.declared.test.Test.{Test}
use Rattle.fs_model.specs.Numbers.{is_same}
use Rattle.fs_model.specs.Operations.{PreExecution, accesses, operation, operations}
use Rattle.fs_model.proofs.WhichOperation.{hart_access, length_operations, no_hart_past}
use Rattle.fs_cand.proofs.Distinct.{named}
use Rattle.fs_ppo.proofs.Tests.{same_tests}
use Rattle.fs_cert_evidence.specs.Regions.{Region, same_name, same_source, names}
use Rattle.fs_cert_evidence.specs.Musts.{number_of, source_number}
use Rattle.fs_cert_evidence.specs.Trees.{is_name}
use Rattle.fs_verdict_laws.proofs.Names.{name_is, is_itself}
use Rattle.fs_verdict_laws.proofs.Alone.{number_named}
use Rattle.fs_region_refutation.specs.declared.source.Source.{Source}
use Rattle.fs_region_refutation.specs.declared.source.Source.TheVariants.{Initial, From}
use Rattle.fs_region_refutation.specs.Alone.{RunOf, execution_of, source_of}
use Rattle.fs_region_refutation.specs.inner.Ordered.{IsOwn, number_from, is_unnamed, count_as_one}
use Rattle.fs_region_refutation.proofs.Named.{any_default, named_in, from_names}

-- ---- the place of a name among those of the test

place_le : (n : Name) (ns : List Name) → position_or_len (same_name n) ns ≤ length ns
place_le n ns = prefix_len-le-length (λ m. not (same_name n m)) ns

named_place : (t : Test) (n : Name) → is_name t n ≡ true → position_or_len (same_name n) (names t) < length (names t)
named_place t n is = elim (cases_lt (position_or_len (same_name n) (names t)) (length (names t))) [
  | inl low ↦ low
  | inr high ↦ (
      let has = named_in t n is in
      let fails = fails_before_first (same_name n) (names t) has.0 n (let low = has.1 in omega (arith, low, high)) in
      absurd (false≢true (sym fails ∙ is_itself n (get_or (names t) has.0 n) (sym has.2))))
]

place_named : (t : Test) (n : Name) → position_or_len (same_name n) (names t) < length (names t)
    → get_or (names t) (position_or_len (same_name n) (names t)) n ≡ n
place_named t n low = sym (name_is n (get_or (names t) (position_or_len (same_name n) (names t)) n) (passes_at_first (same_name n) (names t) n low))

not_named : (t : Test) (n : Name) → is_name t n ≡ false → position_or_len (same_name n) (names t) ≡ length (names t)
not_named t n none = elim (cases_lt (position_or_len (same_name n) (names t)) (length (names t))) [
  | inl low ↦ absurd (false≢true (sym none ∙ from_names t n (position_or_len (same_name n) (names t), low, place_named t n low)))
  | inr high ↦ (let few = place_le n (names t) in omega (arith, few, high))
]

-- ---- numbers of sources

module _ (run : RunOf) (region : Region) where
  abbrev x : PreExecution
  x = execution_of run

  abbrev number : Source → ℕ
  number s = source_number run.test region x (source_of s)

  -- what a source is, and its number
  pub data Which (s : Source) (n : ℕ) : Type 0 where
    First : (is : s ≡ Initial) (at : n ≡ length (operations x)) → Which s n
    Own : (k : Name) (is : s ≡ From k) (there : number_of x k ≡ Some n) (low : n < length (accesses x)) → Which s n
    Other : (k : Name) (is : s ≡ From k) (none : number_of x k ≡ None) (place : ℕ) (low : place < length (names run.test))
        (at : n ≡ length (operations x) + 1 + place) (there : get_or (names run.test) place k ≡ k) (named : is_name run.test k ≡ true) → Which s n
    Unnamed : (k : Name) (is : s ≡ From k) (none : number_of x k ≡ None) (other : is_name run.test k ≡ false)
        (at : n ≡ length (operations x) + 1 + length (names run.test)) → Which s n

  own_low : (k : Name) (n : ℕ) → number_of x k ≡ Some n → n < length (accesses x)
  own_low k n e = hart_access x n k.hart (named x n k (number_named x k n e)).hart

  which : (s : Source) → Which s (number s)
  which Initial = First refl refl
  which (From k) = by_number (number_of x k) refl
    where
      from_test : number_of x k ≡ None → (b : Bool) → is_name run.test k ≡ b → Which (From k) (length (operations x) + 1 + position_or_len (same_name k) (names run.test))
      from_test none true e =
          let low = named_place run.test k e in
          Other k refl none (position_or_len (same_name k) (names run.test)) low refl (place_named run.test k low) e
      from_test none false e = Unnamed k refl none e (ap (λ (m : ℕ). length (operations x) + 1 + m) (not_named run.test k e))

      by_number : (o : Option ℕ) → number_of x k ≡ o → Which (From k) (unwrap_or o (length (operations x) + 1 + position_or_len (same_name k) (names run.test)))
      by_number None e = from_test e (is_name run.test k) refl
      by_number (Some i) e = Own k refl e (own_low k i e)

  -- two whose numbers are the same are one source, or both are names that nothing has
  unnamed_is : (k : Name) → number_of x k ≡ None → is_name run.test k ≡ false → is_unnamed run (From k) ≡ true
  unnamed_is k none other = rw (none, other) refl

  named_not : (k : Name) (n : ℕ) → number_of x k ≡ Some n → is_unnamed run (From k) ≡ false
  named_not k n e = rw e refl

  other_not : (k : Name) → is_name run.test k ≡ true → is_unnamed run (From k) ≡ false
  other_not k e = rw e (off (not (is_some (number_of x k))))
    where
      off : (b : Bool) → (b && false) ≡ false
      off true = refl
      off false = refl

  by_same : (s u : Source) → s ≡ u → count_as_one run s u ≡ true
  by_same s u e = or_left (same_source (source_of s) (source_of u)) (is_unnamed run s && is_unnamed run u) (subst (λ (z : Source). same_source (source_of s) (source_of z) ≡ true) e (itself s))
    where
      itself : (s : Source) → same_source (source_of s) (source_of s) ≡ true
      itself Initial = refl
      itself (From k) = is_itself k k refl

  by_unnamed : (s u : Source) (k m : Name) → s ≡ From k → u ≡ From m → number_of x k ≡ None → is_name run.test k ≡ false
      → number_of x m ≡ None → is_name run.test m ≡ false → count_as_one run s u ≡ true
  by_unnamed s u k m e f none other none' other' =
      or_right (same_source (source_of s) (source_of u)) (is_unnamed run s && is_unnamed run u)
      (and_from (is_unnamed run s) (is_unnamed run u) (ap (is_unnamed run) e ∙ unnamed_is k none other) (ap (is_unnamed run) f ∙ unnamed_is m none' other'))

  one_from : (s u : Source) (n : ℕ) → Which s n → Which u n → count_as_one run s u ≡ true
  one_from s u n (First is at) (First is' at') = by_same s u (is ∙ sym is')
  one_from s u n (First is at) (Own k is' there low) = absurd (let long = length_operations x in omega (arith, at, low, long))
  one_from s u n (First is at) (Other k is' none place low at' there is_named) = absurd (omega (arith, at, at'))
  one_from s u n (First is at) (Unnamed k is' none other at') = absurd (omega (arith, at, at'))
  one_from s u n (Own k is there low) (First is' at') = absurd (let long = length_operations x in omega (arith, at', low, long))
  one_from s u n (Own k is there low) (Own m is' there' low') =
      let one : k ≡ m = (let both : Some k ≡ Some m = sym (number_named x k n there) ∙ number_named x m n there' in cc) in
      by_same s u (is ∙ ap From one ∙ sym is')
  one_from s u n (Own k is there low) (Other m is' none place low' at' there' is_named) = absurd (let long = length_operations x in omega (arith, at', low, long))
  one_from s u n (Own k is there low) (Unnamed m is' none other at') = absurd (let long = length_operations x in omega (arith, at', low, long))
  one_from s u n (Other k is none place low at there is_named) (First is' at') = absurd (omega (arith, at, at'))
  one_from s u n (Other k is none place low at there is_named) (Own m is' there' low') = absurd (let long = length_operations x in omega (arith, at, low', long))
  one_from s u n (Other k is none place low at there is_named) (Other m is' none' place' low' at' there' is_named') =
      let same : place ≡ place' = omega (arith, at, at') in
      let one : k ≡ m =
      sym there ∙ any_default (names run.test) place k m low ∙ ap (λ (j : ℕ). get_or (names run.test) j m) same ∙ there' in
      by_same s u (is ∙ ap From one ∙ sym is')
  one_from s u n (Other k is none place low at there is_named) (Unnamed m is' none' other at') = absurd (omega (arith, at, at', low))
  one_from s u n (Unnamed k is none other at) (First is' at') = absurd (omega (arith, at, at'))
  one_from s u n (Unnamed k is none other at) (Own m is' there' low') = absurd (let long = length_operations x in omega (arith, at, low', long))
  one_from s u n (Unnamed k is none other at) (Other m is' none' place low at' there is_named) = absurd (omega (arith, at, at', low))
  one_from s u n (Unnamed k is none other at) (Unnamed m is' none' other' at') = by_unnamed s u k m is is' none other none' other'

  -- and those that count as one have one number
  unnamed_number : (s : Source) (n : ℕ) → Which s n → is_unnamed run s ≡ true → n ≡ length (operations x) + 1 + length (names run.test)
  unnamed_number s n (First is at) e = absurd (false≢true (sym (ap (is_unnamed run) is) ∙ e))
  unnamed_number s n (Own k is there low) e = absurd (false≢true (sym (ap (is_unnamed run) is ∙ named_not k n there) ∙ e))
  unnamed_number s n (Other k is none place low at there is_named) e = absurd (false≢true (sym (ap (is_unnamed run) is ∙ other_not k is_named) ∙ e))
  unnamed_number s n (Unnamed k is none other at) e = at

  same_is : (s u : Source) → same_source (source_of s) (source_of u) ≡ true → s ≡ u
  same_is Initial Initial e = refl
  same_is Initial (From m) e = absurd (false≢true e)
  same_is (From k) Initial e = absurd (false≢true e)
  same_is (From k) (From m) e = ap From (name_is k m e)

  one_to : (s u : Source) → count_as_one run s u ≡ true → number s ≡ number u
  one_to s u e = elim (or_cases (same_source (source_of s) (source_of u)) (is_unnamed run s && is_unnamed run u) e) [
    | inl same ↦ ap number (same_is s u same)
    | inr both ↦ (
        let parts = and_parts (is_unnamed run s) (is_unnamed run u) both in
        unnamed_number s (number s) (which s) parts.0 ∙ sym (unnamed_number u (number u) (which u) parts.1))
  ]

  pub counted : (s u : Source) → count_as_one run s u ≡ (number s == number u)
  counted s u = same_tests _ _ (λ e. eq-eqb (number s) (number u) (one_to s u e)) (λ e.
      one_from s u (number s) (which s) (subst (Which u) (sym (eqb-true (number s) (number u) e)) (which u)))

  pub are_counted : (o p : Option Source) (s u : Source) → o ≡ Some s → p ≡ Some u → count_as_one run s u ≡ is_same (number_from run region o) (number_from run region p)
  are_counted o p s u e f = counted s u ∙ sym (rw (e, f) refl)

  -- ---- the number of a source that is an operation of the run

  -- a number past those of the operations of harts is of no hart
  pub no_own : (o : Option Source) → ((k : Name) → o ≡ Some (From k) → number_of x k ≡ None) → IsOwn x (number_from run region o) None
  no_own None none = λ m e. absurd (let nothing : None ≡ Some m = e in cc)
  no_own (Some s) none = λ m e. by_which m (let both : Some (number s) ≡ Some m = e in cc) (which s)
    where
      by_which : (m : ℕ) → number s ≡ m → Which s (number s) → (operation x m).hart ≡ None
      by_which m e (First is at) = no_hart_past x m (let long = length_operations x in omega (arith, at, e, long))
      by_which m e (Own k is there low) = absurd (let nothing : None ≡ Some (number s) = sym (none k (ap Some is)) ∙ there in cc)
      by_which m e (Other k is none' place low at there is_named) = no_hart_past x m (let long = length_operations x in omega (arith, at, e, long))
      by_which m e (Unnamed k is none' other at) = no_hart_past x m (let long = length_operations x in omega (arith, at, e, long))

  pub some_own : (o : Option Source) (k : Name) (m : ℕ) → o ≡ Some (From k) → number_of x k ≡ Some m → IsOwn x (number_from run region o) (Some m)
  some_own o k m e there = rw (e, there) refl
