-- A cycle is its links, each by itself: names decide numbers, so the operations of two links that meet are one.
use Rattle.std.proofs.Common.{◌≡◌, ℕ, ◌≤◌, true, Option, Some, List, [], ◌∷◌, ◌++◌, length, map, refl, sym, ◌∙◌, ap, subst, arith}
use Rattle.std.specs.Prelude.{All, drop, take}
use Rattle.std.specs.List.{AllZip, zip}
use Rattle.std.proofs.lemmas.Bool.{and_from, and_parts}
use Rattle.std.proofs.lemmas.List.{length-append}
use Rattle.fs_kinds.specs.declared.placement.Entry.{Entry}
use Rattle.fs_kinds.specs.declared.reason.OperationName.{OperationName as Name}
use Rattle.fs_model.specs.declared.test.Test.{Test}
use Rattle.fs_model.specs.Test.{GoesForward}
use Rattle.fs_model.specs.Witness.{name_of}
use Rattle.fs_cert_evidence.specs.Candidates.{Candidate, IsRaw, runs_of}
use Rattle.fs_cert_evidence.specs.Judged.{is_edge}
use Rattle.fs_cert_evidence.specs.Certificate.{Link}
use Rattle.fs_cert_evidence.specs.Cycles.{IsCycle, are_edges, most_links}
use Rattle.fs_cand.proofs.Distinct.{one_named}
use Rattle.fs_verdict_laws.specs.Local.{HasLink}
use Rattle.fs_verdict_laws.proofs.Named.{runs}

map_join : {X Y : Type 0} (f : X → Y) (xs ys : List X) → map f (xs ++ ys) ≡ map f xs ++ map f ys
map_join f [] ys = refl
map_join f (x ∷ xs) ys = ap (λ zs. f x ∷ zs) (map_join f xs ys)

heads : {X : Type 0} (x y : X) (xs ys : List X) → x ∷ xs ≡ y ∷ ys → (x ≡ y) × (xs ≡ ys)
heads x y xs ys e = (cc, cc)

module _ (t : Test) (p : List Entry) (c : Candidate) (forward : All GoesForward t.codes) (raw : IsRaw t c) where
  names : List ℕ → List (Option Name)
  names ns = map (name_of (runs_of t c)) ns

  said : List Link → List (Option Name)
  said links = map (λ link. Some link.operation) links

  AreLinked : List Link → List Link → Type 0
  AreLinked links nexts = AllZip (λ link next. HasLink t p c link.operation next.operation link.cause) links nexts

  -- the first operations
  numbers : (links nexts : List Link) → AreLinked links nexts → (ns : List ℕ) × (names ns ≡ said links)
  unfolding names said AreLinked
  numbers [] nexts are = ([], refl)
  numbers (l ∷ ls) [] are = absurd are
  numbers (l ∷ ls) (k ∷ ks) are =
      let rest = numbers ls ks are.1 in
      let link = are.0 in
      (link.0 ∷ rest.0, rw (link.2, rest.1) refl)

  edges : (links nexts : List Link) (ns ms : List ℕ) → AreLinked links nexts → names ns ≡ said links → names ms ≡ said nexts
      → are_edges (runs_of t c) p c (zip ns ms) (map (λ link. link.cause) links) ≡ true
  unfolding names said AreLinked
  edges links nexts [] ms are e f = refl
  edges links nexts (n ∷ ns) [] are e f = refl
  edges [] nexts (n ∷ ns) (m ∷ ms) are e f = refl
  edges (l ∷ ls) [] (n ∷ ns) (m ∷ ms) are e f = absurd are
  edges (l ∷ ls) (k ∷ ks) (n ∷ ns) (m ∷ ms) are e f =
      let link = are.0 in
      let first = heads (name_of (runs_of t c) n) (Some l.operation) (names ns) (said ls) e in
      let second = heads (name_of (runs_of t c) m) (Some k.operation) (names ms) (said ks) f in
      let a : link.0 ≡ n = one_named (runs_of t c) link.0 n l.operation (runs t p c forward raw) link.2 first.0 in
      let b : link.1 ≡ m = one_named (runs_of t c) link.1 m k.operation (runs t p c forward raw) link.3 second.0 in
      let edge : is_edge (runs_of t c) p c n m l.cause ≡ true = subst (λ (j : ℕ). is_edge (runs_of t c) p c n j l.cause ≡ true) b
      (subst (λ (i : ℕ). is_edge (runs_of t c) p c i link.1 l.cause ≡ true) a link.4) in
      and_from _ _ edge (edges ls ks ns ms are.1 first.1 second.1)

  turned : (links : List Link) (ns : List ℕ) → names ns ≡ said links → names (drop 1 ns ++ take 1 ns) ≡ said (drop 1 links ++ take 1 links)
  unfolding names said
  turned [] [] e = refl
  turned [] (n ∷ ns) e = absurd (let bad : name_of (runs_of t c) n ∷ names ns ≡ [] = e in cc)
  turned (l ∷ ls) [] e = absurd (let bad : [] ≡ Some l.operation ∷ said ls = e in cc)
  turned (l ∷ ls) (n ∷ ns) e =
      let parts = heads (name_of (runs_of t c) n) (Some l.operation) (names ns) (said ls) e in
      map_join (name_of (runs_of t c)) ns (n ∷ [])
      ∙ ap (λ os. os ++ name_of (runs_of t c) n ∷ []) parts.1 ∙ ap (λ o. said ls ++ o ∷ []) parts.0
      ∙ sym (map_join (λ link. Some link.operation) ls (l ∷ []))

  pub cycle_by_links : (links : List Link) → 1 ≤ length links → length links ≤ most_links
      → AllZip (λ link next. HasLink t p c link.operation next.operation link.cause) links (drop 1 links ++ take 1 links)
      → IsCycle t p c links
  unfolding names said AreLinked
  cycle_by_links links some most are =
      let ns = numbers links (drop 1 links ++ take 1 links) are in
      record {
        some = some;
        most = most;
        operations = ns.0;
        names = ns.1;
        edges = edges links (drop 1 links ++ take 1 links) ns.0 (drop 1 ns.0 ++ take 1 ns.0) are ns.1 (turned links ns.0 ns.1);
      }

  back : (links nexts : List Link) (ns ms : List ℕ) → length links ≡ length nexts → names ns ≡ said links → names ms ≡ said nexts
      → are_edges (runs_of t c) p c (zip ns ms) (map (λ link. link.cause) links) ≡ true
      → AllZip (λ link next. HasLink t p c link.operation next.operation link.cause) links nexts
  unfolding names said
  back [] [] ns ms long e f all = tt
  back [] (k ∷ ks) ns ms long e f all = absurd (omega (arith, long))
  back (l ∷ ls) [] ns ms long e f all = absurd (omega (arith, long))
  back (l ∷ ls) (k ∷ ks) [] ms long e f all = absurd (let bad : [] ≡ Some l.operation ∷ said ls = e in cc)
  back (l ∷ ls) (k ∷ ks) (n ∷ ns) [] long e f all = absurd (let bad : [] ≡ Some k.operation ∷ said ks = f in cc)
  back (l ∷ ls) (k ∷ ks) (n ∷ ns) (m ∷ ms) long e f all =
      let first = heads (name_of (runs_of t c) n) (Some l.operation) (names ns) (said ls) e in
      let second = heads (name_of (runs_of t c) m) (Some k.operation) (names ms) (said ks) f in
      let parts = and_parts (is_edge (runs_of t c) p c n m l.cause) _ all in
      ((n, m, first.0, second.0, parts.0), back ls ks ns ms (omega (arith, long)) first.1 second.1 parts.1)

  turned_long : (links : List Link) → length links ≡ length (drop 1 links ++ take 1 links)
  turned_long [] = refl
  turned_long (l ∷ ls) = let long = length-append ls (l ∷ []) in omega (arith, long)

  pub links_by_cycle : (links : List Link) → IsCycle t p c links
      → AllZip (λ link next. HasLink t p c link.operation next.operation link.cause) links (drop 1 links ++ take 1 links)
  unfolding names said
  links_by_cycle links is =
      back links (drop 1 links ++ take 1 links) is.operations (drop 1 is.operations ++ take 1 is.operations) (turned_long links) is.names
      (turned links is.operations is.names) is.edges
