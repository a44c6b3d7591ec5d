-- The links of a cycle, and the names of its operations.
use Rattle.std.proofs.Common.{◌≡◌, ℕ, zero, suc, ◌+◌, ◌<◌, ◌≤◌, inl, inr, Bool, true, ◌⊎◌, Some, List, [], ◌∷◌, ◌++◌, map, length, refl, sym, ◌∙◌, ap, subst, arith}
use Rattle.std.specs.Prelude.{slice_get, slice_index}
use Rattle.std.specs.List.{list_all, zip}
use Rattle.std.proofs.lemmas.Bool.{and_parts, and_from}
use Rattle.std.proofs.lemmas.List.{length-append}
use Rattle.fs_kinds.specs.declared.placement.Entry.{Entry}
use Rattle.fs_model.specs.declared.test.Test.{Test}
use Rattle.fs_model.specs.Operations.{accesses}
use Rattle.fs_model.specs.Witness.{name_of}
use Rattle.fs_cert_evidence.specs.Candidates.{Candidate, IsRaw, runs_of}
use Rattle.fs_cert_evidence.specs.Certificate.{Link}
use Rattle.fs_cert_evidence.specs.Judged.{is_edge, is_judged}
use Rattle.fs_cert_evidence.specs.Cycles.{IsCycle, are_edges, most_links}
use Rattle.fs_verdict_laws.proofs.JudgedEdges.{edge_low}
use Rattle.fs_cand_witness.specs.Edges.{has_edge}
use Rattle.fs_judge.specs.inner.Links.{IsLink, followers}

-- ---- a list that grows

get_last : {X : Type 0} (xs : List X) (x y : X) (k : ℕ) → slice_get (xs ++ x ∷ []) k ≡ Some y → (slice_get xs k ≡ Some y) ⊎ ((k ≡ length xs) × (x ≡ y))
get_last [] x y zero e = inr (refl, cc)
get_last [] x y (suc k) e = inl e
get_last (z ∷ zs) x y zero e = inl e
get_last (z ∷ zs) x y (suc k) e = elim (get_last zs x y k e) [
  | inl before ↦ inl before
  | inr last ↦ inr (ap suc last.0, last.1)
]

pub longer : {X : Type 0} (xs ys : List X) (x : X) (n : ℕ) → length xs ≡ n → ys ≡ xs ++ x ∷ [] → length ys ≡ n + 1
longer xs ys x n long grown = ap length grown ∙ (let both = length-append xs (x ∷ []) in omega (arith, both, long))

-- what holds of each item, by its place, holds with one more
pub more : {X : Type 0} (P : ℕ → X → Type 0) (xs ys : List X) (x : X) (n : ℕ) → length xs ≡ n → ys ≡ xs ++ x ∷ []
    → ((k : ℕ) (y : X) → slice_get xs k ≡ Some y → P k y) → P n x → (k : ℕ) (y : X) → slice_get ys k ≡ Some y → P k y
more P xs ys x n long grown each last k y there = elim (get_last xs x y k (subst (λ (zs : List _). slice_get zs k ≡ Some y) grown there)) [
  | inl before ↦ each k y before
  | inr new ↦ subst (λ (z : _). P k z) new.1 (subst (λ (i : ℕ). P i x) (sym (new.0 ∙ long)) last)
]

-- ---- edges from place to place

at_place : (f : ℕ → ℕ → Bool) (ns ms : List ℕ) (k : ℕ) → length ms ≡ length ns → list_all (λ pair. f pair.0 pair.1) (zip ns ms) ≡ true → k < length ns
    → f (slice_index ns k) (slice_index ms k) ≡ true
at_place f [] ms k long all low = absurd (omega (arith, low))
at_place f (n ∷ ns) [] k long all low = absurd (omega (arith, long))
at_place f (n ∷ ns) (m ∷ ms) zero long all low = (and_parts (f n m) (list_all (λ pair. f pair.0 pair.1) (zip ns ms)) all).0
at_place f (n ∷ ns) (m ∷ ms) (suc k) long all low =
    at_place f ns ms k (omega (arith, long)) (and_parts (f n m) (list_all (λ pair. f pair.0 pair.1) (zip ns ms)) all).1 (omega (arith, low))

follow_long : (ns : List ℕ) → length (followers ns) ≡ length ns
follow_long [] = refl
follow_long (n ∷ ns) = omega (arith, length-append ns (n ∷ []))

pub edge_at : (f : ℕ → ℕ → Bool) (ns : List ℕ) (k : ℕ) → list_all (λ pair. f pair.0 pair.1) (zip ns (followers ns)) ≡ true → k < length ns
    → f (slice_index ns k) (slice_index (followers ns) k) ≡ true
edge_at f ns k all low = at_place f ns (followers ns) k (follow_long ns) all low

-- edges of the rows are those of the judged relation
all_alike : (f g : ℕ → ℕ → Bool) (pairs : List (ℕ × ℕ)) → ((a b : ℕ) → f a b ≡ g a b) → list_all (λ pair. f pair.0 pair.1) pairs ≡ true
    → list_all (λ pair. g pair.0 pair.1) pairs ≡ true
all_alike f g [] same all = refl
all_alike f g (pair ∷ pairs) same all =
    let parts = and_parts (f pair.0 pair.1) (list_all (λ pair. f pair.0 pair.1) pairs) all in
    and_from (g pair.0 pair.1) _ (sym (same pair.0 pair.1) ∙ parts.0) (all_alike f g pairs same parts.1)

pub judged_edges : (t : Test) (p : List Entry) (c : Candidate) (rows ns : List ℕ) → ((a b : ℕ) → has_edge rows a b ≡ is_judged (runs_of t c) p c a b)
    → list_all (λ pair. has_edge rows pair.0 pair.1) (zip ns (followers ns)) ≡ true
    → list_all (λ pair. is_judged (runs_of t c) p c pair.0 pair.1) (zip ns (followers ns)) ≡ true
judged_edges t p c rows ns same all = all_alike (has_edge rows) (is_judged (runs_of t c) p c) (zip ns (followers ns)) same all

-- each number of a cycle follows one
last_of : (ns : List ℕ) (n : ℕ) → slice_index (ns ++ n ∷ []) (length ns) ≡ n
last_of [] n = refl
last_of (m ∷ ms) n = last_of ms n

before_last : (ns : List ℕ) (n k : ℕ) → k < length ns → slice_index (ns ++ n ∷ []) k ≡ slice_index ns k
before_last [] n k low = absurd (omega (arith, low))
before_last (m ∷ ms) n zero low = refl
before_last (m ∷ ms) n (suc k) low = before_last ms n k (omega (arith, low))

pub followed : (ns : List ℕ) (k : ℕ) → k < length ns → (j : ℕ) × (j < length ns) × (slice_index (followers ns) j ≡ slice_index ns k)
followed [] k low = absurd (omega (arith, low))
followed (n ∷ ns) zero low = (length ns, omega arith, last_of ns n)
followed (n ∷ ns) (suc k) low = (k, omega (arith, low), before_last ns n k (omega (arith, low)))

-- ---- a cycle's numbers are operations of harts

module _ (t : Test) (p : List Entry) (c : Candidate) where
  pub low_at : IsRaw t c → (ns : List ℕ) → list_all (λ pair. is_judged (runs_of t c) p c pair.0 pair.1) (zip ns (followers ns)) ≡ true
      → (k : ℕ) → k < length ns → slice_index ns k < length (accesses (runs_of t c))
  low_at raw ns all k low =
      let before = followed ns k low in
      subst (λ (m : ℕ). m < length (accesses (runs_of t c))) before.2
      (edge_low t p c raw (slice_index ns before.0) (slice_index (followers ns) before.0) (edge_at (is_judged (runs_of t c) p c) ns before.0 all before.1))

  -- ---- links place by place are a cycle

  record AreLinks (ns ms : List ℕ) (links : List Link) : Type 0 where
    names : map (name_of (runs_of t c)) ns ≡ map (λ link. Some link.operation) links
    edges : are_edges (runs_of t c) p c (zip ns ms) (map (λ link. link.cause) links) ≡ true

  linked : (ns ms : List ℕ) (links : List Link) → length links ≡ length ns → length ms ≡ length ns
      → ((k : ℕ) (link : Link) → slice_get links k ≡ Some link → IsLink (runs_of t c) p c (slice_index ns k) (slice_index ms k) link) → AreLinks ns ms links
  linked [] ms [] long many each = record { names = refl; edges = refl }
  linked [] ms (link ∷ links) long many each = absurd (omega (arith, long))
  linked (n ∷ ns) ms [] long many each = absurd (omega (arith, long))
  linked (n ∷ ns) [] (link ∷ links) long many each = absurd (omega (arith, many))
  linked (n ∷ ns) (m ∷ ms) (link ∷ links) long many each =
      let first = each 0 link refl in
      let rest = linked ns ms links (omega (arith, long)) (omega (arith, many)) (λ k later there. each (suc k) later there) in
      record {
        names = rw (first.name, rest.names) refl;
        edges = and_from (is_edge (runs_of t c) p c n m link.cause) _ first.edge rest.edges;
      }

  pub cycle_of : (ns : List ℕ) (links : List Link) → 1 ≤ length ns → length ns ≤ most_links → length links ≡ length ns
      → ((k : ℕ) (link : Link) → slice_get links k ≡ Some link → IsLink (runs_of t c) p c (slice_index ns k) (slice_index (followers ns) k) link)
      → IsCycle t p c links
  cycle_of ns links some most long each =
      let are = linked ns (followers ns) links long (follow_long ns) each in
      record {
        some = omega (arith, some, long);
        most = omega (arith, most, long);
        operations = ns;
        names = are.names;
        edges = are.edges;
      }
