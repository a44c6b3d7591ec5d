-- Links are a cycle exactly where the code finds one.
use Rattle.std.proofs.Common.{◌≡◌, ℕ, suc, ◌≤◌, true, Option, None, Some, List, [], ◌∷◌, length, map, refl, sym, ◌∙◌, ap, arith}
use Rattle.std.proofs.lemmas.Bool.{and_parts, and_from, false≢true, leb-true, le-leb}
use Rattle.std.proofs.lemmas.List.{get_or-map}
use Rattle.fs_kinds.specs.declared.placement.Entry.{Entry}
use Rattle.fs_kinds.specs.declared.reason.OperationName.{OperationName as Name}
use Rattle.fs_model.specs.declared.test.Test.{Test}
use Rattle.fs_model.specs.Test.{IsBounded}
use Rattle.fs_model.specs.Choices.{choices_of}
use Rattle.fs_model.specs.Reasons.{AreRuns, HaveNames}
use Rattle.fs_model.specs.Witness.{Witness, name_of}
use Rattle.fs_cert_evidence.specs.Candidates.{Candidate, IsRaw, runs_of}
use Rattle.fs_cert_evidence.specs.Certificate.{Link}
use Rattle.fs_cert_evidence.specs.Cycles.{IsCycle, are_edges, around, most_links}
use Rattle.fs_cert_evidence.specs.WitnessFile.{in_range}
use Rattle.fs_cert_evidence.specs.Evidence.{cause_of}
use Rattle.fs_cand.specs.inner.NamedOrder.{numbers_of}
use Rattle.fs_cand.proofs.NamedOrder.{NamesInRange, found_names, found_all, names_say}
use Rattle.fs_cand.proofs.RunNames.{known, ranged}
use Rattle.fs_cert_json.specs.declared.certificate.CertificateLink.{CertificateLink}
use Rattle.fs_check_certificate.specs.Cycles.{names_of, wanted, have_edges, are_linked, is_cycle}
use Rattle.fs_cert_json.specs.Kept.{KeepsCycle}

names : List Link → List Name
names said = map (λ link. link.operation) said

cons_same : {A : Type 0} {a b : A} {xs ys : List A} → a ≡ b → xs ≡ ys → a ∷ xs ≡ b ∷ ys
cons_same e k = cc

-- ---- what is kept of the links

wanted_is : (links : List CertificateLink) (said : List Link) → KeepsCycle links said → wanted links ≡ map in_range (names said)
unfolding names
wanted_is [] [] kept = refl
wanted_is [] (s ∷ said) kept = absurd kept
wanted_is (l ∷ links) [] kept = absurd kept
wanted_is (l ∷ links) (s ∷ said) kept = cons_same kept.0.operation (wanted_is links said kept.1)

causes_are : (links : List CertificateLink) (said : List Link) → KeepsCycle links said → map (λ link. cause_of link.cause) links ≡ map (λ link. link.cause) said
causes_are [] [] kept = refl
causes_are [] (s ∷ said) kept = absurd kept
causes_are (l ∷ links) [] kept = absurd kept
causes_are (l ∷ links) (s ∷ said) kept = cons_same kept.0.cause (causes_are links said kept.1)

long : (links : List CertificateLink) (said : List Link) → KeepsCycle links said → length links ≡ length said
long [] [] kept = refl
long [] (s ∷ said) kept = absurd kept
long (l ∷ links) [] kept = absurd kept
long (l ∷ links) (s ∷ said) kept = ap suc (long links said kept.1)

map_names : (said : List Link) → map (λ name. Some name) (names said) ≡ map (λ link. Some link.operation) said
unfolding names
map_names [] = refl
map_names (s ∷ said) = ap (λ rest. Some s.operation ∷ rest) (map_names said)

-- ---- one cycle

module _ (t : Test) (p : List Entry) (c : Candidate) (bounded : IsBounded t) (raw : IsRaw t c) where
  -- a witness with the candidate's runs
  runs_alone : Witness
  runs_alone = record { choices = map choices_of c.traces; order = [] }

  runs_are : AreRuns t runs_alone c.traces
  unfolding runs_alone
  runs_are = record {
    harts = raw.runs.harts;
    whole = λ hart low. (raw.runs.runs hart low, get_or-map choices_of c.traces hart [] [] (omega (arith, low, raw.runs.harts)));
  }

  once : (a b : ℕ) (n : Name) → name_of (runs_of t c) a ≡ Some n → name_of (runs_of t c) b ≡ Some n → a ≡ b
  once = known t runs_alone c.traces runs_are bounded.forward

  small : NamesInRange (runs_of t c)
  small = ranged t runs_alone c.traces runs_are bounded

  module _ (links : List CertificateLink) (said : List Link) (kept : KeepsCycle links said) where
    pub sound : is_cycle (runs_of t c) p c links ≡ true → IsCycle t p c said
    sound is =
        let some = and_parts _ _ is in
        let most = and_parts _ _ some.1 in
        by_numbers (leb-true 1 (length links) some.0) (leb-true (length links) most_links most.0) (numbers_of (names_of (runs_of t c)) (wanted links)) refl most.1
      where
        by_numbers : 1 ≤ length links → length links ≤ most_links → (o : Option (List ℕ)) → numbers_of (names_of (runs_of t c)) (wanted links) ≡ o
            → are_linked (runs_of t c) p c links o ≡ true → IsCycle t p c said
        by_numbers some most None e linked = absurd (false≢true linked)
        by_numbers some most (Some ns) e linked = record {
          some = omega (arith, some, long links said kept);
          most = omega (arith, most, long links said kept);
          operations = ns;
          names = found_names (runs_of t c) (names said) ns (ap (numbers_of (names_of (runs_of t c))) (sym (wanted_is links said kept)) ∙ e) ∙ map_names said;
          edges = ap (are_edges (runs_of t c) p c (around ns)) (sym (causes_are links said kept)) ∙ linked;
        }

    pub complete : IsCycle t p c said → is_cycle (runs_of t c) p c links ≡ true
    complete is =
        let named : HaveNames (runs_of t c) is.operations (names said) = is.names ∙ sym (map_names said) in
        let found = found_all (runs_of t c) (names said) is.operations small named in
        let there = found_names (runs_of t c) (names said) found.0 found.1 in
        let same = names_say (runs_of t c) (names said) is.operations found.0 once named there in
        let linked : are_linked (runs_of t c) p c links (numbers_of (names_of (runs_of t c)) (wanted links)) ≡ true =
        ap (λ ws. are_linked (runs_of t c) p c links (numbers_of (names_of (runs_of t c)) ws)) (wanted_is links said kept)
        ∙ ap (are_linked (runs_of t c) p c links) found.1
        ∙ ap (have_edges (runs_of t c) p c links) (sym same)
        ∙ ap (are_edges (runs_of t c) p c (around is.operations)) (causes_are links said kept)
        ∙ is.edges in
        and_from _ _ (le-leb 1 (length links) (omega (arith, is.some, long links said kept)))
        (and_from _ _ (le-leb (length links) most_links (omega (arith, is.most, long links said kept))) linked)
