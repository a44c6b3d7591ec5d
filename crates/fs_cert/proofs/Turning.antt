-- A cycle that is turned is still a cycle.
use Rattle.std.proofs.Common.{◌≡◌, ℕ, ◌≤◌, Bool, true, Some, List, [], ◌∷◌, ◌++◌, map, length, take, drop, refl, ap, ap₂, sym, subst, ◌∙◌, arith}
use Rattle.std.specs.Prelude.{All}
use Rattle.std.specs.List.{AllZip, list_all, zip}
use Rattle.std.proofs.lemmas.Bool.{and_parts, and_from}
use Rattle.std.proofs.lemmas.List.{append-nil, append_assoc, length-append, length-map, map-append, take-append-drop}
use Rattle.std.proofs.lemmas.List.Elements.{All-nil, All-cons}
use Rattle.std.proofs.lemmas.List.Folds.{list_all-append}
use Rattle.std.proofs.lemmas.Slice.Zip.{length-zip}
use Rattle.fs_kinds.specs.declared.placement.Entry.{Entry}
use Rattle.fs_model.specs.declared.test.Test.{Test}
use Rattle.fs_model.specs.Operations.{PreExecution}
use Rattle.fs_model.specs.Witness.{name_of}
use Rattle.fs_cert_evidence.specs.Candidates.{Candidate, runs_of}
use Rattle.fs_cert_evidence.specs.Certificate.{Link}
use Rattle.fs_cert_evidence.specs.Judged.{Cause, is_edge}
use Rattle.fs_cert_evidence.specs.Cycles.{IsCycle, are_edges, around, most_links}
use Rattle.fs_cert_json.specs.declared.certificate.CertificateLink.{CertificateLink}
use Rattle.fs_cert_evidence.specs.WitnessFile.{IsInRange}
use Rattle.fs_cert_json.specs.Kept.{KeepsLink, KeepsCycle, AreInRangeLinks}
use Rattle.fs_cert.specs.Cycles.{BeginsAtLeast}
use Rattle.fs_cert.specs.inner.Copies.{IsCopiedLink, IsCopiedCycle, turned}
use Rattle.fs_cert.proofs.Copying.{zip_all, zip_weaker}

-- ---- by one link

zip_append : {X Y : Type 0} (xs us : List X) (ys vs : List Y) → length xs ≡ length ys → zip (xs ++ us) (ys ++ vs) ≡ zip xs ys ++ zip us vs
zip_append [] us [] vs same = refl
zip_append [] us (y ∷ ys) vs same = absurd (omega (arith, same))
zip_append (x ∷ xs) us [] vs same = absurd (omega (arith, same))
zip_append (x ∷ xs) us (y ∷ ys) vs same = ap (λ l. (x, y) ∷ l) (zip_append xs us ys vs (omega (arith, same)))

-- the first pair comes last
record AreTurned (o : ℕ) (os : List ℕ) : Type 0 where
  first : ℕ × ℕ
  others : List (ℕ × ℕ)
  before : around (o ∷ os) ≡ first ∷ others
  after : around (os ++ o ∷ []) ≡ others ++ first ∷ []
  long : length others ≡ length os

pairs_turned : (o : ℕ) (os : List ℕ) → AreTurned o os
pairs_turned o [] = record { first = (o, o); others = []; before = refl; after = refl; long = refl }
pairs_turned o (q ∷ qs) =
    let last = length-append qs (o ∷ []) in
    let same : length (q ∷ qs) ≡ length (qs ++ o ∷ []) = omega (arith, last) in
    record {
      first = (o, q);
      others = zip (q ∷ qs) (qs ++ o ∷ []);
      before = refl;
      after = zip_append (q ∷ qs) (o ∷ []) (qs ++ o ∷ []) (q ∷ []) same;
      long = omega (arith, length-zip (q ∷ qs) (qs ++ o ∷ []), same);
    }

module _ (x : PreExecution) (p : List Entry) (c : Candidate) where
  abbrev is_due : (ℕ × ℕ) × Cause → Bool
  is_due edge = is_edge x p c edge.0.0 edge.0.1 edge.1

  edges_turned : (o : ℕ) (os : List ℕ) (cause : Cause) (causes : List Cause) → length os ≡ length causes
      → are_edges x p c (around (o ∷ os)) (cause ∷ causes) ≡ true → are_edges x p c (around (os ++ o ∷ [])) (causes ++ cause ∷ []) ≡ true
  edges_turned o os cause causes same edges =
      let pairs = pairs_turned o os in
      let each = and_parts (is_due (pairs.first, cause)) (list_all is_due (zip pairs.others causes))
      (sym (ap (λ l. are_edges x p c l (cause ∷ causes)) pairs.before) ∙ edges) in
      let joined : zip (pairs.others ++ pairs.first ∷ []) (causes ++ cause ∷ []) ≡ zip pairs.others causes ++ (pairs.first, cause) ∷ [] =
      zip_append pairs.others (pairs.first ∷ []) causes (cause ∷ []) (pairs.long ∙ same) in
      ap (λ l. are_edges x p c l (causes ++ cause ∷ [])) pairs.after
      ∙ (ap (list_all is_due) joined
      ∙ (list_all-append is_due (zip pairs.others causes) ((pairs.first, cause) ∷ [])
      ∙ and_from _ _ each.1 (and_from _ _ each.0 refl)))

module _ (t : Test) (p : List Entry) (c : Candidate) where
  turned_by : (link : Link) (links : List Link) (os : List ℕ) → length (link ∷ links) ≤ most_links
      → map (name_of (runs_of t c)) os ≡ map (λ link. Some link.operation) (link ∷ links)
      → are_edges (runs_of t c) p c (around os) (map (λ link. link.cause) (link ∷ links)) ≡ true → IsCycle t p c (links ++ link ∷ [])
  turned_by link links [] most names edges = absurd (cc)
  turned_by link links (o ∷ os) most names edges =
      let first : name_of (runs_of t c) o ≡ Some link.operation = cc in
      let others : map (name_of (runs_of t c)) os ≡ map (λ link. Some link.operation) links = cc in
      let many = length-append links (link ∷ []) in
      let same : length os ≡ length (map (λ (link : Link). link.cause) links) =
      sym (length-map os (name_of (runs_of t c))) ∙ (ap length others
      ∙ (length-map links (λ (link : Link). Some link.operation) ∙ sym (length-map links (λ (link : Link). link.cause)))) in
      record {
        some = omega (arith, many);
        most = omega (arith, many, most);
        operations = os ++ o ∷ [];
        names = map-append (name_of (runs_of t c)) os (o ∷ [])
            ∙ (ap₂ (λ us u. us ++ u ∷ []) others first ∙ sym (map-append (λ (link : Link). Some link.operation) links (link ∷ [])));
        edges = ap (are_edges (runs_of t c) p c (around (os ++ o ∷ []))) (map-append (λ (link : Link). link.cause) links (link ∷ []))
            ∙ edges_turned (runs_of t c) p c o os link.cause (map (λ link. link.cause) links) same edges;
      }

  -- ---- by any number of links

  turned_over : (front back : List Link) → IsCycle t p c (front ++ back) → IsCycle t p c (back ++ front)
  turned_over [] back is = subst (IsCycle t p c) (sym (append-nil back)) is
  turned_over (link ∷ front) back is =
      let once : IsCycle t p c ((front ++ back) ++ link ∷ []) = turned_by link (front ++ back) is.operations is.most is.names is.edges in
      subst (IsCycle t p c) (append_assoc back (link ∷ []) front)
      (turned_over front (back ++ link ∷ []) (subst (IsCycle t p c) (append_assoc front back (link ∷ [])) once))

  turned_cycle : (k : ℕ) (links : List Link) → IsCycle t p c links → IsCycle t p c (turned k links)
  turned_cycle k links is = turned_over (take k links) (drop k links) (subst (IsCycle t p c) (sym (take-append-drop k links)) is)

-- ---- all cycles of a certificate

-- what copies say of these cycles
pub record AreSaid (copy : List (List CertificateLink)) (cycles : List (List Link)) : Type 0 where
  pub said : List (List Link)
  pub keeps : AllZip KeepsCycle copy said
  pub named : All AreInRangeLinks said
  pub least : All BeginsAtLeast said
  pub cycle : (t : Test) (p : List Entry) (cs : List Candidate) → AllZip (IsCycle t p) cs cycles → AllZip (IsCycle t p) cs said

one_more : (copy : List CertificateLink) (links : List Link) (copies : List (List CertificateLink)) (cycles : List (List Link))
    → IsCopiedCycle copy links → AreSaid copies cycles → AreSaid (copy ∷ copies) (links ∷ cycles)
one_more copy links copies cycles is others = let one = turned is.first links in record {
  said = one ∷ others.said;
  keeps = (zip_weaker IsCopiedLink KeepsLink (λ y x at. at.0) copy one is.copied, others.keeps);
  named = All-cons AreInRangeLinks one others.said (zip_all IsCopiedLink (λ link. IsInRange link.operation) (λ y x at. at.1) copy one is.copied)
      others.named;
  least = All-cons BeginsAtLeast one others.said is.least others.least;
  cycle = λ t p cs each. turned_each t p cs each;
}
  where
    turned_each : (t : Test) (p : List Entry) (cs : List Candidate) → AllZip (IsCycle t p) cs (links ∷ cycles)
        → AllZip (IsCycle t p) cs (turned is.first links ∷ others.said)
    turned_each t p [] each = absurd each
    turned_each t p (c ∷ cs) each = (turned_cycle t p c is.first links each.0, others.cycle t p cs each.1)

pub are_said : (copy : List (List CertificateLink)) (cycles : List (List Link)) → AllZip IsCopiedCycle copy cycles → AreSaid copy cycles
are_said [] [] each = record { said = []; keeps = tt; named = All-nil _; least = All-nil _; cycle = λ t p cs none. none }
are_said [] (links ∷ cycles) each = absurd each
are_said (copy ∷ copies) [] each = absurd each
are_said (copy ∷ copies) (links ∷ cycles) each = one_more copy links copies cycles each.0 (are_said copies cycles each.1)
