-- What refutes regions under a placement refutes them under a stronger one, since only rule 4 looks at fences.
use Rattle.std.proofs.Common.{◌≡◌, ℕ, ◌==◌, Bool, true, ◌&&◌, Option, None, Some, List, [], ◌∷◌, ◌++◌, filter, length}
use Rattle.std.specs.Prelude.{nat_lt, nat_le}
use Rattle.std.specs.List.{list_all}
use Rattle.std.proofs.lemmas.Bool.{false≢true, and_parts, and_from}
use Rattle.fs_kinds.specs.declared.placement.Entry.{Entry}
use Rattle.fs_kinds.specs.declared.reason.OperationName.{OperationName as Name}
use Rattle.fs_kinds.specs.Placement.{slots_of, is_weaker}
use Rattle.fs_model.specs.declared.test.Test.{Test}
use Rattle.fs_model.specs.Operations.{PreExecution}
use Rattle.fs_model.specs.Preserved.{Rule}
use Rattle.fs_cert_evidence.specs.Certificate.{Link}
use Rattle.fs_cert_evidence.specs.Judged.{Cause, Preserved, ReadsFrom, Coherence, FromReads}
use Rattle.fs_cert_evidence.specs.Cycles.{most_links}
use Rattle.fs_model_laws.specs.Strength.{KeepsNoMore}
use Rattle.fs_model_laws.proofs.Weakening.{rule-larger, kept-at}
use Rattle.fs_cert_evidence.specs.Regions.{Region}
use Rattle.fs_cert_evidence.specs.Musts.{alone, number_of, holds_of, known_source, knows_enough, is_rule, must}
use Rattle.fs_cert_evidence.specs.Certificate.{Inference, ByChoice, BySource, ByOrder, ByCases, Filter, Cycle, Stale, Reversed, Parted}
use Rattle.fs_cert_evidence.specs.Trees.{is_open, links_around, must_be_cycle, follows, left_after, refutes, root, RefutesNoLess}
use Rattle.fs_verdict_laws.proofs.Lists.{all_in, all_of}

there-larger : (f g : ℕ → ℕ → Bool) (a b : Option ℕ) → ((i j : ℕ) → f i j ≡ true → g i j ≡ true)
    → holds_of f a b ≡ true → holds_of g a b ≡ true
there-larger f g None b larger holds = absurd (false≢true holds)
there-larger f g (Some a) None larger holds = absurd (false≢true holds)
there-larger f g (Some a) (Some b) larger holds = larger a b holds

all-larger : {X : Type 0} (f g : X → Bool) (xs : List X) → ((x : X) → f x ≡ true → g x ≡ true)
    → list_all f xs ≡ true → list_all g xs ≡ true
all-larger f g xs larger all = all_of g xs (λ x has. larger x (all_in f xs x all has))

module _ (t : Test) (p q : List Entry) (weaker : KeepsNoMore p q) where
  module _ (region : Region) where
    is_rule-larger : (r : Rule) (a b : Name) (x : PreExecution) → is_rule t region p r a b x ≡ true → is_rule t region q r a b x ≡ true
    is_rule-larger r a b x holds =
        there-larger _ _ (number_of x a) (number_of x b)
        (λ i j. rule-larger x p q (known_source t region x) i j weaker r) holds

    must-larger : (cause : Cause) (a b : Name) → must t region p cause a b ≡ true → must t region q cause a b ≡ true
    must-larger (Preserved r) a b holds =
        let parts = and_parts (a.hart == b.hart) _ holds in
        let rest = and_parts (knows_enough t region r a b) _ parts.1 in
        let each = and_parts (nat_lt a.hart (length t.codes)) _ rest.1 in
        and_from _ _ parts.0 (and_from _ _ rest.0 (and_from _ _ each.0
        (all-larger (λ run. is_rule t region p r a b (alone t a.hart run)) (λ run. is_rule t region q r a b (alone t a.hart run))
        (region.runs a.hart) (λ run. is_rule-larger r a b (alone t a.hart run)) each.1)))
    must-larger ReadsFrom a b holds = holds
    must-larger Coherence a b holds = holds
    must-larger FromReads a b holds = holds

    cycle-larger : (links : List Link) → must_be_cycle t p region links ≡ true → must_be_cycle t q region links ≡ true
    cycle-larger links holds =
        let parts = and_parts (nat_lt 0 (length links) && nat_le (length links) most_links) _ holds in
        and_from _ _ parts.0 (all-larger
        (λ pair. must t region p pair.0.cause pair.0.operation pair.1.operation)
        (λ pair. must t region q pair.0.cause pair.0.operation pair.1.operation)
        (links_around t links) (λ pair. must-larger pair.0.cause pair.0.operation pair.1.operation) parts.1)

    follows-larger : (inference : Inference) → follows t p region inference ≡ true → follows t q region inference ≡ true
    follows-larger (Cycle links) holds = cycle-larger links holds
    follows-larger (ByChoice name) holds = holds
    follows-larger (BySource load) holds = holds
    follows-larger (ByOrder first second) holds = holds
    follows-larger (ByCases condition) holds = holds
    follows-larger (Filter hart) holds = holds
    follows-larger (Stale load store) holds = holds
    follows-larger (Reversed load store) holds = holds
    follows-larger (Parted load store other) holds = holds

  refutes-larger : (regions : List Region) (inferences : List Inference) → refutes t p regions inferences ≡ true → refutes t q regions inferences ≡ true
  refutes-larger [] [] holds = holds
  refutes-larger [] (inference ∷ inferences) holds = holds
  refutes-larger (region ∷ regions) [] holds = holds
  refutes-larger (region ∷ regions) (inference ∷ inferences) holds =
      let parts = and_parts (follows t p region inference) _ holds in
      and_from _ _ (follows-larger region inference parts.0)
      (refutes-larger (left_after t region inference ++ regions) inferences parts.1)

  pub refutes_no_less : RefutesNoLess t p q
  refutes_no_less = record {
    regions = refutes-larger;
    refuted = λ inferences is. record {
      runs = is.runs;
      all = is.all;
      refuted = refutes-larger (filter (is_open t) (root t is.runs ∷ [])) inferences is.refuted;
    };
  }

pub placed_refutes : (t : Test) (p q : List Entry) → slots_of p ≡ slots_of q → is_weaker p q ≡ true → RefutesNoLess t p q
placed_refutes t p q same weaker = refutes_no_less t p q (kept-at p q same weaker)

pub unfenced_refutes : (t : Test) (q : List Entry) → RefutesNoLess t [] q
unfenced_refutes t q = refutes_no_less t [] q (λ s pair kept. absurd (false≢true kept))
