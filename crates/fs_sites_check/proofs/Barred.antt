-- The bar of the execution that a witness gives.
use Rattle.std.proofs.Common.{◌≡◌, ℕ, Bool, true, Some, List, [], length, slice_get, sym, ap, subst, ◌∙◌}
use Rattle.fs_kinds.specs.declared.placement.Entry.{Entry}
use Rattle.fs_model.specs.declared.test.Test.{Test}
use Rattle.fs_model.specs.Execution.{Execution}
use Rattle.fs_model.specs.Witness.{Witness}
use Rattle.fs_cert_evidence.specs.declared.evidence.Pairs.{Pairs}
use Rattle.fs_cert_evidence.specs.Evidence.{widths_of}
use Rattle.fs_cert_evidence.specs.Shown.{IsShownBy, ShowsAs}
use Rattle.fs_cert_evidence.specs.Widths.{width}
use Rattle.fs_cert_evidence.specs.WitnessFile.{KeepsWitness}
use Rattle.fs_sites.specs.Questions.{Part, slots_at}
use Rattle.fs_sites.specs.declared.question.Place.{Place}
use Rattle.fs_sites.specs.inner.Bars.{IsBar}
use Rattle.fs_sites_check.specs.Valid.{IsBarBy, IsSaid, IsShownAs}
use Rattle.fs_sites_check.specs.declared.certificate.SitesWitness.{SitesWitness}
use Rattle.fs_sites_check.proofs.FullyShown.{shown-true}

module _ (parts : List Part) (sites : ℕ) (w : SitesWitness) (part : Part) where
  pub barred : (t u : Test) (places others : List Place) (p : List Entry) (bare : Bool) (items row bar : List Pairs) → (said : IsSaid w)
      → slice_get parts w.test ≡ Some part → t ≡ part.test → u ≡ part.test → places ≡ part.places → others ≡ part.places → p ≡ []
      → bare ≡ true → IsShownAs t p said.0 bare
      → ((v : Witness) (e : Execution) → KeepsWitness w.file v → ShowsAs u [] v e → items ≡ widths_of (width u e) (slots_at places))
      → row ≡ items → IsBar others row bar → length bar ≡ sites → IsBarBy parts sites w bar
  barred t u places others p bare items row bar said at a b d f e too one widths same is long =
      let v = said.0 in
      let now = subst (λ fences. IsShownBy part.test fences v) e (subst (λ test. IsShownBy test p v) a (shown-true t p v bare too one)) in
      let here : row ≡ widths_of (width part.test now.0) (slots_at part.places) =
      same ∙ (widths v now.0 said.1 (subst (λ test. ShowsAs test [] v now.0) (sym b) now.1)
      ∙ (ap (λ test. widths_of (width test now.0) (slots_at places)) b ∙ ap (λ ps. widths_of (width part.test now.0) (slots_at ps)) d)) in
      record {
        part = part;
        at = at;
        said = v;
        says = said.1;
        execution = now.0;
        shows = now.1;
        bar_of = subst (λ ws. IsBar part.places ws bar) here (subst (λ ps. IsBar ps row bar) f is);
        long = long;
      }
