use Rattle.std.proofs.Common.{◌∙◌, ◌++◌, ap, string_bytes, subst, sym}
use Rattle.fs_app_audit_json_and_why.specs.Why.{TellsPlaces}
use Rattle.fs_app_audit_json_and_why.proofs.why.advised_text.Goals as goal

pub returns-clause-told : goal.returns-clause-told
returns-clause-told c =
    let t = c.args.page.test.now in
    let p = c.args.placement.now in
    let told = c.in_ok-refutation.ensures.told in
    let fences = string_bytes c.in_ok-fences.fences in
    record {
      advised = told.0;
      same = told.1;
      why = string_bytes c.in_ok-refutation.refutation.text;
      forbidden = told.2;
      fences = fences;
      tells = subst (λ those. TellsPlaces t c.args.page.lines.now c.args.page.telling those p p fences) (c.deref.ensures.value ∙ sym told.3)
          c.in_ok-fences.ensures.told;
      told = c.in_ok-push_str.ensures.bytes ∙ ap (λ more. string_bytes c.in_ok-refutation.refutation.text ++ more) c.as_str.ensures.value;
    }
