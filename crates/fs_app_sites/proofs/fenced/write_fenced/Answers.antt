use Rattle.std.proofs.Common.{◌≡◌, ◌∙◌, ap, arith, false, refl, subst, sym, true}
use Rattle.std.proofs.lemmas.Result.{IfOk-weaker}
use Rattle.fs_model.specs.Fenced.{fenced}
use Rattle.fs_model.specs.Test.{IsBounded}
use Rattle.fs_app_sites.specs.inner.Short.{is_short}
use Rattle.fs_app_sites.proofs.Short.{are-long, are-short}
use Rattle.fs_app_sites.proofs.fenced.write_fenced.Goals as goal

pub returns-then-not-is_short-clause-err : goal.returns-then-not-is_short-clause-err
returns-then-not-is_short-clause-err c = λ n.
    let made = fenced c.args.test c.args.placement.now in
    let same : c.as_slice.result.now ≡ made.codes = c.as_slice.ensures ∙ ap (λ t. t.codes) c.in_ok-made.ensures in
    let no : c.is_short.result ≡ false = grind arith in
    (refl, are-long made.codes (ap is_short (sym same) ∙ sym c.is_short.ensures ∙ no))

pub print-requires : goal.print-requires
print-requires c =
    let made = fenced c.args.test c.args.placement.now in
    let same : c.as_slice.result.now ≡ made.codes = c.as_slice.ensures ∙ ap (λ t. t.codes) c.in_ok-made.ensures in
    let is : c.is_short.result ≡ true = grind arith in
    let short = are-short made.codes (ap is_short (sym same) ∙ sym c.is_short.ensures ∙ is) in
    subst IsBounded (sym c.in_ok-made.ensures) ((c.reads_back.ensures.fenced c.requires).test short).bounded

pub returns-clause-short : goal.returns-clause-short
returns-clause-short c =
    let made = fenced c.args.test c.args.placement.now in
    let same : c.as_slice.result.now ≡ made.codes = c.as_slice.ensures ∙ ap (λ t. t.codes) c.in_ok-made.ensures in
    let is : c.is_short.result ≡ true = grind arith in
    IfOk-weaker c.print.result _ _
    (λ text printed. are-short made.codes (ap is_short (sym same) ∙ sym c.is_short.ensures ∙ is)) c.print.ensures.ok
