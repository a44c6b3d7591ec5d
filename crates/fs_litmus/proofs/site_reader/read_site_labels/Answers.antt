use Rattle.std.proofs.Common.{◌≢◌, refl, sym, ap, ◌∙◌}
use Rattle.fs_kinds.specs.declared.fault.Fault.TheVariants.{Memory}
use Rattle.fs_litmus_tokens.specs.Tokens.{views}
use Rattle.fs_litmus_syntax.specs.Form.{form_of}
use Rattle.fs_litmus.proofs.Sections.{tokens_there}
use Rattle.fs_litmus.specs.SiteLabels.{clash, all_of}
use Rattle.fs_litmus.specs.Sited.{IsSiteFault, broken, again}
use Rattle.fs_litmus.proofs.Forms.{IfErr-handed, form_stands, form_read}
use Rattle.fs_litmus.proofs.site_reader.read_site_labels.Goals as goal

pub returns-in_err-_lines-clause-err : goal.returns-in_err-_lines-clause-err
returns-in_err-_lines-clause-err c =
    IfErr-handed c.from_residual.result _ (λ f. f ≢ Memory → IsSiteFault c.args.bytes.now f) c.from_residual.ensures.1
    (λ known. broken (c.in_err-_lines.ensures.err known).1)

pub unreachable-requires : goal.unreachable-requires
unreachable-requires c =
    let there = c.in_ok-_lines.ensures.ok.has_form.has_tokens in
    c.in_default.ensures.absent refl there.body there.line there.has_body

pub unreachable-requires-in-Err-At : goal.unreachable-requires-in-Err-At
unreachable-requires-in-Err-At c =
    let bytes = c.args.bytes.now in
    let there = tokens_there bytes _ _ c.in_ok-tokens.tokens.items c.deref.result.now c.in_ok-tokens.field-0-1 c.in-Some.ensures.value c.deref.ensures.value c.in_ok-tokens.ensures.are in
    let stops = rw c.in-Err-At.field-0-is at c.in-Err-At.ensures.bad in
    form_stands bytes (views c.deref.result.now) _ there _ _ c.in_ok-_lines.ensures.ok.has_form (views c.in-Err-At.field-0-0.now) stops.stops

pub returns-in-Some-clash-clause-err : goal.returns-in-Some-clash-clause-err
returns-in-Some-clash-clause-err c = λ known.
    let bytes = c.args.bytes.now in
    let there = tokens_there bytes _ _ c.in_ok-tokens.tokens.items c.deref.result.now c.in_ok-tokens.field-0-1 c.in-Some.ensures.value c.deref.ensures.value c.in_ok-tokens.ensures.are in
    again (form_read bytes (views c.deref.result.now) _ there _ _ c.in_ok-_lines.ensures.ok.has_form (form_of c.in-Ok.read.0) _ c.in-Ok.ensures.ok)
    (ap clash (sym c.in_ok-sites.ensures) ∙ ap (λ l. clash (all_of l)) (sym c.deref-2.ensures.value) ∙ sym c.clash.ensures ∙ c.in-Some-clash.is)

pub returns-clause-ok : goal.returns-clause-ok
returns-clause-ok c =
    let bytes = c.args.bytes.now in
    let there = tokens_there bytes _ _ c.in_ok-tokens.tokens.items c.deref.result.now c.in_ok-tokens.field-0-1 c.in-Some.ensures.value c.deref.ensures.value c.in_ok-tokens.ensures.are in
    record {
      form = form_of c.in-Ok.read.0;
      syntax_of = c.in_ok-_lines.ensures.ok.syntax_of;
      has_form = form_read bytes (views c.deref.result.now) _ there _ _ c.in_ok-_lines.ensures.ok.has_form (form_of c.in-Ok.read.0) _ c.in-Ok.ensures.ok;
      are_labels = c.in_ok-sites.ensures;
      apart = ap (λ l. clash (all_of l)) (sym c.deref-2.ensures.value) ∙ sym c.clash.ensures ∙ c.in-None.is;
    }
