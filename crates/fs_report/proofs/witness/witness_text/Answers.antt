use Rattle.std.proofs.Common.{◌≡◌, ap, sym, ◌∙◌, subst, refl, ◌≤◌, false}
use Rattle.std.proofs.lemmas.Result.{IfOk-weaker}
use Rattle.std.proofs.lemmas.Str.{IsUtf8-string_bytes}
use Rattle.serde_json.specs.Data.{depth}
use Rattle.serde_json.specs.Read.{max_depth}
use Rattle.serde_json.specs.View.{view}
use Rattle.serde_json.specs.Written.{has_float, compact_text}
use Rattle.fs_report.specs.Given.{given}
use Rattle.fs_report.proofs.Depths.{no_float, shallow}
use Rattle.fs_report.proofs.witness.witness_text.Goals as goal

pub returns-clause-text : goal.returns-clause-text
returns-clause-text c =
    let is = c.in_ok-value.ensures.value in
    let whole = subst (λ d. has_float d ≡ false) (sym is) (no_float (given c.args.choices.now c.args.order.now)) in
    IfOk-weaker c.to_string.result _ _ (λ s h. h whole ∙ ap compact_text is) c.to_string.ensures.text

pub returns-clause-file : goal.returns-clause-file
returns-clause-file c =
    let is = c.in_ok-value.ensures.value in
    let low = subst (λ d. depth d ≤ max_depth) (sym is) (shallow (given c.args.choices.now c.args.order.now)) in
    IfOk-weaker c.to_string.result _ _ (λ s h. record {
      utf8 = IsUtf8-string_bytes s;
      value = view c.in_ok-value.value;
      reads = h low;
      says = c.in_ok-value.ensures.says;
      lists = refl;
    }) c.to_string.ensures.reads_back
