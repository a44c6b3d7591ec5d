use Rattle.std.proofs.Common.{◌≡◌, ◌≤◌, Some, ap, sym, ◌∙◌, subst, false}
use Rattle.std.proofs.lemmas.Result.{IfOk-weaker}
use Rattle.std.proofs.lemmas.Str.{IsUtf8-string_bytes}
use Rattle.serde_json.specs.Data.{depth}
use Rattle.serde_json.specs.Read.{max_depth}
use Rattle.serde_json.specs.Written.{has_float, compact_text}
use Rattle.fs_cert_evidence.specs.Texts.{certificate_value}
use Rattle.fs_cert_json.proofs.Says.{certificate_said, shallow}
use Rattle.fs_cert_json.proofs.Texts.{no_float}
use Rattle.fs_cert_json.proofs.certificate.Certificate.to_text.Goals as goal

pub returns-clause-text : goal.returns-clause-text
returns-clause-text c =
    IfOk-weaker c.to_string.result _ _ (λ s h said keeps names.
    let is = c.in_ok-value.ensures said keeps names in
    h (subst (λ d. has_float d ≡ false) (sym is) (no_float said)) ∙ ap compact_text is) c.to_string.ensures.text

pub returns-clause-file : goal.returns-clause-file
returns-clause-file c =
    IfOk-weaker c.to_string.result _ _ (λ s h said keeps names can.
    let is = c.in_ok-value.ensures said keeps names in
    record {
      utf8 = IsUtf8-string_bytes s;
      value = certificate_value said;
      reads = h (subst (λ d. depth d ≤ max_depth) (sym is) (shallow said)) ∙ ap Some is;
      says = certificate_said said can names;
    }) c.to_string.ensures.reads_back
