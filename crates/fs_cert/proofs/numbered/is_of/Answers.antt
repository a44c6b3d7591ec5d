use Rattle.std.proofs.Common.{◌∙◌, ap, sym, map, Some}
use Rattle.fs_cert_evidence.specs.Evidence.{Shown}
use Rattle.fs_cert.proofs.Copying.{copy_is, same_lists, names_all}
use Rattle.fs_cert.proofs.numbered.is_of.Goals as goal

pub returns-clause-yes : goal.returns-clause-yes
returns-clause-yes c = λ w yes copied.
    copy_is c.args.file.now w c.args.witness.now.witness copied
    (c.says.ensures.choices yes ∙ ap (λ (s : Shown). s.witness.choices) c.witness.view_is)
    (c.says.ensures.order yes ∙ ap (λ (s : Shown). map (λ operation. Some operation) s.witness.order) c.witness.view_is)

pub returns-clause-no : goal.returns-clause-no
returns-clause-no c = λ copied.
    let file = c.args.file.now in
    let w = c.args.witness.now.witness in
    c.says.ensures.no
    (same_lists file.choices w.choices copied.choices ∙ sym (ap (λ (s : Shown). s.witness.choices) c.witness.view_is))
    (names_all file.order w.order copied.order ∙ sym (ap (λ (s : Shown). map (λ operation. Some operation) s.witness.order) c.witness.view_is))
