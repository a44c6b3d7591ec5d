use Rattle.std.proofs.Common.{Err, option_map, ◌∙◌, ap, subst}
use Rattle.fs_instr.specs.Operands.{toks}
use Rattle.fs_instr.specs.Spelled.{Answers, Spells}
use Rattle.fs_instr.specs.declared.reading.Refused.TheVariants.{Form, Name, Suffix}
use Rattle.fs_litmus_syntax.proofs.CellLemmas.{empty_cell, at_rest, labels_alone, with_instruction, malformed, not_known, not_supported}
use Rattle.fs_litmus_syntax.proofs.cell.read_cell.Goals as goal

pub returns-in_default : goal.returns-in_default
returns-in_default c = empty_cell c.args.cell.now _ c.in_default.ensures.cases

pub returns-in_default-split_first : goal.returns-in_default-split_first
returns-in_default-split_first c = labels_alone c.args.cell.now c.skip-rest.result.now _ _ (at_rest c.args.cell.now c.skip-rest.result.now _ _ c.in_ok-taken.taken c.skip-rest.ensures c.in_ok-taken.ensures.labels) c.in_default-split_first.ensures.cases

pub returns-in-Ok : goal.returns-in-Ok
returns-in-Ok c =
    let rest = at_rest c.args.cell.now c.skip-rest.result.now _ _ c.in_ok-taken.taken c.skip-rest.ensures c.in_ok-taken.ensures.labels in
    let same = ap toks c.deref.ensures.value ∙ c.in_ok-tokens.ensures in
    with_instruction c.args.cell.now c.skip-rest.result.now c.args.listing.now c.read_labels.new.listing _ c.in-Some-split_first.mnemonic.now c.in-Some-split_first.after.now c.in-Ok.parsed.instr _ rest c.in-Some-split_first.ensures.cases.0 (subst (λ ts. Spells ts c.in-Ok.parsed.instr (option_map (λ w. w.now) c.in-Ok.parsed.label)) same c.in-Ok.ensures.answers) c.in_ok-push_instruction-in-Ok.ensures

pub returns-in-Err-Form : goal.returns-in-Err-Form
returns-in-Err-Form c =
    let rest = at_rest c.args.cell.now c.skip-rest.result.now c.args.listing.now c.read_labels.new.listing c.in_ok-taken.taken c.skip-rest.ensures c.in_ok-taken.ensures.labels in
    let same = ap toks c.deref.ensures.value ∙ c.in_ok-tokens.ensures in
    malformed c.args.cell.now c.skip-rest.result.now _ _ c.in-Some-split_first.mnemonic.now c.in-Some-split_first.after.now rest c.in-Some-split_first.ensures.cases.0 c.in-Some.first.now _ c.in-Some.ensures.cases.0 (subst (λ ts. Answers ts (Err Form)) same (rw c.in-Err-Form.field-0-is at c.in-Err-Form.ensures.answers))

pub returns-in-Err-Name : goal.returns-in-Err-Name
returns-in-Err-Name c =
    let rest = at_rest c.args.cell.now c.skip-rest.result.now c.args.listing.now c.read_labels.new.listing c.in_ok-taken.taken c.skip-rest.ensures c.in_ok-taken.ensures.labels in
    let same = ap toks c.deref.ensures.value ∙ c.in_ok-tokens.ensures in
    not_known c.args.cell.now c.skip-rest.result.now _ _ c.in-Some-split_first.mnemonic.now c.in-Some-split_first.after.now rest c.in-Some-split_first.ensures.cases.0 (subst (λ ts. Answers ts (Err Name)) same (rw c.in-Err-Name.field-0-is at c.in-Err-Name.ensures.answers))

pub returns : goal.returns
returns c =
    let rest = at_rest c.args.cell.now c.skip-rest.result.now c.args.listing.now c.read_labels.new.listing c.in_ok-taken.taken c.skip-rest.ensures c.in_ok-taken.ensures.labels in
    let same = ap toks c.deref.ensures.value ∙ c.in_ok-tokens.ensures in
    not_supported c.args.cell.now c.skip-rest.result.now _ _ c.in-Some-split_first.mnemonic.now c.in-Some-split_first.after.now rest c.in-Some-split_first.ensures.cases.0 (subst (λ ts. Answers ts (Err Suffix)) same (rw c.in-Err-Suffix.field-0-is at c.in-Err-Suffix.ensures.answers))
