use Rattle.std.proofs.Common.{◌++◌, ◌∙◌, arith, ap, length, flat_map, string_bytes}
use Rattle.fs_model.proofs.Numbered.{numbered_end, numbered_flat}
use Rattle.fs_app_why.specs.InstructionWords.{separated, separator}
use Rattle.fs_app_why.proofs.instruction_words.and_joined.Goals as goal

pub loop-number-preserved : goal.loop-number-preserved
loop-number-preserved c =
    let before = string_bytes c.loop-number.text in
    let count = length c.args.pieces.now in
    let number = c.loop-number.number in
    numbered_flat (separated count) c.args.pieces.now number c.index-pieces-number.result before _ (omega arith) c.index-pieces-number.is
    (c.in_ok-write.ensures.bytes
    ∙ ap (λ more. before ++ (more ++ c.as_str.result.now)) c.separator.ensures
    ∙ ap (λ more. before ++ (separator number count ++ more)) c.as_str.ensures)
    c.loop-number.invariant

pub returns : goal.returns
returns c =
    c.loop-number.invariant
    ∙ ap (flat_map (separated (length c.args.pieces.now))) (numbered_end c.args.pieces.now c.loop-number.number (omega arith))
