use Rattle.std.proofs.Common.{ap, ◌∙◌, arith, length}
use Rattle.fs_model.specs.Fenced.{fenced_codes}
use Rattle.fs_model.proofs.FencedSteps.{short-fenced_codes, length-fenced_codes}
use Rattle.fs_model.proofs.print.write_fenced.Goals as goal

pub print_with-requires-clause-lengths : goal.print_with-requires-clause-lengths
print_with-requires-clause-lengths c =
    let placement = c.args.placement.now in
    let codes = c.deref-2.ensures.value ∙ c.in_ok-codes.ensures ∙ ap (fenced_codes placement) c.as_slice-2.ensures in
    rw codes (short-fenced_codes placement c.args.test.now.codes c.requires.lengths)

pub print_with-requires-clause-harts : goal.print_with-requires-clause-harts
print_with-requires-clause-harts c =
    let placement = c.args.placement.now in
    let codes = c.deref-2.ensures.value ∙ c.in_ok-codes.ensures ∙ ap (fenced_codes placement) c.as_slice-2.ensures in
    omega (arith, ap length codes, length-fenced_codes placement c.args.test.now.codes)

pub print_with-requires-clause-atoms : goal.print_with-requires-clause-atoms
print_with-requires-clause-atoms c =
    let placement = c.args.placement.now in
    let codes = c.deref-2.ensures.value ∙ c.in_ok-codes.ensures ∙ ap (fenced_codes placement) c.as_slice-2.ensures in
    rw (ap length codes, length-fenced_codes placement c.args.test.now.codes) c.requires.atoms
