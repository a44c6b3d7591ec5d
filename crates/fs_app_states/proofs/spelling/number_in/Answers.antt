use Rattle.std.proofs.Common.{◌∙◌, sym}
use Rattle.fs_app_states.proofs.Pieces.{parsed}
use Rattle.fs_app_states.proofs.spelling.number_in.Goals as goal

pub returns-then-are_digits : goal.returns-then-are_digits
returns-then-are_digits c =
    c.ok.ensures.value ∙ parsed c.args.digits.now c.parse.result c.parse.ensures.value.0 (rw (sym c.as_bytes.ensures.value) (sym c.if-are_digits.ensures))
