use Rattle.std.proofs.Common.{◌∙◌, map, codes, string_bytes, ap}
use Rattle.std.proofs.lemmas.Result.{IfOk-weaker}
use Rattle.fs_model.specs.Printed.{joined}
use Rattle.fs_model.proofs.Texts.{joined-map}
use Rattle.fs_app_audit.proofs.blocks.joined_pieces.Goals as goal

pub returns : goal.returns
returns c =
    IfOk-weaker c.join.result _ _
    (λ text is. is ∙ joined-map string_bytes (codes ", ") c.deref.result.now
    ∙ ap (joined (codes ", ")) (ap (map string_bytes) c.deref.ensures.value ∙ c.in_ok-pieces.ensures))
    c.join.ensures.ok
