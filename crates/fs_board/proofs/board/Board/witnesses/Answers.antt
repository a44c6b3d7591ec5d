use Rattle.std.proofs.Common.{map, ◌∙◌, ap, sym}
use Rattle.fs_cert_evidence.specs.Evidence.{Shown}
use Rattle.fs_board.specs.View.{Search}
use Rattle.fs_board.proofs.Backed.{plain_witnesses}
use Rattle.fs_board.proofs.board.Board.witnesses.Goals as goal

pub returns-clause-value : goal.returns-clause-value
returns-clause-value c =
    sym (plain_witnesses c.witnesses.result.now)
    ∙ (ap (map (λ (w : Shown). w.witness)) c.witnesses.ensures ∙ ap (λ (x : Search). x.board.witnesses) c.self.view_is)
