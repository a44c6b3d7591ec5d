use Rattle.std.proofs.Common.{◌≡◌, map, sym, ◌∙◌, ap, subst}
use Rattle.std.specs.Prelude.{IfOk}
use Rattle.std.specs.Arc.{arc_value}
use Rattle.fs_board_offers.specs.Offers.{slots}
use Rattle.fs_board_offers.specs.Board.{CutBound}
use Rattle.fs_cert_evidence.specs.Evidence.{Shown, witness_in}
use Rattle.fs_board.specs.Growth.{AreWitnesses}
use Rattle.fs_board.specs.View.{Answers, reply_of}
use Rattle.fs_board.proofs.Backed.{plain_witnesses}
use Rattle.fs_board.proofs.board.Board.cut_bound.Goals as goal

pub bound_by-requires : goal.bound_by-requires
bound_by-requires c =
    let same : map arc_value c.new-listed.result ≡ map arc_value c.args.witnesses.now = ap (map arc_value) c.new-listed.ensures ∙ c.in_ok-share.ensures in
    subst (AreWitnesses c.args.self.now.question.test (slots c.args.self.now.question.offers)) (sym same) c.requires

pub returns-clause-step : goal.returns-clause-step
returns-clause-step c =
    let same : map arc_value c.new-listed.result ≡ map arc_value c.args.witnesses.now = ap (map arc_value) c.new-listed.ensures ∙ c.in_ok-share.ensures in
    let listed : map witness_in c.new-listed.result ≡ map witness_in c.args.witnesses.now =
    sym (plain_witnesses c.new-listed.result) ∙ (ap (map (λ (y : Shown). y.witness)) same ∙ plain_witnesses c.args.witnesses.now) in
    subst (λ ws. IfOk c.bound_by.result (λ r. Answers c.args.self.now c.bound_by.new.self c.args.worker (CutBound c.args.node ws) (reply_of r))) listed c.bound_by.ensures.step
