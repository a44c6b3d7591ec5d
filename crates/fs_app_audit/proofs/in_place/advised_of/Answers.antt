use Rattle.std.proofs.Common.{◌≢◌, List, sym, subst}
use Rattle.std.specs.Prelude.{All, IfErr, IfOk}
use Rattle.fs_kinds.specs.declared.fault.Fault.TheVariants.{Memory}
use Rattle.fs_kinds.specs.declared.placement.Entry.{Entry}
use Rattle.fs_model.specs.Allows.{Allows}
use Rattle.fs_model.specs.Test.{IsBounded, IsStart}
use Rattle.fs_board_offers.specs.Offers.{IsCheapest, IsPlacement}
use Rattle.fs_board_offers.specs.Questions.{Question}
use Rattle.fs_board_search.specs.Answers.{IsLimitFault}
use Rattle.fs_app_audit.proofs.in_place.advised_of.Goals as goal

pub searched-requires-clause-bounded : goal.searched-requires-clause-bounded
searched-requires-clause-bounded c = subst (λ (q : Question). IsBounded q.test) (sym c.in_ok-question.ensures) c.requires.bounded

pub searched-requires-clause-starts : goal.searched-requires-clause-starts
searched-requires-clause-starts c = subst (λ (q : Question). All IsStart q.test.starts) (sym c.in_ok-question.ensures) c.requires.starts

pub searched-requires-clause-some : goal.searched-requires-clause-some
searched-requires-clause-some c =
    subst (λ (q : Question). (p : List Entry) × IsPlacement q.offers p × (Allows q.test p → ⊥)) (sym c.in_ok-question.ensures) c.requires.some

pub returns-clause-ok : goal.returns-clause-ok
returns-clause-ok c =
    subst (λ (q : Question). IfOk c.searched.result (λ p. IsCheapest q.test q.offers p)) c.in_ok-question.ensures c.searched.ensures.ok

pub returns-clause-err : goal.returns-clause-err
returns-clause-err c =
    subst (λ (q : Question). IfErr c.searched.result (λ f. f ≢ Memory → IsLimitFault q c.args.limits.nodes f)) c.in_ok-question.ensures
    c.searched.ensures.err
