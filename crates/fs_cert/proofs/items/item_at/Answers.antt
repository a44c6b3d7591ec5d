use Rattle.std.proofs.Common.{◌≡◌, sym, subst, IfOk}
use Rattle.fs_cert_json.specs.Kept.{item_of}
use Rattle.fs_board.specs.View.{status_of}
use Rattle.fs_board.specs.declared.node.Status.{Status}
use Rattle.fs_cert.specs.inner.Items.{item_at}
use Rattle.fs_cert.proofs.items.item_at.Goals as goal

pub returns-in-Bounded-clause-value : goal.returns-in-Bounded-clause-value
returns-in-Bounded-clause-value c =
    subst (λ (status : Status). IfOk c.bounded.result (λ item. item_of item ≡ item_at c.args.slots.now c.args.numbers.now (status_of status))) (sym c.in-Bounded.is)
    (c.bounded.ensures.value c.args.slots.now)
