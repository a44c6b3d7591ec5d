use Rattle.std.proofs.Common.{rules, ◌≡◌, true, Some}
use Rattle.std.specs.Prelude.{slice_get}
use Rattle.std.specs.Str.{bytes_eq}
use Rattle.std.proofs.lemmas.Result.{IfOk-weaker}
use Rattle.fs_app_states.specs.Compared.{states_seen}
use Rattle.fs_app_states.specs.Rows.{AreColumns, AreFirstColumns}
use Rattle.fs_app_states.proofs.Blocks.{first_seen}
use Rattle.fs_app_states.proofs.rows.first_columns.Goals as goal

-- src/rows.rt:106:17
pub returns-in-Some : goal.returns-in-Some
returns-in-Some c =
    let t = c.args.test.now in
    let at : bytes_eq c.block-item.result.name.now c.args.name.now ≡ true = search rules in
    let has : slice_get c.block-item.result.states 0 ≡ Some c.in-Some.first.now = search rules in
    IfOk-weaker c.columns_of.result (λ columns. AreColumns t c.in-Some.first.now columns.items)
    (λ columns. AreFirstColumns t (states_seen c.args.log.now c.args.name.now) columns.items)
    (λ columns are. first_seen c.args.log.now c.loop-block.block-index c.block-item.result c.args.name.now c.in-Some.first.now t columns.items
    c.loop-block-test.true c.block-item.is c.loop-block.invariant at has are)
    c.columns_of.ensures
