use Rattle.std.proofs.Common.{◌∙◌, sym, ap, subst, arith, map, length, ◌<◌, ◌≤◌, ◌≡◌, ◌+◌, ◌++◌, ◌∷◌, []}
use Rattle.std.proofs.lemmas.List.{length-map, map-append}
use Rattle.fs_app_states.specs.Blocks.{read_block, read_state}
use Rattle.fs_app_states.specs.inner.Reading.{IsReadBefore}
use Rattle.fs_app_states.proofs.Reading.{bad_block, if_err, one_block, read_all, skipped}
use Rattle.fs_app_states.proofs.reader.read_blocks.Goals as goal

pub returns-in_err-block-clause-err : goal.returns-in_err-block-clause-err
returns-in_err-block-clause-err c =
    let lines : length (map (λ line. line.now) c.args.lines.now) ≡ length c.args.lines.now = length-map c.args.lines.now _ in
    if_err _ _ _ c.from_residual.ensures.1
    (bad_block (map (λ line. line.now) c.args.lines.now) c.loop-index.index (map read_block c.loop-index.blocks.items) _ (omega (arith, lines, c.loop-index-test.true)) (sym c.if-begins_block.ensures) c.in_err-block.ensures.err c.loop-index.invariant)

pub loop-index-preserved-in-Continue-branch-2 : goal.loop-index-preserved-in-Continue-branch-2
loop-index-preserved-in-Continue-branch-2 c =
    let lines : length (map (λ line. line.now) c.args.lines.now) ≡ length c.args.lines.now = length-map c.args.lines.now _ in
    let states : length (read_block c.in_ok-block.block).states ≡ length c.in_ok-block.block.states = length-map c.in_ok-block.block.states read_state in
    let one = one_block (map (λ line. line.now) c.args.lines.now) c.loop-index.index (map read_block c.loop-index.blocks.items) (read_block c.in_ok-block.block) (omega (arith, lines, c.loop-index-test.true)) (sym c.if-begins_block.ensures) c.in_ok-block.ensures.ok c.loop-index.invariant in
    let at : c.loop-index.index + 3 + length (read_block c.in_ok-block.block).states ≡ c.loop-index.index + (3 + c.len.result) = omega (arith, states, c.len.ensures) in
    let blocks : map read_block c.loop-index.blocks.items ++ read_block c.in_ok-block.block ∷ [] ≡ map read_block c.push.new.self.items =
    sym (map-append read_block c.loop-index.blocks.items (c.in_ok-block.block ∷ [])) ∙ sym (ap (map read_block) c.in_ok-push.ensures.items) in
    subst (λ k. IsReadBefore (map (λ line. line.now) c.args.lines.now) k (map read_block c.push.new.self.items)) at
    (subst (IsReadBefore (map (λ line. line.now) c.args.lines.now) (c.loop-index.index + 3 + length (read_block c.in_ok-block.block).states)) blocks one)

pub loop-index-preserved : goal.loop-index-preserved
loop-index-preserved c =
    let lines : length (map (λ line. line.now) c.args.lines.now) ≡ length c.args.lines.now = length-map c.args.lines.now _ in
    skipped (map (λ line. line.now) c.args.lines.now) c.loop-index.index (map read_block c.loop-index.blocks.items) (omega (arith, lines, c.loop-index-test.true)) (sym c.if-begins_block.ensures) c.loop-index.invariant

pub returns-clause-ok : goal.returns-clause-ok
returns-clause-ok c =
    let lines : length (map (λ line. line.now) c.args.lines.now) ≡ length c.args.lines.now = length-map c.args.lines.now _ in
    read_all (map (λ line. line.now) c.args.lines.now) c.loop-index.index (map read_block c.loop-index.blocks.items) (omega (arith, lines, c.loop-index-test.false)) c.loop-index.invariant
