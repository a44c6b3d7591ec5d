use Rattle.std.proofs.Common.{◌∙◌, sym, ap, refl, subst, arith, map, length, ◌≤◌, ◌<◌, ◌≡◌, ◌+◌, ◌++◌, ◌∷◌, []}
use Rattle.std.proofs.lemmas.List.{length-map, length-append}
use Rattle.fs_app_states.specs.Blocks.{read_state}
use Rattle.fs_app_states.specs.inner.Reading.{AreFirst}
use Rattle.fs_app_states.proofs.Reading.{begun, further, stopped, done, state_within, if_err}
use Rattle.fs_app_states.proofs.reader.states_from.Goals as goal

pub loop-init : goal.loop-init
loop-init c =
    let none = c.new-states.ensures.items in
    record {
      as_many = ap length none;
      within = rw none (omega (arith, c.requires));
      first = rw none (begun (map (λ line. line.now) c.args.lines.now) c.args.count.counted c.args.index c.args.count.states);
    }

pub state_at-requires : goal.state_at-requires
state_at-requires c = omega (arith, c.len.ensures, c.loop.states.ok, c.loop.invariant.within)

pub returns-in_err-state_at-clause-err : goal.returns-in_err-state_at-clause-err
returns-in_err-state_at-clause-err c =
    let low : length c.loop.states.items < c.args.count.states = omega (arith, c.loop-test.true, c.loop.invariant.as_many) in
    let here : c.len.result ≡ length c.loop.states.items = omega (arith, c.len.ensures, c.loop.states.ok) in
    let wrong = rw here at c.in_err-state_at.ensures.err in
    if_err _ _ _ c.from_residual.ensures.1
    (stopped (map (λ line. line.now) c.args.lines.now) c.args.count.counted c.args.index c.args.count.states c.loop.states.items _ low wrong c.loop.invariant.first)

pub loop-preserved : goal.loop-preserved
loop-preserved c =
    let low : length c.loop.states.items < c.args.count.states = omega (arith, c.loop-test.true, c.loop.invariant.as_many) in
    let here : c.len.result ≡ length c.loop.states.items = omega (arith, c.len.ensures, c.loop.states.ok) in
    let found = rw here at c.in_ok-state_at.ensures.ok in
    let inside = state_within (map (λ line. line.now) c.args.lines.now) c.args.count.counted (c.args.index + length c.loop.states.items) _ found in
    let lines : length (map (λ line. line.now) c.args.lines.now) ≡ length c.args.lines.now = length-map c.args.lines.now _ in
    let more : length c.push.new.self.items ≡ length c.loop.states.items + 1 = ap length c.in_ok-push.ensures.items ∙ length-append c.loop.states.items (c.in_ok-state_at.field-0 ∷ []) in
    record {
      as_many = omega (arith, more, c.loop.invariant.as_many);
      within = omega (arith, more, inside, lines);
      first = further (map (λ line. line.now) c.args.lines.now) c.args.count.counted c.args.index c.args.count.states c.loop.states.items _ c.in_ok-state_at.field-0 low found c.in_ok-push.ensures.items c.loop.invariant.first;
    }

pub returns-clause-ok : goal.returns-clause-ok
returns-clause-ok c =
    let all : length c.loop.states.items ≡ c.args.count.states = omega (arith, c.loop-test.false, c.loop.invariant.as_many) in
    done (map (λ line. line.now) c.args.lines.now) c.args.count.counted c.args.index c.args.count.states c.loop.states.items all c.loop.invariant.first

pub returns-clause-within : goal.returns-clause-within
returns-clause-within c = c.loop.invariant.within
