use Rattle.std.proofs.Common.{◌∙◌, ℕ, ◌<◌, length, sym, ap, arith}
use Rattle.fs_app_why.specs.Kinds.{is_of}
use Rattle.fs_app_why.proofs.Places.{placed_at, placed_none}
use Rattle.fs_app_why.proofs.kinds.kind_of.Goals as goal

pub returns-then-branch : goal.returns-then-branch
returns-then-branch c =
    let item = c.index-kinds-number.result in
    placed_at (is_of c.args.texts.now c.args.chain.now) c.args.kinds.now item c.loop-number.number c.loop-number-test.true
    (λ j less. c.loop-number.invariant j item less)
    (ap (is_of c.args.texts.now c.args.chain.now) (sym c.index-kinds-number.is) ∙ sym c.in_ok-has.ensures ∙ c.if-branch.true)

pub returns : goal.returns
returns c =
    let kinds = c.args.kinds.now in
    let all : (j : ℕ) → j < length kinds → j < c.loop-number.number =
    λ j low. let end = c.loop-number-test.false in omega (arith, low, end) in
    placed_none (is_of c.args.texts.now c.args.chain.now) kinds (λ j d low. c.loop-number.invariant j d (all j low))
