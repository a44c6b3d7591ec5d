use Rattle.std.proofs.Common.{◌≡◌, ◌∙◌, ◌||◌, Bool, true, false, not, length, ap, refl, sym}
use Rattle.std.proofs.lemmas.Bool.{false≢true}
use Rattle.fs_model_brute_force.specs.Whole.{pre_execution_of}
use Rattle.fs_model_brute_force.proofs.Agreeing.{ppo_at}
use Rattle.fs_model_brute_force.proofs.axioms.goes_forward.Goals as goal

apart : (b q s : Bool) → b ≡ q → b ≡ false → not b ≡ (not q || s)
apart b true s e f = absurd (false≢true (sym f ∙ e))
apart b false s e f = ap not f

ordered : (b q s r : Bool) → b ≡ q → b ≡ true → r ≡ s → r ≡ (not q || s)
ordered b true s r e f k = k
ordered b false s r e f k = absurd (false≢true (sym e ∙ f))

pub returns-then-not-ppo : goal.returns-then-not-ppo
returns-then-not-ppo c =
    let x = pre_execution_of c.args.test.now c.args.traces.now in
    let before = c.ppo.ensures x (c.operations.ensures ∙ c.requires) refl
    ∙ ppo_at x c.args.placement.now c.args.ordered.now.listed c.sources.result.now (length c.args.ordered.now.operations)
    c.args.a c.args.b (ap length c.requires) (c.sources.ensures x c.requires) in
    apart c.ppo.result _ _ before c.if-not-ppo.true

pub returns-else-not-ppo : goal.returns-else-not-ppo
returns-else-not-ppo c =
    let x = pre_execution_of c.args.test.now c.args.traces.now in
    let before = c.ppo.ensures x (c.operations.ensures ∙ c.requires) refl
    ∙ ppo_at x c.args.placement.now c.args.ordered.now.listed c.sources.result.now (length c.args.ordered.now.operations)
    c.args.a c.args.b (ap length c.requires) (c.sources.ensures x c.requires) in
    ordered c.ppo.result _ _ _ before c.if-not-ppo.false (c.stands_before.ensures x c.requires)
