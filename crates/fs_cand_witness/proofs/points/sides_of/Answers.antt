use Rattle.std.proofs.Common.{arith, ◌≡◌, ◌||◌, ◌∙◌, sym, ap, ℕ, Bool, length}
use Rattle.std.specs.List.{list_any}
use Rattle.std.proofs.lemmas.List.{length-map}
use Rattle.fs_hart.specs.declared.trace.Trace.{Trace}
use Rattle.fs_cand.specs.Candidates.{runs_of}
use Rattle.fs_model.specs.Numbers.{numbers_below}
use Rattle.fs_model.specs.Operations.{steps_of}
use Rattle.fs_cand_witness.specs.inner.Halves.{orders_before_step}
use Rattle.fs_cand_witness.proofs.StepSides.{all_steps, any_next}
use Rattle.fs_cand_witness.proofs.points.sides_of.Goals as goal

pub loop-hart-preserved : goal.loop-hart-preserved
loop-hart-preserved c = λ words made p a b.
    let x = runs_of c.args.candidate.now words in
    let in_hart : ℕ → Bool = λ h. list_any (orders_before_step x p h a b) (numbers_below (length (steps_of x.traces h))) in
    c.in_ok-push_sides.ensures.ok words made p a b
    ∙ (ap (λ r. r || in_hart c.loop-hart.hart) (c.loop-hart.invariant words made p a b) ∙ sym (any_next in_hart c.loop-hart.hart))

pub returns-clause-ok : goal.returns-clause-ok
returns-clause-ok c = λ words made p a b.
    let x = runs_of c.args.candidate.now words in
    let in_hart : ℕ → Bool = λ h. list_any (orders_before_step x p h a b) (numbers_below (length (steps_of x.traces h))) in
    let many = length-map c.args.candidate.now.traces (λ (trace : Trace). trace.steps) in
    let all : c.loop-hart.hart ≡ length x.traces = omega (arith, many, c.len-hart-end.ensures) in
    c.loop-hart.invariant words made p a b ∙ (ap (λ n. list_any in_hart (numbers_below n)) all ∙ all_steps x p a b)
