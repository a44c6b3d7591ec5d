use Rattle.std.proofs.Common.{◌≡◌, ℕ, Option, List, option_and_then, sym, ◌∙◌, ap}
use Rattle.std.specs.Prelude.{slice_get}
use Rattle.std.specs.Arc.{arc_value}
use Rattle.fs_model.specs.Operations.{steps_of}
use Rattle.fs_model.specs.declared.step.Step.{Step}
use Rattle.fs_hart.specs.Steps.{steps_in}
use Rattle.fs_verdict_laws.specs.Local.{place_of}
use Rattle.fs_cert_evidence.specs.Regions.{step_at}
use Rattle.fs_region_refutation.specs.Alone.{RunOf}
use Rattle.fs_region_refutation.specs.declared.lone.Made.{Made}
use Rattle.fs_region_refutation.specs.inner.Tables.{listed_at}
use Rattle.fs_region_refutation.proofs.Positions.{step_is}
use Rattle.fs_region_refutation.proofs.lone.Lone.step_at.Goals as goal

pub returns : goal.returns
returns c =
    let run = steps_of (steps_in (arc_value c.self.inside.made).candidate.traces) c.self.inside.hart in
    let same : steps_of (steps_in (arc_value c.self.inside.made).candidate.traces) c.self.inside.hart ≡ c.args.self.now.steps = ap (λ (r : RunOf). r.steps) c.self.view_is in
    let place : c.listed_at.result ≡ place_of (steps_of (steps_in (arc_value c.self.inside.made).candidate.traces) c.self.inside.hart) c.args.at =
    c.listed_at.ensures ∙ ap (λ (table : List (Option ℕ)). listed_at table c.args.at) (c.deref-2.ensures.value ∙ ap (λ (made : Made). made.places.items) c.deref.ensures) ∙ c.self.invariant.0.tables.placed c.args.at in
    c.step_of.ensures
    ∙ ap (λ (steps : List Step). option_and_then (slice_get steps) c.listed_at.result) (c.steps.ensures ∙ sym same)
    ∙ ap (option_and_then (slice_get (steps_of (steps_in (arc_value c.self.inside.made).candidate.traces) c.self.inside.hart))) place
    ∙ step_is (steps_of (steps_in (arc_value c.self.inside.made).candidate.traces) c.self.inside.hart) c.args.at
    ∙ ap (λ (steps : List Step). step_at steps c.args.at) same
