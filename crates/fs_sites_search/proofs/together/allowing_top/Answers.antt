use Rattle.std.proofs.Common.{ℕ, Some, Option, List, MatchOption, All, ap, sym, subst, ◌∙◌}
use Rattle.fs_kinds.specs.declared.kind.Kind.TheVariants.{RwRw}
use Rattle.fs_kinds.specs.declared.placement.Entry.{Entry}
use Rattle.fs_kinds.specs.Placement.{all_with}
use Rattle.fs_sites.specs.Answers.{IsShownIn}
use Rattle.fs_sites.specs.Questions.{AllowsIn}
use Rattle.fs_sites_search.proofs.Faults.{handed}
use Rattle.fs_sites_search.specs.Seats.{IsAskedIn}
use Rattle.fs_sites_search.proofs.Asked.{fails-in, first-in}
use Rattle.fs_sites_search.proofs.together.allowing_top.Goals as goal

pub returns-in_err-found-clause-err : goal.returns-in_err-found-clause-err
returns-in_err-found-clause-err g c =
    let parts = c.args.parts.now in
    let p = c.in_ok-top.top in
    let seats = c.as_mut_slice.result.now in
    let are = subst (All (IsAskedIn parts p)) (sym c.as_mut_slice.ensures.value) c.in_ok-asked.ensures.ok in
    handed c.from_residual-in_err-found.result _ _ c.from_residual-in_err-found.ensures.1
    (λ other. fails-in parts p seats are c.in_err-found.field-0.0 (c.in_err-found.ensures.err other))

pub returns-clause-ok : goal.returns-clause-ok
returns-clause-ok g c =
    let parts = c.args.parts.now in
    let seats = c.as_mut_slice.result.now in
    let are = subst (All (IsAskedIn parts c.in_ok-top.top)) (sym c.as_mut_slice.ensures.value) c.in_ok-asked.ensures.ok in
    let found = c.in_ok-found.found in
    let top = c.in_ok-top.ensures.ok ∙ ap (all_with (Some RwRw)) (c.deref.ensures.value ∙ c.in_ok-sites.ensures.value) in
    subst (λ (p : List Entry). MatchOption found (AllowsIn parts p → ⊥) (λ shown. IsShownIn parts p shown.0 shown.1)) top
    (first-in parts c.in_ok-top.top seats are found c.in_ok-found.ensures.ok)
