use Rattle.std.proofs.Common.{◌≡◌, ◌∙◌, List, [], All, ap, subst, sym}
use Rattle.std.specs.Arc.{arc_value}
use Rattle.std.specs.List.{slice_index_or}
use Rattle.fs_kinds.specs.declared.reason.OperationName.{OperationName as Name}
use Rattle.fs_model.specs.declared.test.Test.{Test}
use Rattle.fs_model.specs.OfTests.{program_of}
use Rattle.fs_region_refutation.specs.Alone.{RunOf}
use Rattle.fs_region_refutation.specs.Runs.{all_asked, HasProgramOf, IsBasis}
use Rattle.fs_region_refutation.proofs.Asked.{has_program, still_basis}
use Rattle.fs_region_refutation.proofs.basis.Basis.asking.Goals as goal

pub all_asked-requires : goal.all_asked-requires
all_asked-requires c = λ hart.
    subst (λ (lists : List (List RunOf)). All (HasProgramOf (arc_value c.args.test.now)) (slice_index_or lists hart [])) (sym c.deref.ensures.value)
    (has_program (arc_value c.self.inside.test) (arc_value c.args.test.now) (ap program_of c.self.view_is ∙ c.requires.same) c.self.inside.runs.items
    c.self.inside.names c.self.invariant hart)

pub invariant_of-result : goal.invariant_of-result
invariant_of-result c =
    let u = arc_value c.args.test.now in
    let old = c.self.inside.runs.items in
    let runs : c.in_ok-runs.runs.items ≡ all_asked u old = c.in_ok-runs.ensures ∙ ap (all_asked u) c.deref.ensures.value in
    let named : c.new.result ≡ c.self.inside.names = c.new.ensures ∙ c.in_ok-names.ensures.items ∙ c.as_slice.ensures in
    subst (λ (t : Test). IsBasis t c.in_ok-runs.runs.items c.new.result) (sym c.in_ok-shared.ensures)
    (subst (λ (rs : List (List RunOf)). IsBasis u rs c.new.result) (sym runs)
    (subst (λ (ns : List Name). IsBasis u (all_asked u old) ns) (sym named)
    (still_basis (arc_value c.self.inside.test) u (ap program_of c.self.view_is ∙ c.requires.same) old c.self.inside.names c.self.invariant
    c.requires.bounded)))
