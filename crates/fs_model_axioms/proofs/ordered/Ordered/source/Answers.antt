use Rattle.std.proofs.Common.{◌≡◌, ◌∙◌, length, ap}
use Rattle.fs_model.specs.Source.{source_in}
use Rattle.fs_model_axioms.specs.Ordered.{source_at}
use Rattle.fs_model_axioms.proofs.Sources.{source_of}
use Rattle.fs_model_axioms.proofs.ordered.Ordered.source.Goals as goal

pub returns : goal.returns
returns c x e =
    let operations : c.self.inside.operations ≡ c.args.self.now.operations = ap (λ v. v.operations) c.self.view_is in
    let listed : c.self.inside.listed.items ≡ c.args.self.now.listed = ap (λ v. v.listed) c.self.view_is in
    c.source_at.ensures
    ∙ ap (λ sources. source_at sources c.args.a) c.deref.ensures.value
    ∙ source_of x c.self.inside.listed.items c.self.inside.sources.items (length c.self.inside.operations) c.args.a
    (ap length (operations ∙ e)) (c.self.invariant.given x (operations ∙ e))
    ∙ ap (λ order. source_in x order c.args.a) listed
