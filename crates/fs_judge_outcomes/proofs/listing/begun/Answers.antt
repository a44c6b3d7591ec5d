use Rattle.std.proofs.Common.{◌≡◌, ◌∙◌, ap, sym, subst, List, [], ◌∷◌, ◌++◌, map}
use Rattle.fs_judge_outcomes.specs.declared.part.Atom.{Atom}
use Rattle.fs_judge_outcomes.specs.declared.state.State.{State}
use Rattle.fs_judge_outcomes.specs.inner.Parts.{state_in, IsListed}
use Rattle.fs_judge_outcomes.proofs.Covered.{begins}
use Rattle.fs_judge_outcomes.proofs.listing.begun.Goals as goal

pub returns-clause-listed : goal.returns-clause-listed
returns-clause-listed c = λ p.
    let t = c.args.test.now in
    let places = c.args.places.now in
    let whole : c.new-all.result ≡ [] = c.new-all.ensures ∙ c.new.ensures.items in
    let parts : c.push.new.self.items ≡ [] ∷ [] =
    c.in_ok-push.ensures.items
    ∙ ap (λ (ps : List (List Atom)). ps ++ c.new-all.result ∷ []) c.new-parts.ensures.items
    ∙ ap (λ (part : List Atom). part ∷ []) whole in
    subst (λ (known : List State). IsListed t p places known c.push.new.self.items) (sym (ap (map state_in) c.new-known.ensures.empty))
    (subst (λ (ps : List (List Atom)). IsListed t p places [] ps) (sym parts) (begins t p places))
