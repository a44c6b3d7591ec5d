use Rattle.std.proofs.Common.{◌≡◌, ◌∙◌, ap, rules}
use Rattle.std.specs.Prelude.{count_by}
use Rattle.fs_model_axioms.proofs.Counted.{is_of_hart, count_accesses}
use Rattle.fs_model_axioms.proofs.numbered.count_accesses.Goals as goal

pub returns-clause-count : goal.returns-clause-count
returns-clause-count c = λ x e.
    let counted : c.count.result ≡ count_by is_of_hart c.args.operations.now = search rules in
    counted ∙ ap (count_by is_of_hart) e ∙ count_accesses x
