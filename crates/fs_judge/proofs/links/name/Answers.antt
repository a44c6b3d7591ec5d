use Rattle.std.proofs.Common.{◌≡◌, Option, Some, unwrap_or, sym, ◌∙◌, ap}
use Rattle.fs_kinds.specs.declared.reason.OperationName.{OperationName as Name}
use Rattle.fs_cand.specs.Candidates.{runs_of}
use Rattle.fs_model.proofs.HartOperations.{has_name}
use Rattle.fs_judge.proofs.links.name.Goals as goal

pub returns : goal.returns
returns c = λ words made low.
    let name = has_name (runs_of c.args.candidate.now words) c.args.a low in
    let found : c.operation_name.result ≡ Some name.0 = c.operation_name.ensures.runs words made ∙ name.1 in
    name.1 ∙ ap Some (sym (c.unwrap_or.ensures ∙ ap (λ (o : Option Name). unwrap_or o (record { hart = 0; at = 0 })) found))
