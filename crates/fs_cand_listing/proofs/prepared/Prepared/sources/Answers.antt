use Rattle.std.proofs.Common.{◌∙◌, ◌≤◌, ◌<◌, ◌++◌, [], get_or, sym, ap, subst}
use Rattle.fs_cert_evidence.specs.CandidateFaults.{most_candidates}
use Rattle.fs_cand_listing.specs.Ways.{products, product_of_lengths}
use Rattle.fs_cand_listing.proofs.prepared.Prepared.sources.Goals as goal

pub push_sources-requires-clause-few : goal.push_sources-requires-clause-few
push_sources-requires-clause-few c = subst (λ ls. product_of_lengths ls ≤ most_candidates) (sym c.deref.ensures.value) c.requires.few

pub push_sources-requires-clause-number : goal.push_sources-requires-clause-number
push_sources-requires-clause-number c =
    subst (λ ls. c.args.number < product_of_lengths ls) (sym c.deref.ensures.value) c.requires.number

pub returns : goal.returns
returns c =
    c.in_ok-push_sources.ensures
    ∙ ap (λ xs. xs ++ get_or (products c.deref.result.now) c.args.number []) c.new-sources.ensures.items
    ∙ ap (λ ls. get_or (products ls) c.args.number []) c.deref.ensures.value
