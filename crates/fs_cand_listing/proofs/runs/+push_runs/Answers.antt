use Rattle.std.proofs.Common.{◌∙◌, ◌/◌, get_or, ap}
use Rattle.fs_cand_listing.proofs.Unranked.{pushed_rest}
use Rattle.fs_cand_listing.proofs.runs.+push_runs.Goals as goal

pub returns : goal.returns
returns t c =
    let x = c.index-deref-number.result in
    let count = c.count_choices-count.result in
    pushed_rest c.in-Some.list.now c.in-Some.rest.now c.args.lists.now count c.args.number
    c.in-Some.ensures.cases.0 c.count_choices-count.ensures.exact c.requires.few c.requires.number
    c.push_runs.result x c.in_ok-copy.field-0 c.args.traces.now.items c.push.new.self.items c.push_runs.new.traces.items
    c.in_ok-copy.ensures
    (c.index-deref-number.is ∙ ap (λ xs. get_or xs (c.args.number / count) x) c.deref.ensures)
    c.in_ok-push.ensures.items c.push_runs.ensures
