use Rattle.std.proofs.Common.{◌∙◌, ◌/◌, ◌++◌, ◌∷◌, [], None, get_or, ap, refl}
use Rattle.std.proofs.lemmas.List.{get_or_default}
use Rattle.fs_cand_listing.proofs.Unranked.{pushed_rest, next_digit}
use Rattle.fs_cand_listing.proofs.by_number.+push_sources.Goals as goal

pub returns : goal.returns
returns t c =
    let list = c.in-Some.list.now in
    let count = c.count_choices-count.result in
    let n = c.args.number in
    let x = get_or list (n / count) None in
    pushed_rest list c.in-Some.rest.now c.args.lists.now count n
    c.in-Some.ensures.cases.0 c.count_choices-count.ensures.exact c.requires.few c.requires.number
    c.push_sources.result x x c.args.sources.now.items c.push.new.self.items c.push_sources.new.sources.items refl
    (get_or_default list (n / count) None x
    (next_digit list c.in-Some.rest.now c.args.lists.now count n c.in-Some.ensures.cases.0 c.count_choices-count.ensures.exact c.requires.few c.requires.number))
    (c.in_ok-push.ensures.items ∙ ap (λ xs. c.args.sources.now.items ++ get_or xs (n / count) None ∷ []) c.deref.ensures) c.push_sources.ensures
