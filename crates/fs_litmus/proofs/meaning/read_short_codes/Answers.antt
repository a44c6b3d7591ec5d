use Rattle.std.proofs.Common.{sym, ◌∙◌}
use Rattle.fs_litmus.proofs.FormFaults.{first_long, first_not_few}
use Rattle.fs_litmus.proofs.meaning.read_short_codes.Goals as goal

pub returns-in_default-clause-first : goal.returns-in_default-clause-first
returns-in_default-clause-first c =
    let long = rw c.in_default.is at c.in_ok-codes.ensures.long in
    λ _ codes kept. first_long codes (long codes kept)

pub returns-then-not-has_few_accesses-clause-first :
    goal.returns-then-not-has_few_accesses-clause-first
returns-then-not-has_few_accesses-clause-first c =
    let same = rw c.in-Some.is at c.in_ok-codes.ensures.codes in
    let short = rw c.in-Some.is at c.in_ok-codes.ensures.within in
    λ _ codes kept. first_not_few codes c.deref.result.now (c.deref.ensures.value ∙ same codes kept) (sym c.has_few_accesses.ensures ∙ c.if-not-has_few_accesses.true) (short codes kept)
