use Rattle.std.proofs.Common.{Some, length, refl, ap, sym, ◌∙◌, arith}
use Rattle.std.proofs.lemmas.Bool.{false≢true}
use Rattle.std.proofs.lemmas.Option.{slice_get_read, slice_get_within}
use Rattle.fs_cert.specs.inner.Copies.{IsCopiedWitness}
use Rattle.fs_cert.proofs.Copying.{one_at, none_next}
use Rattle.fs_cert.proofs.numbered.number_of.Goals as goal

pub returns-then-is_of-clause-some : goal.returns-then-is_of-clause-some
returns-then-is_of-clause-some c = λ ws each.
    let files = c.args.files.now in
    let n = c.loop-number.number in
    let file = c.index-files-number.result in
    let found = one_at IsCopiedWitness files ws n file each (slice_get_read files (length files) n file refl c.loop-number-test.true c.index-files-number.is) in
    found.1 ∙ ap (λ w. Some w) (c.is_of.ensures.yes found.0 c.if-is_of.true found.2)

pub loop-number-preserved : goal.loop-number-preserved
loop-number-preserved c =
    let files = c.args.files.now in
    let n = c.loop-number.number in
    let file = c.index-files-number.result in
    none_next files c.args.witness.now.witness n file c.loop-number.invariant
    (slice_get_read files (length files) n file refl c.loop-number-test.true c.index-files-number.is)
    (λ copied. false≢true (sym c.if-is_of.false ∙ c.is_of.ensures.no copied))

pub returns-clause-none : goal.returns-clause-none
returns-clause-none c = λ k file at copied.
    c.loop-number.invariant k file (let low = slice_get_within c.args.files.now k file at in omega (arith, low)) at copied
