use Rattle.std.proofs.lemmas.Option.{IfSome_then}
use Rattle.fs_litmus.proofs.Tops.{body_of, body_below, no_body}
use Rattle.fs_litmus.proofs.title.skip_title.Goals as goal

pub returns-in_err-below-clause-absent : goal.returns-in_err-below-clause-absent
returns-in_err-below-clause-absent c = λ _.
    no_body c.args.bytes.now c.skip_top-top.result.text.now c.skip_top-top.result.line c.skip_top-top.ensures.value c.in_err-below.ensures.value

pub returns-clause-value : goal.returns-clause-value
returns-clause-value c =
    IfSome_then c.find_body.result c.find_body.ensures.value (λ b h.
    body_of c.args.bytes.now c.skip_top-top.result.text.now c.skip_top-top.result.line c.skip_top-top.ensures.value c.in_ok-below.below.now b.text.now b.line c.in_ok-below.ensures.value h)

pub returns-clause-absent : goal.returns-clause-absent
returns-clause-absent c = λ none body at h.
    c.find_body.ensures.absent none body at (body_below c.args.bytes.now c.skip_top-top.result.text.now c.skip_top-top.result.line c.skip_top-top.ensures.value c.in_ok-below.below.now body at c.in_ok-below.ensures.value h)
