use Rattle.std.proofs.Common.{◌++◌, get_or, flat_map, ap, ◌∙◌, arith}
use Rattle.fs_cert_evidence.specs.Regions.{names_in}
use Rattle.fs_model.proofs.Numbered.{numbered_flat, numbered_end}
use Rattle.fs_region_refutation.proofs.naming.names.Goals as goal

pub loop-hart-preserved : goal.loop-hart-preserved
loop-hart-preserved c =
    let codes = c.args.test.now.codes in
    let found = c.loop-hart.found.items in
    numbered_flat names_in codes c.loop-hart.hart c.code-item.result found c.extend_from_slice.new.self.items
    (grind arith)
    (c.code-item.is ∙ ap (λ xs. get_or xs c.loop-hart.hart c.code-item.result) c.as_slice-code-items.ensures)
    (c.in_ok-extend_from_slice.ensures.items ∙ ap (λ more. found ++ more) (c.deref.ensures.value ∙ c.in_ok-here.ensures ∙ ap (λ code. names_in (c.loop-hart.hart, code)) c.as_slice.ensures))
    c.loop-hart.invariant

pub returns-clause-ok : goal.returns-clause-ok
returns-clause-ok c =
    c.loop-hart.invariant ∙ ap (flat_map names_in) (numbered_end c.args.test.now.codes c.loop-hart.hart (grind arith))
