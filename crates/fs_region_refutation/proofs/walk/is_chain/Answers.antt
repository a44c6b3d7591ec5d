use Rattle.std.proofs.Common.{◌≡◌, ◌∙◌, ◌+◌, Bool, get_or, ap, sym, arith}
use Rattle.std.specs.Borrow.{Bor}
use Rattle.fs_cert_evidence.specs.Certificate.{Link}
use Rattle.fs_cert_evidence.specs.Musts.{must}
use Rattle.fs_region_refutation.specs.Views.{region_of}
use Rattle.fs_region_refutation.proofs.Chains.{behind_option, chain_stop, chain_go, chain_end}
use Rattle.fs_region_refutation.proofs.walk.is_chain.Goals as goal

pub returns-then-not-is_linked : goal.returns-then-not-is_linked
returns-then-not-is_linked c =
    let test : Link × Link → Bool = λ pair. must c.args.basis.now (region_of c.args.region.now) c.args.placement.now pair.0.cause pair.0.operation pair.1.operation in
    let next : c.unwrap_or-next.result.now ≡ get_or c.args.links.now (c.loop-number.number + 1) c.args.last.now =
    ap (λ (b : Bor Link). b.now) c.unwrap_or-next.ensures ∙ behind_option c.get.result c.args.last ∙ c.get.ensures.lookup.4 (omega arith) c.args.last.now in
    sym (chain_stop test c.args.links.now c.args.last.now c.loop-number.number c.index-links-number.result c.unwrap_or-next.result.now c.loop-number-test.true
    c.index-links-number.is next (sym c.is_linked.ensures ∙ c.if-not-is_linked.true))

pub loop-number-preserved : goal.loop-number-preserved
loop-number-preserved c =
    let test : Link × Link → Bool = λ pair. must c.args.basis.now (region_of c.args.region.now) c.args.placement.now pair.0.cause pair.0.operation pair.1.operation in
    let next : c.unwrap_or-next.result.now ≡ get_or c.args.links.now (c.loop-number.number + 1) c.args.last.now =
    ap (λ (b : Bor Link). b.now) c.unwrap_or-next.ensures ∙ behind_option c.get.result c.args.last ∙ c.get.ensures.lookup.4 (omega arith) c.args.last.now in
    chain_go test c.args.links.now c.args.last.now c.loop-number.number c.index-links-number.result c.unwrap_or-next.result.now c.loop-number-test.true
    c.index-links-number.is next c.loop-number.invariant (sym c.is_linked.ensures ∙ c.if-not-is_linked.false)

pub returns : goal.returns
returns c =
    let test : Link × Link → Bool = λ pair. must c.args.basis.now (region_of c.args.region.now) c.args.placement.now pair.0.cause pair.0.operation pair.1.operation in
    sym (chain_end test c.args.links.now c.args.last.now c.loop-number.number c.loop-number-test.false c.loop-number.invariant)
