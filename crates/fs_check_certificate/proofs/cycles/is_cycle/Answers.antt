use Rattle.std.proofs.Common.{◌≡◌, Some, option_map, length, sym, ◌∙◌, ap, arith}
use Rattle.std.proofs.lemmas.List.{length-map}
use Rattle.fs_cand.specs.inner.NamedOrder.{numbers_of}
use Rattle.fs_cert_json.specs.declared.certificate.CertificateLink.{CertificateLink}
use Rattle.fs_check_certificate.specs.Cycles.{names_in, wanted}
use Rattle.fs_check_certificate.proofs.Looked.{as_many}
use Rattle.fs_check_certificate.proofs.cycles.is_cycle.Goals as goal

pub have_edges-requires : goal.have_edges-requires
have_edges-requires c =
    let names = names_in c.args.candidate.now in
    let found : numbers_of names (wanted c.args.links.now) ≡ Some c.in-Some.numbers.items =
    sym c.in_ok-numbers.ensures.ok ∙ ap (option_map (λ numbers. numbers.items)) c.in-Some.is in
    omega (
      arith,
      ap length c.deref.ensures.value,
      as_many names (wanted c.args.links.now) c.in-Some.numbers.items found,
      length-map c.args.links.now (λ (link : CertificateLink). link.operation),
    )
