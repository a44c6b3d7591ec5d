use Rattle.fs_kinds.specs.Kind.{ReadRead, ReadWrite, WriteRead, WriteWrite}
use Rattle.fs_cert_evidence.specs.Widths.{width}
use Rattle.fs_check.specs.Ordered.{execution_in}
use Rattle.fs_check_certificate.proofs.Bearing.{kept_pair, same_pairs}
use Rattle.fs_check_certificate.proofs.witness.pairs_at.Goals as goal

pub returns-clause-ok : goal.returns-clause-ok
returns-clause-ok c =
    let t = c.args.test.now in
    let o = c.args.ordered.now in
    let slot = c.args.slot in
    same_pairs (width t (execution_in o)) slot c.is_borne_by_all.result c.is_borne_by_all-2.result c.is_borne_by_all-3.result c.is_borne_by_all-4.result
    (kept_pair t o slot ReadRead c.in_ok-read_read.read_read c.args.turned.now c.is_borne_by_all.result c.requires.turned c.is_borne_by_all.ensures c.in_ok-read_read.ensures.ok)
    (kept_pair t o slot ReadWrite c.in_ok-read_write.read_write c.args.turned.now c.is_borne_by_all-2.result c.requires.turned c.is_borne_by_all-2.ensures c.in_ok-read_write.ensures.ok)
    (kept_pair t o slot WriteRead c.in_ok-write_read.write_read c.args.turned.now c.is_borne_by_all-3.result c.requires.turned c.is_borne_by_all-3.ensures c.in_ok-write_read.ensures.ok)
    (kept_pair t o slot WriteWrite c.in_ok-write_write.write_write c.args.turned.now c.is_borne_by_all-4.result c.requires.turned c.is_borne_by_all-4.ensures c.in_ok-write_write.ensures.ok)
