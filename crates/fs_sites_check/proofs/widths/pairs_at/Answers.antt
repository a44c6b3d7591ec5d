use Rattle.fs_kinds.specs.Kind.{ReadRead, ReadWrite, WriteRead, WriteWrite}
use Rattle.fs_cert_evidence.specs.Widths.{width}
use Rattle.fs_sites_check.proofs.Kept.{kept-pair, same-pairs}
use Rattle.fs_sites_check.proofs.widths.pairs_at.Goals as goal

pub returns-clause-ok : goal.returns-clause-ok
returns-clause-ok c w e keeps shows =
    let t = c.args.test.now in
    let slot = c.args.slot in
    same-pairs (width t e) slot c.in_ok-read_read.read_read c.in_ok-read_write.read_write c.in_ok-write_read.write_read
    c.in_ok-write_write.write_write
    (kept-pair t slot ReadRead w e c.requires.test shows c.in_ok-read_read.read_read (c.in_ok-read_read.ensures.ok w keeps))
    (kept-pair t slot ReadWrite w e c.requires.test shows c.in_ok-read_write.read_write (c.in_ok-read_write.ensures.ok w keeps))
    (kept-pair t slot WriteRead w e c.requires.test shows c.in_ok-write_read.write_read (c.in_ok-write_read.ensures.ok w keeps))
    (kept-pair t slot WriteWrite w e c.requires.test shows c.in_ok-write_write.write_write (c.in_ok-write_write.ensures.ok w keeps))
