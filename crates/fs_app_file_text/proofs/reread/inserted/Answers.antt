use Rattle.fs_litmus.proofs.ReadsTest.{is_test}
use Rattle.fs_app_file_text.proofs.reread.inserted.Goals as goal

pub write_fenced-requires : goal.write_fenced-requires
write_fenced-requires c = (is_test c.args.bytes.now c.args.own.now c.requires).bounded
