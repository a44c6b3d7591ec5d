use Rattle.fs_instr.proofs.ReadsBack.{reads_back}
use Rattle.fs_instr.proofs.PrintedParts.{printed, text_back}
use Rattle.fs_instr.proofs.writing.reads_back.Goals as goal

pub returns : goal.returns
returns c = record {
  spelled = reads_back c.args.instr;
  printed = printed c.args.instr;
  text = text_back c.args.instr;
}
