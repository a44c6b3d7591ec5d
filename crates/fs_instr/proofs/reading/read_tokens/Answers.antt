use Rattle.fs_instr.proofs.Spelling.{answers, only}
use Rattle.fs_instr.proofs.OfTableLemmas.{read_of_table}
use Rattle.fs_instr.proofs.reading.read_tokens.Goals as goal

pub returns : goal.returns
returns c =
    let all = answers _ _ c.read_named.ensures in
    record {
      answers = all;
      table = read_of_table _ c.read_named.result all;
      only = only _ _ c.read_named.ensures;
    }
