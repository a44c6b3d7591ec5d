use Rattle.fs_app_file_text.proofs.Rereading.{only_fenced, reads_short}
use Rattle.fs_app_file_text.proofs.reread.inserted_reads_fenced.Goals as goal

pub returns-clause-reads : goal.returns-clause-reads
returns-clause-reads c = reads_short

pub returns-clause-once : goal.returns-clause-once
returns-clause-once c = only_fenced
