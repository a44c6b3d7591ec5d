use Rattle.fs_cand_witness.proofs.OneExecution.{one_execution}
use Rattle.fs_cand_witness.proofs.witness_laws.witnesses_give_one_execution.Goals as goal

pub returns : goal.returns
returns c = one_execution
