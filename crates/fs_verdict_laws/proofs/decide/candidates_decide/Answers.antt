use Rattle.fs_verdict_laws.proofs.Forth.{executed}
use Rattle.fs_verdict_laws.proofs.Back.{showing, ordered}
use Rattle.fs_verdict_laws.proofs.Deciding.{exactly, there_and_back}
use Rattle.fs_verdict_laws.proofs.decide.candidates_decide.Goals as goal

pub returns-clause-executed : goal.returns-clause-executed
returns-clause-executed c = executed

pub returns-clause-ordered : goal.returns-clause-ordered
returns-clause-ordered c = ordered

pub returns-clause-showing : goal.returns-clause-showing
returns-clause-showing c = showing

pub returns-clause-exactly : goal.returns-clause-exactly
returns-clause-exactly c = exactly

pub returns-clause-decides : goal.returns-clause-decides
returns-clause-decides c = there_and_back
