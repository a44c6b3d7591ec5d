use Rattle.fs_app_guarantees.proofs.OrderTakes.{takes}
use Rattle.fs_app_guarantees.proofs.SameMeaning.{same, same_yes}
use Rattle.fs_app_guarantees.proofs.meanings.chapter_says_the_headline.Goals as goal

pub returns-clause-answers : goal.returns-clause-answers
returns-clause-answers c = λ t table text status h. same t h table text status

pub returns-clause-yes : goal.returns-clause-yes
returns-clause-yes c = λ t table text version h. same_yes t h table version text

pub returns-clause-witness : goal.returns-clause-witness
returns-clause-witness c = takes
