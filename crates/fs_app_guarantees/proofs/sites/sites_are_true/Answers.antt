use Rattle.fs_app_sites.specs.Sites.{names_of, question_of}
use Rattle.fs_app_guarantees.proofs.SitesMeaning.{true_of_sites}
use Rattle.fs_app_guarantees.proofs.sites.sites_are_true.Goals as goal

pub returns-clause-answers : goal.returns-clause-answers
returns-clause-answers c = true_of_sites

pub returns-clause-files : goal.returns-clause-files
returns-clause-files c = λ is_json tests prices text status solved.
    true_of_sites (question_of solved.table (names_of solved.contents) solved.contents) solved.found solved.answer
