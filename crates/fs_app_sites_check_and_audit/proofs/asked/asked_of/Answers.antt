use Rattle.std.proofs.Common.{ap, map, subst, sym, ◌∙◌}
use Rattle.std.proofs.lemmas.List.Elements.{All-map}
use Rattle.serde_json.specs.View.{view}
use Rattle.fs_sites.specs.Questions.{IsQuestion}
use Rattle.fs_app_sites.specs.Sites.{IsSound, offers_of, question_of}
use Rattle.fs_app_sites.proofs.Questions.{is-question}
use Rattle.fs_app_sites_check_and_audit.specs.Asked.{names_in}
use Rattle.fs_app_sites_check_and_audit.specs.Marks.{all_cost, marks_of, written_cost}
use Rattle.fs_app_sites_check_and_audit.proofs.asked.asked_of.Goals as goal

pub returns-clause-names : goal.returns-clause-names
returns-clause-names c = c.in_ok-asked_by.ensures.names ∙ c.in_ok-names.ensures

pub returns-clause-value : goal.returns-clause-value
returns-clause-value c =
    c.in_ok-asked_by.ensures.question
    ∙ ap (λ names. question_of (view c.args.prices.now) names (map (λ h. h.asked) c.args.held.now)) c.in_ok-names.ensures

pub returns-clause-question : goal.returns-clause-question
returns-clause-question c =
    subst IsQuestion (sym (returns-clause-value c))
    (is-question (names_in c.args.held.now) (view c.args.prices.now) (map (λ h. h.asked) c.args.held.now) c.requires.top
    (All-map IsSound (λ h. h.asked) c.args.held.now c.requires.sound))

pub returns-clause-marks : goal.returns-clause-marks
returns-clause-marks c =
    c.in_ok-asked_by.ensures.marks ∙ ap (λ names. marks_of names c.args.held.now) c.in_ok-names.ensures

pub returns-clause-written : goal.returns-clause-written
returns-clause-written c =
    c.in_ok-asked_by.ensures.written
    ∙ ap (λ names. written_cost (marks_of names c.args.held.now) (offers_of (view c.args.prices.now) names)) c.in_ok-names.ensures

pub returns-clause-all_cost : goal.returns-clause-all_cost
returns-clause-all_cost c =
    c.in_ok-asked_by.ensures.all_cost
    ∙ ap (λ names. all_cost (marks_of names c.args.held.now) (offers_of (view c.args.prices.now) names)) c.in_ok-names.ensures
