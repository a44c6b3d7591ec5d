use Rattle.fs_app_audit_json_and_why.proofs.OfRows.{lines_anew_of_rows, lines_in_place_of_rows}
use Rattle.fs_app_audit_json_and_why.proofs.laws.lines_are_of_rows.Goals as goal

pub returns-clause-in_place : goal.returns-clause-in_place
returns-clause-in_place c = λ prices lines codes p. lines_in_place_of_rows prices lines codes p

pub returns-clause-anew : goal.returns-clause-anew
returns-clause-anew c = λ lines codes p. lines_anew_of_rows lines codes p
