use Rattle.fs_verdict_laws.proofs.Places.{at_place, rule_local, rule_alike}
use Rattle.fs_verdict_laws.proofs.Sources.{rule_two, rule_three, rule_twelve, not_twelve, none_twelve, part_of}
use Rattle.fs_verdict_laws.proofs.local.rules_are_local.Goals as goal

pub returns-clause-operation : goal.returns-clause-operation
returns-clause-operation c = at_place

pub returns-clause-alone : goal.returns-clause-alone
returns-clause-alone c = rule_local

pub returns-clause-two : goal.returns-clause-two
returns-clause-two c = rule_two

pub returns-clause-three : goal.returns-clause-three
returns-clause-three c = rule_three

pub returns-clause-twelve : goal.returns-clause-twelve
returns-clause-twelve c = rule_twelve

pub returns-clause-twelve_far : goal.returns-clause-twelve_far
returns-clause-twelve_far c = not_twelve

pub returns-clause-twelve_none : goal.returns-clause-twelve_none
returns-clause-twelve_none c = none_twelve

pub returns-clause-part : goal.returns-clause-part
returns-clause-part c = part_of

pub returns-clause-alike : goal.returns-clause-alike
returns-clause-alike c = rule_alike
