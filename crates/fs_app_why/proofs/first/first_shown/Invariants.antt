use Rattle.fs_app_why.specs.First.{NoneBefore}
use Rattle.fs_app_why.proofs.first.first_shown.Given as goal

-- none so far shows the outcome
abbrev pub invariant-loop-file : goal.invariant-loop-file
invariant-loop-file l = NoneBefore l.test l.placement l.files l.file-index
