use Rattle.std.proofs.Common.{◌∙◌}
use Rattle.fs_litmus.proofs.ReadsTest.{is_test}
use Rattle.fs_app_file_text.specs.Inserted.{of_file, of_printed}
use Rattle.fs_app_file_text.proofs.Rereading.{from_print}
use Rattle.fs_app_file_text.proofs.reread.in_file_or_shown.Goals as goal

pub returns-in-Some-clause-text : goal.returns-in-Some-clause-text
returns-in-Some-clause-text c =
    let found = c.in_ok-found.ensures in
    of_file (rw c.in-Some.is at found.added)
    (from_print c.args.own.now c.in-Some.made.test c.args.placement.now _ _ (is_test _ _ c.requires.reads)
    (c.as_str.ensures.value ∙ c.requires.shown) (rw c.in-Some.is at found.reads) (rw c.in-Some.is at found.shown))

pub returns-in-None-clause-text : goal.returns-in-None-clause-text
returns-in-None-clause-text c = of_printed c.requires.shown
