use Rattle.std.proofs.Common.{List, [], ap, map, subst, sym, ◌∙◌}
use Rattle.std.specs.List.{enumerate_from}
use Rattle.fs_instr.specs.declared.instr.Instr.{Instr}
use Rattle.fs_model.specs.Test.{IsTest}
use Rattle.fs_model_laws.specs.InPlace.{followed_code}
use Rattle.fs_app_sites.specs.Sites.{copy_value}
use Rattle.fs_app_sites_check_and_audit.specs.Copies.{is_copied}
use Rattle.fs_app_sites_check_and_audit.proofs.Without.{emptied_test}
use Rattle.fs_app_sites_check_and_audit.proofs.emptied.emptied_at.Goals as goal

pub returns-clause-test : goal.returns-clause-test
returns-clause-test c =
    let copies = map copy_value c.args.copies.now in
    let made = c.new.ensures
    ∙ c.in_ok-codes.ensures
    ∙ ap (λ codes. map (followed_code (is_copied copies) []) (enumerate_from 0 codes)) c.as_slice.ensures in
    subst (λ (codes : List (List Instr)). IsTest (record c.args.test { codes = codes })) (sym made) (emptied_test copies c.args.test c.requires)
