use Rattle.std.proofs.Common.{ap, map}
use Rattle.std.proofs.lemmas.Result.{IfErr-weaker, IfOk-weaker}
use Rattle.fs_app_sites.proofs.Combined.{if-both}
use Rattle.fs_app_sites.specs.Sites.{copy_value}
use Rattle.fs_app_sites.proofs.Sites.{are-sites, rising-places, too-many}
use Rattle.fs_app_sites.proofs.sited.read_sites.Goals as goal

pub returns-clause-ok : goal.returns-clause-ok
returns-clause-ok c =
    if-both _ _ _ c.sites_of.result c.sites_of.ensures.names c.sites_of.ensures.places
    (λ sites named stand. are-sites c.args.is_free c.args.bytes.now c.args.test.now _ _ (ap (map copy_value) c.deref.ensures) c.in_ok-copies.ensures.ok _ _
    c.requires.reads named stand)

pub returns-clause-rising : goal.returns-clause-rising
returns-clause-rising c =
    IfOk-weaker c.sites_of.result _ _
    (λ sites stand. rising-places _ _ _ _ (ap (map copy_value) c.deref.ensures) c.in_ok-copies.ensures.rising stand)
    c.sites_of.ensures.places

pub returns-clause-err : goal.returns-clause-err
returns-clause-err c =
    IfErr-weaker c.sites_of.result _ _
    (λ f many n. too-many c.args.is_free c.args.bytes.now c.args.test.now _ _ (ap (map copy_value) c.deref.ensures) c.in_ok-copies.ensures.ok f (many n))
    c.sites_of.ensures.err
