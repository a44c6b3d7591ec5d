use Rattle.std.proofs.Common.{◌≡◌, ◌++◌, ◌∙◌, [], arith, ap, flat_map}
use Rattle.std.specs.List.{range_with_len}
use Rattle.fs_model.proofs.Numbered.{range_text}
use Rattle.fs_app_sites_check_and_audit.specs.Lines.{advised, site_lines}
use Rattle.fs_app_sites_check_and_audit.proofs.lines.lines_of.Goals as goal

pub loop-site-preserved : goal.loop-site-preserved
loop-site-preserved c =
    let marks = c.args.marks.now in
    let before = c.loop-site.lines.items in
    range_text (λ site. site_lines marks site (advised c.args.kept marks c.args.entries.now site)) c.loop-site.site [] before _
    (c.in_ok-push_site.ensures ∙ ap (λ wanted. before ++ site_lines marks c.loop-site.site wanted) c.advised-wanted.ensures)
    c.loop-site.invariant

pub returns : goal.returns
returns c =
    let marks = c.args.marks.now in
    let all : c.loop-site.site ≡ c.args.sites = omega arith in
    c.loop-site.invariant
    ∙ ap (λ n. flat_map (λ site. site_lines marks site (advised c.args.kept marks c.args.entries.now site)) (range_with_len 0 n)) all
