use Rattle.std.proofs.Common.{◌≡◌}
use Rattle.fs_litmus_syntax.specs.Form.{form_of}
use Rattle.fs_litmus.specs.SiteLabels.{first_sites, all_of}
use Rattle.fs_litmus.proofs.site_reader.form_sites.Given as goal

abbrev pub invariant-loop-hart : goal.invariant-loop-hart
invariant-loop-hart l = all_of l.sites.items ≡ first_sites l.hart (form_of l.form).rows
