use Rattle.std.proofs.Common.{length, ap, ◌∙◌}
use Rattle.fs_cert_evidence.specs.Evidence.{Shown}
use Rattle.fs_sites.specs.Questions.{Part}
use Rattle.fs_sites.proofs.Unbroken.{bar-given}
use Rattle.fs_sites_search.proofs.rounds.bar_by.Goals as goal

pub returns : goal.returns
returns c =
    bar-given c.args.parts.now c.args.offers.now c.args.number _ c.args.witness.now c.index-parts-number.result _ _
    c.requires.parts c.requires.shown c.index-parts-number.is
    (c.deref.ensures ∙ ap (λ (part : Part). part.places) c.part.view_is)
    (c.deref-2.ensures ∙ ap (λ (shown : Shown). shown.widths) c.witness.view_is)
    (ap length c.as_slice-sites.ensures.value)
    c.bar_of.result c.bar_of.ensures.bar c.bar_of.ensures.sites
