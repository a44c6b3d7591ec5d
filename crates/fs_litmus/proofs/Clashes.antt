-- Site labels at one place.
use Rattle.std.proofs.Common.{◌≡◌, ◌<◌, List, [], ◌∷◌, length, None, refl, arith}
use Rattle.fs_litmus.specs.declared.site_label.SiteLabel.{SiteLabel}
use Rattle.fs_litmus.specs.SiteLabels.{clash, all_of}

-- one label alone is at no other's place
pub no_clash : (labels : List SiteLabel) → length labels < 2 → clash (all_of labels) ≡ None
no_clash [] h = refl
no_clash (l ∷ []) h = refl
no_clash (l ∷ m ∷ labels) h = absurd (omega arith)
