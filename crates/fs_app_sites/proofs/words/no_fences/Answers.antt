use Rattle.std.proofs.Common.{◌≡◌, ◌∙◌, subst, sym, true}
use Rattle.fs_kinds.specs.Slot.{is_rising}
use Rattle.fs_app_sites.proofs.Offered.{rising-keys}
use Rattle.fs_app_sites.proofs.words.no_fences.Goals as goal

pub bottom-requires : goal.bottom-requires
bottom-requires c = subst (λ slots. is_rising slots ≡ true) (sym (c.deref.ensures.value ∙ c.in_ok-slots.ensures)) (rising-keys c.args.sites 0)
