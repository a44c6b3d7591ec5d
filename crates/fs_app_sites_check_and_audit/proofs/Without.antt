-- A test is one without its copies' FENCEs too.
use Rattle.std.proofs.Common.{◌≡◌, ℕ, ◌+◌, List, [], ◌∷◌, map, Bool, true, false, ◌&&◌, if◌then◌else◌, refl}
use Rattle.std.specs.List.{AllZip, enumerate_from}
use Rattle.fs_instr.specs.declared.instr.Instr.{Instr}
use Rattle.fs_instr.specs.declared.instr.Instr.TheVariants as instr
use Rattle.fs_kinds.specs.declared.slot.Slot.{Slot}
use Rattle.fs_model.specs.declared.test.Test.{Test}
use Rattle.fs_model.specs.Slots.{slot_at}
use Rattle.fs_model.specs.Test.{IsTest}
use Rattle.fs_model_laws.specs.InPlace.{devices, followed_code, followed_instr, is_fence}
use Rattle.fs_app_sites.specs.Sites.{Copy}
use Rattle.fs_app_sites_check_and_audit.specs.Copies.{emptied_at, is_copied}
use Rattle.fs_app_sites_check_and_audit.proofs.Alike.{AreAlike, IsAlike, same_test}

itself : (i : Instr) → IsAlike i i
itself i = record { target = refl; memory = refl; of_table = λ h. h }

-- what orders memory is a FENCE
as_devices : (i : Instr) → is_fence i ≡ true → IsAlike i (instr.Fence devices devices)
as_devices (instr.Fence b a) is = record { target = refl; memory = refl; of_table = λ h. (refl, refl) }
as_devices instr.FenceTso is = record { target = refl; memory = refl; of_table = λ h. (refl, refl) }
as_devices instr.FenceI is = absurd (cc)
as_devices (instr.Branch o a b t) is = absurd (cc)
as_devices (instr.Jump t) is = absurd (cc)
as_devices (instr.Register o rd a b) is = absurd (cc)
as_devices (instr.Immediate o rd a z) is = absurd (cc)
as_devices (instr.Shift o rd a n) is = absurd (cc)
as_devices (instr.Lui rd n) is = absurd (cc)
as_devices (instr.Li rd n) is = absurd (cc)
as_devices (instr.Lw ann rd a z) is = absurd (cc)
as_devices (instr.Sw ann v a z) is = absurd (cc)
as_devices (instr.Lr ann rd a) is = absurd (cc)
as_devices (instr.Sc ann rd v a) is = absurd (cc)
as_devices (instr.Amo o ann rd v a) is = absurd (cc)

either : (i : Instr) (here there : Bool) → is_fence i ≡ here
    → IsAlike i (if here && there then instr.Fence devices devices else i)
either i true true is = as_devices i is
either i true false is = itself i
either i false there is = itself i

module _ (copied : Slot → Bool) where
  one_code : (hart n : ℕ) (code : List Instr)
      → AreAlike code (map (followed_instr copied [] hart) (enumerate_from n code))
  one_code hart n [] = tt
  one_code hart n (i ∷ code) =
      (either i (is_fence i) (copied (slot_at hart n)) refl, one_code hart (n + 1) code)

  all_codes : (n : ℕ) (codes : List (List Instr))
      → AllZip AreAlike codes (map (followed_code copied []) (enumerate_from n codes))
  all_codes n [] = tt
  all_codes n (code ∷ codes) = (one_code n 0 code, all_codes (n + 1) codes)

pub emptied_test : (copies : List Copy) (t : Test) → IsTest t → IsTest (emptied_at copies t)
emptied_test copies t = same_test t _ (all_codes (is_copied copies) 0 t.codes)
