-- Whether a test is vacuous, as far as that is known.
use Rattle.std.specs.Prelude.{◌≡◌, true, false, None, string_bytes}
use Rattle.fs_model.specs.declared.test.Test.{Test}
use Rattle.fs_app_test.specs.declared.said.Kind.TheVariants as kind
use Rattle.fs_app_test.specs.declared.said.Said.{Said}
use Rattle.fs_app_test.specs.SaidVerdicts.{IsSettled, SaysVacuous}
use Rattle.fs_app_test.specs.declared.vacuous.Vacuity.{Vacuity}
use Rattle.fs_app_test.specs.declared.vacuous.Vacuity.TheVariants.{Vacuous, Serious, Open}

-- it says that the test is vacuous, and why
pub record SaysSo (t : Test) (said : Said) : Type 0 where
  pub kind : said.kind ≡ kind.Vacuous
  pub why : SaysVacuous t (string_bytes said.why)
  pub alone : said.witness ≡ None

abbrev pub IsVacuity : Test → Vacuity → Type 0
IsVacuity t (Vacuous said) = SaysSo t said
IsVacuity t Serious = IsSettled t true
IsVacuity t Open = IsSettled t false
