-- The object of a yes has a float only where its answer has one.
use Rattle.std.proofs.Common.{◌≡◌, false, refl}
use Rattle.serde_json.specs.Data.{Data}
use Rattle.serde_json.specs.Written.{has_float}
use Rattle.fs_app_solve_and_check.specs.Check.{yes_value}

pub yes_whole : (answer : Data) → has_float answer ≡ false → has_float (yes_value answer) ≡ false
yes_whole answer whole = rw whole refl
