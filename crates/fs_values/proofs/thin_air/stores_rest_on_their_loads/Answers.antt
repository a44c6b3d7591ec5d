use Rattle.std.proofs.Common.{◌≡◌, true}
use Rattle.fs_model.specs.Values.{IsValueAfter}
use Rattle.fs_values.proofs.Keeping.{keeps_stores}
use Rattle.fs_values.proofs.thin_air.stores_rest_on_their_loads.Goals as goal

pub returns-clause-tests : goal.returns-clause-tests
returns-clause-tests c t test bounded words = keeps_stores t bounded words (λ k word. test k word ≡ true)

pub returns-clause-rounds : goal.returns-clause-rounds
returns-clause-rounds c t n bounded words = keeps_stores t bounded words (IsValueAfter t n)
