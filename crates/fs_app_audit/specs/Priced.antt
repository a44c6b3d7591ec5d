-- What is asked of a test.
use Rattle.fs_kinds.specs.PriceTable.{PriceTable}
use Rattle.fs_model.specs.declared.test.Test.{Test}

-- a test, whose outcome is to be ruled out, and the prices of fences
pub record Priced : Type 0 where
  pub test : Test
  pub prices : PriceTable
