-- What reading and writing do to the bytes of a reader and a writer, where those are known.
use Rattle.std.specs.Prelude.{ℕ, ◌<◌, List, length, take, Option}
use Rattle.std.specs.Io.KnownBytes.{Appends, Consumes}

-- some bytes were taken from the front, and what is left stays as it was
pub record TakesFront (old new : Option (List ℕ)) : Type 0 where
  pub taken : List ℕ
  pub consumed : Consumes old new taken

-- more than so many bytes were taken from the front, and what is left stays as it was
pub record TakesMore (limit : ℕ) (old new : Option (List ℕ)) : Type 0 where
  pub taken : List ℕ
  pub is_more : limit < length taken
  pub consumed : Consumes old new taken

-- a proper prefix of the text was written, and nothing else
pub record WritesPrefix (old new : Option (List ℕ)) (text : List ℕ) : Type 0 where
  pub count : ℕ
  pub is_proper : count < length text
  pub appended : Appends old new (take count text)
