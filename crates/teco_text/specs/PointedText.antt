-- What a store in one vector shows.
use Rattle.std.specs.Prelude.{ℕ, List}

-- the characters, the place of the pointer, and how many characters fit without more memory
pub record PointedText : Type 0 where
  pub list : List ℕ
  pub pointer : ℕ
  pub room : ℕ
