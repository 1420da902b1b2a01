-- A register, by its place among all, and the text that it is given.
use Rattle.std.specs.Prelude.{ℕ, List}

pub record GivenText : Type 0 where
  pub register : ℕ
  pub text : List ℕ
