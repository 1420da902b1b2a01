-- What a block with a gap shows.
use Rattle.std.specs.Prelude.{ℕ, List, ◌++◌}

-- the characters before the gap and those behind it, how many the gap has place for, and how many the whole block has
pub record Gapped : Type 0 where
  pub before : List ℕ
  pub behind : List ℕ
  pub gap : ℕ
  pub room : ℕ

-- the text
abbrev pub text_of : Gapped → List ℕ
text_of block = block.before ++ block.behind
