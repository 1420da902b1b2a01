-- A table tells what is known at each node of an expansion, and what is chosen for each iteration.
use Rattle.std.specs.Prelude.{ℕ, List, Option}
use Rattle.std.specs.Option.{option_and_then}
use Rattle.teco_verifier.specs.expansion.Node.{numbered}
use Rattle.teco_verifier.specs.facts.Bodies.{Choice}
use Rattle.teco_verifier.specs.facts.Facts.{Facts}

-- What it says at a node: what is known before its element, where that is reached, and what is chosen for its body,
-- where it is a < whose body is reached.
pub record Row : Type 0 where
  pub facts : Option Facts
  pub choice : Option Choice

-- the rows of the nodes, in the order of their numbers
abbrev pub Table : Type 0
Table = List Row

abbrev pub facts_in : Row → Option Facts
facts_in row = row.facts

abbrev pub choice_in : Row → Option Choice
choice_in row = row.choice

-- by the number of a node
abbrev pub facts_at : Table → ℕ → Option Facts
facts_at table number = option_and_then facts_in (numbered table number)

abbrev pub choice_at : Table → ℕ → Option Choice
choice_at table number = option_and_then choice_in (numbered table number)
