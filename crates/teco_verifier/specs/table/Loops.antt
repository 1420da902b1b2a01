-- The loop lines of a table: what is chosen for each < whose body is reached.
use Rattle.std.specs.Prelude.{ℕ, suc, List, [], ◌∷◌, ◌++◌, bytes_eq, is_some, ◌&&◌, if◌then◌else◌, Bool, Option, Some}
use Rattle.std.specs.Prelude.{None}
use Rattle.teco_verifier.specs.expansion.Node.{Node}
use Rattle.teco_poly.specs.Polynomial.{Polynomial}
use Rattle.teco_verifier.specs.facts.Bodies.{Choice}
use Rattle.teco_verifier.specs.facts.Facts.{Facts}
use Rattle.teco_verifier.specs.table.Closed.{begins_iteration}
use Rattle.teco_verifier.specs.table.Choices.{LongerText, Chosen}
use Rattle.teco_verifier.specs.table.Table.{Table, facts_at, choice_at}

-- the texts whose polynomials differ from those at the <, from a register on
abbrev pub longer_from : ℕ → List Polynomial → List Polynomial → List LongerText
longer_from r [] chosen = []
longer_from r (p ∷ ps) [] = []
longer_from r (p ∷ ps) (q ∷ qs) =
    if bytes_eq p q then longer_from (suc r) ps qs
    else record { register = r; text = q } ∷ longer_from (suc r) ps qs

abbrev pub line_of : ℕ → Facts → Choice → Chosen
line_of number facts choice = record {
  begin = number;
  held = choice.held;
  kept = choice.kept;
  longer = longer_from 0 facts.texts choice.texts;
}

abbrev pub line_between : ℕ → Option Facts → Option Choice → List Chosen
line_between number (Some facts) (Some choice) = line_of number facts choice ∷ []
line_between number facts choice = []

-- an iteration begins at a node
abbrev pub begins : Node → Bool
begins node = begins_iteration node.element

-- A < has a line where the start of its body is reached.
abbrev pub lines_at : Table → ℕ → Node → List Chosen
lines_at table number node =
    if begins node && is_some (facts_at table (suc number))
    then line_between number (facts_at table number) (choice_at table number) else []

abbrev pub loops_from : Table → ℕ → List Node → List Chosen
loops_from table number [] = []
loops_from table number (node ∷ rest) = lines_at table number node ++ loops_from table (suc number) rest

unfoldable pub loops_of : List Node → Table → List Chosen
loops_of nodes table = loops_from table 1 nodes

-- a line, if there is one
abbrev pub lines_in : Option Chosen → List Chosen
lines_in None = []
lines_in (Some line) = line ∷ []
