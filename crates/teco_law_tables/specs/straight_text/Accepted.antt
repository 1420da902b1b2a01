-- Straight text is accepted: what the verifier makes of it, with nothing chosen.
use Rattle.std.specs.Prelude.{◌≡◌, ℕ, ◌+◌, ◌≤◌, List, [], length, false, Option, Some, None, Ok, ⊤}
use Rattle.std.specs.List.{AllByRecursion}
use Rattle.teco_base.specs.declared.TheConstants.{LIMIT}
use Rattle.teco_model.specs.Element.{Element}
use Rattle.teco_verifier.specs.expansion.Expansion.{expansion}
use Rattle.teco_model.specs.Macros.{Library}
use Rattle.teco_verifier.specs.expansion.Node.{Node}
use Rattle.teco_poly.specs.Polynomial.{Polynomial, number}
use Rattle.teco_poly.specs.Reading.{IsPoly}
use Rattle.teco_verifier.specs.facts.Facts.{Facts}
use Rattle.teco_verifier.specs.facts.Printed.{no_needs}
use Rattle.teco_verifier.specs.table.Closed.{begins_iteration, check}
use Rattle.teco_verifier.specs.table.Deriving.{derive}
use Rattle.teco_verifier.specs.table.Printed.{commands, size, needs_in}
use Rattle.teco_verifier.specs.table.Table.{Row, Table}
use Rattle.teco_law_tables.specs.straight_text.Facts.{and_more, straight_table}
use Rattle.teco_law_tables.specs.straight_text.Nodes.{straight_nodes}
use Rattle.teco_law_tables.specs.straight_text.Straight.{inserted, IsStraight}

-- The table that is derived is closed.
abbrev pub StraightTablesAreClosed : Type 0
StraightTablesAreClosed =
    (library : Library) (entry : ℕ) (text : List ℕ) (elements : List Element)
    → IsStraight library entry text elements → length text ≤ LIMIT
    → check None (straight_nodes entry text elements) (straight_table elements) ≡ Ok tt

-- no iteration begins at a node
abbrev pub BeginsNoIteration : Node → Type 0
BeginsNoIteration node = begins_iteration node.element ≡ false

-- These two numbers are printed of a table, and nothing else: no file is needed, and no iteration has a line.
pub record Prints (nodes : List Node) (table : Table) (steps most : Polynomial) : Type 0 where
  pub commands_are : commands None nodes table ≡ Ok steps
  pub size_is : size nodes table ≡ Ok most
  pub needs_nothing : needs_in nodes table ≡ no_needs
  pub has_no_lines : AllByRecursion BeginsNoIteration nodes
  -- both are polynomials that a `Poly` may be
  pub steps_fit : IsPoly steps
  pub most_fits : IsPoly most

-- The call, the elements and the return take a step each, and what is inserted is held beside what was there.
abbrev pub StraightTablesPrint : Type 0
StraightTablesPrint =
    (library : Library) (entry : ℕ) (text : List ℕ) (elements : List Element)
    → IsStraight library entry text elements → length text ≤ LIMIT
    → Prints (straight_nodes entry text elements) (straight_table elements)
    (number (2 + length elements)) (and_more (inserted elements))

-- no iteration is known to be open
abbrev pub IsOutside : Option Facts → Type 0
IsOutside None = ⊤
IsOutside (Some facts) = (facts.position.falls ≡ []) × (facts.iterations ≡ [])

abbrev pub RowIsOutside : Row → Type 0
RowIsOutside row = IsOutside row.facts

-- A library is expanded from an entry, its table is derived with nothing chosen and is closed, and so much is printed.
-- No row knows of an iteration.
pub record IsAccepted (library : Library) (entry : ℕ) (steps most : Polynomial) : Type 0 where
  pub nodes : List Node
  pub table : Table
  pub expanded : expansion library entry ≡ Ok nodes
  pub derived : derive None nodes [] ≡ Ok table
  pub closed : check None nodes table ≡ Ok tt
  pub prints : Prints nodes table steps most
  pub outside : AllByRecursion RowIsOutside table

abbrev pub StraightTextsAreAccepted : Type 0
StraightTextsAreAccepted =
    (library : Library) (entry : ℕ) (text : List ℕ) (elements : List Element)
    → IsStraight library entry text elements → length text ≤ LIMIT
    → IsAccepted library entry (number (2 + length elements)) (and_more (inserted elements))
