-- What is known along a straight text.
use Rattle.std.specs.Prelude.{◌≡◌, ℕ, ◌+◌, ◌≤◌, min, List, length, [], ◌∷◌, Some, None, Ok}
use Rattle.teco_base.specs.declared.TheConstants.{LIMIT}
use Rattle.teco_model.specs.Element.{Element}
use Rattle.teco_model.specs.Macros.{Library}
use Rattle.teco_poly.specs.declared.coefficients.TheConstants.{COEFFICIENTS}
use Rattle.teco_poly.specs.Polynomial.{Polynomial, first}
use Rattle.teco_verifier.specs.facts.Facts.{Facts, entry_facts}
use Rattle.teco_verifier.specs.table.Deriving.{derive}
use Rattle.teco_verifier.specs.table.Table.{Row, Table}
use Rattle.teco_law_tables.specs.straight_text.Nodes.{straight_nodes}
use Rattle.teco_law_tables.specs.straight_text.Straight.{inserted_by, IsStraight}

-- N and so much more
abbrev pub and_more : ℕ → Polynomial
and_more count = first COEFFICIENTS (count ∷ 1 ∷ [])

-- Where so much was inserted it is held beside what was there, and stands behind the pointer; of all else is known what
-- is known at the entry.
abbrev pub facts_behind_insertions : ℕ → Facts
facts_behind_insertions count = record entry_facts {
  position = record entry_facts.position { distances = record { back = min count LIMIT; fore = 0 } };
  held = and_more count;
}

abbrev pub row_behind_insertions : ℕ → Row
row_behind_insertions count = record { facts = Some (facts_behind_insertions count); choice = None }

-- the rows of the elements and of the return, where so much was inserted before them
abbrev pub rows_in_text : ℕ → List Element → Table
rows_in_text count [] = row_behind_insertions count ∷ []
rows_in_text count (e ∷ elements) =
    row_behind_insertions count ∷ rows_in_text (count + inserted_by e) elements

abbrev pub straight_table : List Element → Table
straight_table elements = row_behind_insertions 0 ∷ rows_in_text 0 elements

-- That is the table that is derived, with nothing chosen.
abbrev pub StraightTablesAreDerived : Type 0
StraightTablesAreDerived =
    (library : Library) (entry : ℕ) (text : List ℕ) (elements : List Element)
    → IsStraight library entry text elements → length text ≤ LIMIT
    → derive None (straight_nodes entry text elements) [] ≡ Ok (straight_table elements)
