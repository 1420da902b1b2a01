-- Straight text is accepted.
use Rattle.teco_law_tables.proofs.Prelude.{ℕ, ◌+◌, List, [], ◌∷◌, refl, AllByRecursion, Element, rows_in_text}
use Rattle.teco_law_tables.proofs.Prelude.{straight_table, inserted_by, straight_nodes}
use Rattle.teco_law_tables.specs.straight_text.Accepted.{RowIsOutside, StraightTextsAreAccepted}
use Rattle.teco_law_tables.proofs.straight_text.Closing.{straight_tables_are_closed}
use Rattle.teco_law_tables.proofs.straight_text.Deriving.{straight_tables_are_derived}
use Rattle.teco_law_tables.proofs.straight_text.Expanding.{straight_texts_are_expanded}
use Rattle.teco_law_tables.proofs.straight_text.Printing.{straight_tables_print}

rows_outside : (count : ℕ) (elements : List Element) → AllByRecursion RowIsOutside (rows_in_text count elements)
rows_outside count [] = ((refl, refl), tt)
rows_outside count (e ∷ elements) = ((refl, refl), rows_outside (count + inserted_by e) elements)

pub straight_texts_are_accepted : StraightTextsAreAccepted
straight_texts_are_accepted library entry text elements is l = record {
  nodes = straight_nodes entry text elements;
  table = straight_table elements;
  expanded = straight_texts_are_expanded library entry text elements is;
  derived = straight_tables_are_derived library entry text elements is l;
  closed = straight_tables_are_closed library entry text elements is l;
  prints = straight_tables_print library entry text elements is l;
  outside = ((refl, refl), rows_outside 0 elements);
}
