-- A straight text worked by hand.
use Rattle.teco_law_tables.proofs.Prelude.{refl, arith, digits, int_wrap, blank_len, element_from, element_at, letters}
use Rattle.teco_law_tables.proofs.Prelude.{IsStraight}
use Rattle.teco_law_runs.specs.Rows.{only}
use Rattle.teco_law_tables.specs.straight_text.Rows.{letters_put_in, elements_put_in, WorkedStraightText}
use Rattle.teco_law_tables.proofs.straight_text.Accepting.{straight_texts_are_accepted}

is_straight : IsStraight (only letters_put_in) 0 letters_put_in elements_put_in
unfolding blank_len element_from element_at letters
is_straight = search arith

pub worked_straight_text : WorkedStraightText
unfolding digits int_wrap
worked_straight_text = record {
  straight = is_straight;
  accepted = straight_texts_are_accepted (only letters_put_in) 0 letters_put_in elements_put_in is_straight
      (omega arith);
  commands_text = refl;
  size_text = refl;
}
