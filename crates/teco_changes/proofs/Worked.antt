-- Rows worked by hand.
use Rattle.std.proofs.Common.{refl}
use Rattle.teco_changes.specs.Rows.{ElementRows}
use Rattle.teco_model.specs.Element.{element_from}
use Rattle.teco_model.specs.Letters.{letters}

pub element_rows : ElementRows
unfolding element_from letters
element_rows = record {
  inserts = refl;
  inserts_byte = refl;
  inserts_tab = refl;
  inserts_number = refl;
  gets = refl;
  types_text = refl;
  deletes = refl;
  deletes_lines = refl;
  replaces = refl;
  replaces_last = refl;
  finds = refl;
  turns = refl;
  writes_range = refl;
  writes = refl;
  yanks = refl;
  appends = refl;
  moves = refl;
  calls = refl;
  copies = refl;
  appends_behind_operator = refl;
  appends_alone = refl;
  inserts_known = refl;
  inserts_unknown = refl;
  inserts_text = refl;
  digits = refl;
  digits_behind_operator = refl;
  operator = refl;
  takes = refl;
  takes_as_many = refl;
  takes_fewer = refl;
  takes_lines = refl;
  takes_class = refl;
  takes_length = refl;
  takes_place = refl;
  perhaps = refl;
  sought = refl;
  asked = refl;
  left = refl;
  sought_last = refl;
  stays = refl;
  goes = refl;
  moves_away = refl;
  moves_asking = refl;
  minus = refl;
  length = refl;
  place = refl;
  takes_known = refl;
  takes_before = refl;
  asks = refl;
  asks_before = refl;
  less = refl;
  equals = refl;
  differs = refl;
  digit = refl;
  passes = refl;
}
