-- The rows, computed.
use Rattle.teco_law_facts.proofs.Prelude.{letters, readings, parts, transfer, refl}
use Rattle.std.specs.Fmt.{digits}
use Rattle.std.specs.Int.{int_wrap}
use Rattle.teco_model.specs.Element.{blank_len, element_from, element_at}
use Rattle.teco_model.specs.Ahead.{reading_at, first_readings}
use Rattle.teco_model.specs.Pattern.{part_at, parts_within}
use Rattle.teco_law_facts.specs.Rows.{FactRows}

pub fact_rows : FactRows
unfolding digits int_wrap blank_len element_from element_at letters reading_at first_readings readings part_at
    parts_within parts transfer
fact_rows = record {
  told = refl;
  turned = refl;
  searched = refl;
  stands = refl;
  too_little = refl;
  back = refl;
  no_fall = refl;
  no_fall_at_all = refl;
  doubled = refl;
  saved = refl;
  not_saved = refl;
  outside = refl;
  too_long = refl;
  by_zero = refl;
  alone = refl;
  below = refl;
  library = refl;
  unanswered = refl;
  no_text = refl;
  pending = refl;
}
