use Rattle.teco_model.proofs.Prelude.{rules, reading_at, first_readings, readings, blank_len, element_from, element_at}
use Rattle.teco_model.proofs.Prelude.{letters}
use Rattle.teco_model.specs.rows.Skips.{SkipRows}

pub skip_rows : SkipRows
unfolding blank_len element_from element_at letters reading_at first_readings readings
skip_rows = search rules
