use Rattle.teco_model.proofs.Prelude.{rules, digits, int_wrap, reading_at, first_readings, readings, here, part_at}
use Rattle.teco_model.proofs.Prelude.{parts_within, parts, blank_len, element_from, element_at, empty_pairs, letters}
use Rattle.teco_model.proofs.Prelude.{reply_of, step, run}
use Rattle.teco_model.specs.rows.Sessions.{WorkedRows}

pub worked_rows : WorkedRows
unfolding digits int_wrap empty_pairs blank_len element_from element_at letters reading_at first_readings readings here
    part_at parts_within parts reply_of step run
worked_rows = search rules
