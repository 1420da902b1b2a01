-- Tables worked by hand.
use Rattle.teco_law_tables.proofs.Prelude.{rules, digits, int_wrap, readings, blank_len, element_from, element_at}
use Rattle.teco_law_tables.proofs.Prelude.{letters, read_at, flow_ways, ways_at, next_visit, walk, way_numbers, node_at}
use Rattle.teco_law_tables.proofs.Prelude.{nodes_at, expansion, transfer, check_nodes, check, derive, commands, size}
use Rattle.teco_law_tables.proofs.Prelude.{needs_in}
use Rattle.teco_model.specs.Ahead.{reading_at, first_readings}
use Rattle.teco_model.specs.Pattern.{part_at, parts_within, parts}
use Rattle.teco_law_tables.specs.Rows.{WorkedTables}
use Rattle.teco_verifier.specs.table.Written.{written_in, written, ends_in}

pub worked_tables : WorkedTables
unfolding digits int_wrap blank_len element_from element_at letters reading_at first_readings readings part_at
    parts_within parts read_at flow_ways ways_at next_visit walk way_numbers node_at nodes_at expansion transfer
    check_nodes check derive commands size needs_in written_in written ends_in
worked_tables = search rules
