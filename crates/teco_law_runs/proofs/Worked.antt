use Rattle.teco_law_runs.proofs.Prelude.{rules, reading_at, readings, blank_len, element_from, element_at, letters}
use Rattle.teco_law_runs.proofs.Prelude.{read_at, flow_ways, ways_at, next_visit, walk, way_numbers, node_at}
use Rattle.teco_law_runs.proofs.Prelude.{nodes_at, expansion}
use Rattle.teco_model.specs.Ahead.{first_readings}
use Rattle.teco_model.specs.Pattern.{part_at, parts_within, parts}
use Rattle.teco_law_runs.specs.Rows.{WorkedExpansions}

pub worked_expansions : WorkedExpansions
unfolding blank_len element_from element_at letters reading_at first_readings readings part_at parts_within parts
    read_at flow_ways ways_at next_visit walk way_numbers node_at nodes_at expansion
worked_expansions = search rules
