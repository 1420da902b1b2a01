use Rattle.teco_model.proofs.Prelude.{rules, here, part_at, parts_within, parts, empty_pairs}
use Rattle.teco_model.specs.rows.Matches.{MatchRows}

pub match_rows : MatchRows
unfolding here part_at parts_within parts empty_pairs
match_rows = search rules
