use Rattle.teco_model.proofs.Prelude.{rules, empty_pairs}
use Rattle.teco_model.proofs.rows.file_rows.Goals as goal

pub returns : goal.returns
unfolding empty_pairs
returns c = search rules
