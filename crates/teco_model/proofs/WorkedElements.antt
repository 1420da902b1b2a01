use Rattle.teco_model.proofs.Prelude.{rules, letters}
use Rattle.teco_model.specs.rows.Elements.{ElementRows}

pub element_rows : ElementRows
unfolding letters
element_rows = search rules
