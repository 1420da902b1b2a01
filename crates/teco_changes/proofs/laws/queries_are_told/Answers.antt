use Rattle.teco_changes.proofs.Numerals.{queries_are_told}
use Rattle.teco_changes.proofs.laws.queries_are_told.Goals as goal

pub returns : goal.returns
returns c = queries_are_told
