use Rattle.teco_poly.proofs.Prelude.{sym, Decides-eqb}
use Rattle.teco_poly.proofs.Spelling.{spelled_some}
use Rattle.teco_poly.proofs.text.read.Goals as goal

pub returns-then-is_empty-clause-none : goal.returns-then-is_empty-clause-none
returns-then-is_empty-clause-none c =
    λ p. spelled_some p c.args.text.now ((Decides-eqb _ 0).0 (sym c.if-is_empty.ensures))
