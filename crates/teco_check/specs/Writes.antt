-- Which register's number is written at a node.
use Rattle.std.specs.Prelude.{ℕ, Option, Some, None}
use Rattle.teco_model.specs.Element.{Element}
use Rattle.teco_verifier.specs.table.Written.{set_by}

abbrev pub set_at : Option Element → Option ℕ
set_at None = None
set_at (Some e) = set_by e.kind
