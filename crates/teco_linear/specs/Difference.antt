-- What a bound on the difference of two symbols says. No symbol stands for 0.
use Rattle.std.specs.Prelude.{ℕ, ℤ, pos, ◌+ℤ◌, ◌-ℤ◌, Option, Some, None}
use Rattle.teco_linear.specs.declared.difference.Difference.{Difference}
use Rattle.teco_linear.specs.Form.{Valuation}

-- the number that a symbol is; no symbol is 0
abbrev pub number_of : Valuation → Option ℕ → ℤ
number_of v None = pos 0
number_of v (Some symbol) = v symbol

-- by how much a difference stays below its bound
abbrev pub slack : Difference → Valuation → ℤ
slack d v = (d.most +ℤ number_of v d.right) -ℤ number_of v d.left
