use Rattle.teco_poly.proofs.Prelude.{◌-◌}
use Rattle.teco_poly.proofs.text.+read_from.Given as goal

-- the powers that are left
abbrev pub decreases-read_from : goal.decreases-read_from
decreases-read_from l = 9 - l.power
