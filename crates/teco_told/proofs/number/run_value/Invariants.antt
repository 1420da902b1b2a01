use Rattle.std.proofs.Common.{◌≡◌, take}
use Rattle.teco_model.specs.Arguments as model
use Rattle.teco_told.proofs.number.run_value.Given as goal

-- the value of the digits so far
abbrev pub invariant-loop-digit : goal.invariant-loop-digit
invariant-loop-digit l = l.value ≡ model.run_value (take l.digit-index l.digits)
