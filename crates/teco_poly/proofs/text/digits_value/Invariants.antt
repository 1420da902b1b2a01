use Rattle.teco_poly.proofs.Prelude.{◌≡◌, ◌^◌, ◌<◌, drop}
use Rattle.teco_poly.proofs.Digits.{read_on}
use Rattle.teco_poly.proofs.text.digits_value.Given as goal

-- the number so far and the digits that are left make the whole number
abbrev pub invariant-loop-digit : goal.invariant-loop-digit
invariant-loop-digit l = record {
  whole : read_on l.number (drop l.digit-index l.digits) ≡ read_on 0 l.digits;
  small : l.number < 2 ^ 64;
}
